-- A claim about a network of few terminals is shown by a test that is computed.
-- Assumes nothing; the kinds keep the laws.
use Rattle.std.proofs.Common.{◌≡◌, ℕ, zero, suc, ◌-◌, ◌<◌, Bool, true, false, not, ◌&&◌, ◌||◌, eqb, ltb, ◌⊎◌, List, [], ◌∷◌, sym, refl, ap, ◌∙◌, subst, inl, inr, ⊎_elim, arith}
use Rattle.std.proofs.lemmas.Bool.{cases_Bool, and_parts, or_cases, not-true, ltb-true, cond-false, cases_order, eqb-true}
use Rattle.rates.specs.Kinds.{Kind, Laws, NoWorse}
use Rattle.rates.specs.Order.{same, not_both, le_refl, le_none, le_from}
use Rattle.rates.specs.AmountLaws.{cents_laws, cents_strict}
use Rattle.rates.specs.LoadLaws.{tonnes_laws}
use Rattle.rates.specs.PairLaws.{pair_laws}
use Rattle.rates.specs.Amounts.{cents_kind}
use Rattle.rates.specs.Loads.{tonnes_kind}
use Rattle.trips.specs.Trips.{LaneMap, Trip, rate, lanes, Earning, NoEarning, BestRate, Over}
use Rattle.trips.specs.Trips.Trip.{stay, go}
use Rattle.trips.specs.Theorems.{Relaxed}
use Rattle.trips.proofs.BestExists.{within, within_reached}
use Rattle.trips.proofs.Shown.{relaxed_table_is_best, relaxed_table_earns_not}
use Rattle.trips.specs.Examples.{Kinds, kind_of, Lane, network, Claim, Holds}
use Rattle.trips.specs.Examples.Kinds.{in_cents, in_tonnes, in_cents_before_tonnes}
use Rattle.trips.specs.Examples.Claim.{best, earns, earns_not}

-- a test passes at each number below n
abbrev every : ℕ → (ℕ → Bool) → Bool
every zero f = true
every (suc n) f = f n && every n f

at : (n : ℕ) (f : ℕ → Bool) → every n f ≡ true → (k : ℕ) → k < n → f k ≡ true
at zero f e k l = absurd (omega arith)
at (suc n) f e k l =
    let p = and_parts (f n) (every n f) e in
    ⊎_elim (λ z. ap f z ∙ p.0) (⊎_elim (λ h. at n f p.1 k h) (λ h. absurd (omega arith))) (cases_order k n)

-- a test passes at some number below n
abbrev some : ℕ → (ℕ → Bool) → Bool
some zero f = false
some (suc n) f = f n || some n f

found : (n : ℕ) (f : ℕ → Bool) → some n f ≡ true → (k : ℕ) × (f k ≡ true)
found zero f e = absurd (bool_clash e)
  where
    bool_clash : false ≡ true → ⊥
    bool_clash z = let w : ◌≡◌ {A = ℕ} 0 1 = cc in omega arith
found (suc n) f e = ⊎_elim (λ h. (n, h)) (found n f) (or_cases (f n) (some n f) e)

abbrev laws_of : (k : Kinds) → Laws (kind_of k)
laws_of in_cents = cents_laws
laws_of in_tonnes = tonnes_laws
laws_of in_cents_before_tonnes = pair_laws cents_kind tonnes_kind cents_laws tonnes_laws cents_strict

module _ {M : Type 0} (K : Kind M) (X : Laws K) (m : LaneMap M) (n : ℕ) where
  -- the best rates of trips of few lanes
  abbrev table : ℕ → ℕ → M
  table u v = within K X m n (n - 1) u v

  abbrev no_better : M → M → Bool
  no_better a b = not (K.better a b)

  -- neither of two members is better
  abbrev same_test : M → M → Bool
  same_test a b = no_better a b && no_better b a

  same_tested : (a b : M) → same_test a b ≡ true → a ≡ b
  same_tested a b e =
      let p = and_parts (no_better a b) (no_better b a) e in
      same K X (record { fact = not-true (K.better b a) p.1 }) (record { fact = not-true (K.better a b) p.0 })

  -- staying is still, and no lane betters the table
  abbrev relaxed_test : Bool
  relaxed_test =
      every n (λ u. same_test (table u u) K.still)
      && every n (λ u. every n (λ v. every n (λ w. no_better (K.join (table u v) (m v w)) (table u w))))

  staying : relaxed_test ≡ true → (u : ℕ) → u < n → table u u ≡ K.still
  staying e u l =
      let p = and_parts (every n (λ u. same_test (table u u) K.still)) (every n (λ u. every n (λ v. every n (λ w. no_better (K.join (table u v) (m v w)) (table u w))))) e in
      same_tested (table u u) K.still (at n (λ x. same_test (table x x) K.still) p.0 u l)

  relaxed : relaxed_test ≡ true → Relaxed K m n table
  relaxed e = record {
    staying_no_better = λ u l. subst (NoWorse K (table u u)) (staying e u l) (le_refl K X (table u u));
    lane_betters_none = λ u v w l k j s.
        let p = and_parts (every n (λ u. same_test (table u u) K.still)) (every n (λ u. every n (λ v. every n (λ w. no_better (K.join (table u v) (m v w)) (table u w))))) e in
        record {
          fact = not-true (K.better (K.join (table u v) (m v w)) (table u w))
              (at n (λ x. no_better (K.join (table u v) (m v x)) (table u x)) (at n (λ y. every n (λ x. no_better (K.join (table u y) (m y x)) (table u x))) (at n (λ z. every n (λ y. every n (λ x. no_better (K.join (table z y) (m y x)) (table z x)))) p.1 u l) v k) w j);
        };
  }

  tested_earns_not : Over K n m → relaxed_test ≡ true → NoEarning K m
  tested_earns_not o e = relaxed_table_earns_not K X m n table o (relaxed e) (staying e)

  tested_best : Over K n m → relaxed_test ≡ true → (u v : ℕ) (r : M) → u < n → v < n → same_test r (table u v) ≡ true → BestRate K m u v r
  tested_best o e u v r l k t =
      subst (BestRate K m u v) (sym (same_tested r (table u v) t))
      (relaxed_table_is_best K X m n table o (relaxed e) (λ u v _ _. within_reached K X m n (n - 1) u v) u v l k)

  -- some closed trip of at most n lanes is better than still
  abbrev earns_test : Bool
  earns_test = some n (λ u. K.better (within K X m n n u u) K.still)

  lanes_or_still : {u v : ℕ} (t : Trip K m u v) → (0 < lanes K t) ⊎ (rate K t ≡ K.still)
  unfolding rate lanes
  lanes_or_still stay = inr refl
  lanes_or_still (go w s t) = inl (omega arith)

  tested_earns : earns_test ≡ true → Earning K m
  tested_earns e =
      let w = found n (λ u. K.better (within K X m n n u u) K.still) e in
      let u = w.0 in
      ⊎_elim
      (λ z. absurd (not_both K X w.1 (subst (NoWorse K K.still) (sym z) (le_none K X K.still))))
      (λ t.
      let better : K.better (rate K t.0) K.still ≡ true = ap (λ x. K.better x K.still) t.1 ∙ w.1 in
      record {
        at = u;
        trip = t.0;
        some_lane = ⊎_elim (λ h. h) (λ z. absurd (not_both K X better (le_from K X K.still (rate K t.0) (sym z)))) (lanes_or_still t.0);
        earns = better;
      })
      (within_reached K X m n n u u)

-- every lane of a list joins terminals below n
abbrev below_test : (k : Kinds) → ℕ → List (Lane k) → Bool
below_test k n [] = true
below_test k n (l ∷ ls) = (ltb l.from n && ltb l.to n) && below_test k n ls

over_network : (k : Kinds) (n : ℕ) (ls : List (Lane k)) → below_test k n ls ≡ true → Over (kind_of k) n (network k ls)
over_network k n [] e u v s = absurd (s refl)
over_network k n (l ∷ ls) e u v s =
    let p = and_parts (ltb l.from n && ltb l.to n) (below_test k n ls) e in
    let q = and_parts (ltb l.from n) (ltb l.to n) p.0 in
    ⊎_elim
    (λ z.
    let w = and_parts (eqb u l.from) (eqb v l.to) z in
    (subst (λ x. x < n) (sym (eqb-true u l.from w.0)) (ltb-true l.from n q.0), subst (λ x. x < n) (sym (eqb-true v l.to w.1)) (ltb-true l.to n q.1)))
    (λ z. over_network k n ls p.1 u v (λ h. s (cond-false (eqb u l.from && eqb v l.to) l.rate (network k ls u v) z ∙ h)))
    (cases_Bool (eqb u l.from && eqb v l.to))

abbrev pub claim_test : (k : Kinds) → ℕ → List (Lane k) → Claim k → Bool
claim_test k n ls (best u v r) =
    below_test k n ls && (relaxed_test (kind_of k) (laws_of k) (network k ls) n
    && ((ltb u n && ltb v n) && same_test (kind_of k) (laws_of k) (network k ls) n r (table (kind_of k) (laws_of k) (network k ls) n u v)))
claim_test k n ls earns = earns_test (kind_of k) (laws_of k) (network k ls) n
claim_test k n ls earns_not = below_test k n ls && relaxed_test (kind_of k) (laws_of k) (network k ls) n

pub claim_shown : (k : Kinds) (n : ℕ) (ls : List (Lane k)) (c : Claim k) → claim_test k n ls c ≡ true → Holds k (network k ls) c
claim_shown k n ls (best u v r) e =
    let K = kind_of k in
    let X = laws_of k in
    let m = network k ls in
    let p = and_parts (below_test k n ls) (relaxed_test K X m n && ((ltb u n && ltb v n) && same_test K X m n r (table K X m n u v))) e in
    let q = and_parts (relaxed_test K X m n) ((ltb u n && ltb v n) && same_test K X m n r (table K X m n u v)) p.1 in
    let w = and_parts (ltb u n && ltb v n) (same_test K X m n r (table K X m n u v)) q.1 in
    let z = and_parts (ltb u n) (ltb v n) w.0 in
    tested_best K X m n (over_network k n ls p.0) q.0 u v r (ltb-true u n z.0) (ltb-true v n z.1) w.1
claim_shown k n ls earns e = tested_earns (kind_of k) (laws_of k) (network k ls) n e
claim_shown k n ls earns_not e =
    let p = and_parts (below_test k n ls) (relaxed_test (kind_of k) (laws_of k) (network k ls) n) e in
    tested_earns_not (kind_of k) (laws_of k) (network k ls) n (over_network k n ls p.0) p.1
