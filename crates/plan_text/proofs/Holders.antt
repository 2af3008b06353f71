-- How many pieces hold a lane: the length of the way up from a side's leaf piece, in a division.
-- Assumes nothing, but for the last section a division.
use Rattle.std.proofs.Common.{◌≡◌, ℕ, zero, suc, ◌+◌, ◌-◌, ◌*◌, ◌<◌, ◌≤◌, min, Bool, true, false, ltb, List, [], ◌∷◌, length, sym, refl, ap, ◌∙◌, subst, inl, inr, ⊎_elim, arith}
use Rattle.std.proofs.lemmas.List.{length-take-le}
use Rattle.std.proofs.lemmas.Bool.{cond-true, cond-false, cases_Bool, and_parts, ltb-true}
use Rattle.std.proofs.Math.Nat.{eq-or-lt_of_le}
use Rattle.ring.specs.declared.Side.{Side}
use Rattle.records.specs.declared.Piece.{Piece}
use Rattle.records.specs.Few.{Among}
use Rattle.pieces.specs.Sides.{Ends, span, Filled, Belongs}
use Rattle.pieces.specs.Holding.{piece_at, holds, count}
use Rattle.pieces.specs.Division.{Division, LeafMarked}
use Rattle.pieces.specs.Holders.{climbs, way_up}
use Rattle.pieces.proofs.LaneHolders.{lane_holders}
use Rattle.holders.specs.Walks.{Walked}
use Rattle.plan_text.specs.Laid.{leaf_of, way_length, holder_count, MostHolders}

-- the numbers fall, and all are below m
abbrev pub FallsBelow : ℕ → List ℕ → Type 0
FallsBelow m [] = Unit {0}
FallsBelow m (w ∷ ws) = (w < m) × FallsBelow w ws

pub Among-below : (p m : ℕ) (ws : List ℕ) → FallsBelow m ws → Among p ws → p < m
Among-below p m [] falls at = absurd at
Among-below p m (w ∷ ws) falls at =
    ⊎_elim (λ is. omega (arith, falls.0)) (λ more. omega (arith, falls.0, Among-below p w ws falls.1 more)) at

-- a higher bound holds too
pub FallsBelow-le : (m k : ℕ) (ws : List ℕ) → m ≤ k → FallsBelow m ws → FallsBelow k ws
FallsBelow-le m k [] le falls = tt
FallsBelow-le m k (w ∷ ws) le falls = (omega (arith, falls.0), falls.1)

-- numbers that fall, and are just those below m that pass a test, are as many as pass it
pub count_listed : (f : ℕ → Bool) (m : ℕ) (ws : List ℕ) → FallsBelow m ws → ((p : ℕ) → p < m → f p ≡ true → Among p ws) → ((p : ℕ) → Among p ws → f p ≡ true) → length ws ≡ count f m
count_listed f zero [] falls all only = refl
count_listed f zero (w ∷ ws) falls all only = absurd (omega (arith, falls.0))
count_listed f (suc m) [] falls all only =
    ⊎_elim
    (λ passes. absurd (all m (omega arith) passes))
    (λ fails. omega (arith, cond-false {A = ℕ} (f m) 1 0 fails, count_listed f m [] tt (λ p lt passes. all p (omega arith) passes) only))
    (cases_Bool (f m))
count_listed f (suc m) (w ∷ ws) falls all only =
    let le : w ≤ m = omega (arith, falls.0) in
    ⊎_elim
    (λ (is : w ≡ m).
    let passes : f m ≡ true = subst (λ x. f x ≡ true) is (only w (inl refl)) in
    let rest =
    count_listed f m ws (subst (λ x. FallsBelow x ws) is falls.1)
    (λ p lt yes. ⊎_elim (λ (same : p ≡ w). absurd (omega arith)) (λ more. more) (all p (omega arith) yes))
    (λ p at. only p (inr at)) in
    omega (arith, cond-true {A = ℕ} (f m) 1 0 passes, rest))
    (λ (lt : w < m).
    let rest = count_listed f m (w ∷ ws) (lt, falls.1) (λ p below yes. all p (omega arith) yes) only in
    ⊎_elim
    (λ passes. absurd (⊎_elim (λ (same : m ≡ w). omega arith) (λ more. omega (arith, Among-below m w ws falls.1 more)) (all m (omega arith) passes)))
    (λ fails. omega (arith, cond-false {A = ℕ} (f m) 1 0 fails, rest))
    (cases_Bool (f m)))
    (eq-or-lt_of_le le)

-- a way up goes to lower numbers
pub way_up_falls : (ps : List Piece) (f p : ℕ) → FallsBelow (p + 1) (way_up ps f p)
way_up_falls ps zero p = tt
way_up_falls ps (suc f) p =
    ⊎_elim
    (λ (goes : climbs ps p ≡ true).
    let lower : (piece_at ps p).parent < p =
    ltb-true (piece_at ps p).parent p (and_parts (ltb p (length ps)) (ltb (piece_at ps p).parent p) goes).1 in
    let more = FallsBelow-le ((piece_at ps p).parent + 1) p (way_up ps f (piece_at ps p).parent) (omega arith) (way_up_falls ps f (piece_at ps p).parent) in
    (omega arith, subst (FallsBelow p) (sym (cond-true (climbs ps p) (way_up ps f (piece_at ps p).parent) [] goes)) more))
    (λ (stops : climbs ps p ≡ false). (omega arith, subst (FallsBelow p) (sym (cond-false (climbs ps p) (way_up ps f (piece_at ps p).parent) [] stops)) tt))
    (cases_Bool (climbs ps p))

-- a way up of any length but none has its first piece
pub way_up_some : (ps : List Piece) (f p : ℕ) → 0 < f → 0 < length (way_up ps f p)
way_up_some ps zero p some = absurd (omega arith)
way_up_some ps (suc f) p some = omega arith

-- what a walk up into an area of 41 places writes is the whole way up
pub walked_length : (ps : List Piece) (p : ℕ) (out : List ℕ) (r : ℕ) (out' : List ℕ) → length out ≡ 41 → length out' ≡ length out → Walked ps p out r out' → r ≡ way_length ps p
unfolding way_length
walked_length ps p out r out' wide same walked =
    let m : min (length out) 41 ≡ 41 = omega arith in
    let inside : r ≤ length out' = omega (arith, walked.inside) in
    sym (length-take-le r out' inside) ∙ ap length (walked.numbers ∙ ap (λ f. way_up ps f p) m)

-- there is always one
way_length_some : (ps : List Piece) (p : ℕ) → 0 < way_length ps p
unfolding way_length
way_length_some ps p = way_up_some ps 41 p (omega arith)

module _ (n : ℕ) (e : Ends) (ps : List Piece) (fl : Filled n e) (d : Division n e ps) (long : 2 * n ≤ length ps + 5) where
  -- the way up from a side's leaf piece has as many pieces as hold the side's lanes
  way_up_counted : (i leaf b f : ℕ) → i + 3 < 2 * n → LeafMarked n (span e) ps i leaf → Belongs (span e) i b → 41 ≤ f → length (way_up ps f leaf) ≡ holder_count n e ps b
  way_up_counted i leaf b f range marked own enough =
      let listed = lane_holders n e ps fl d long i leaf f range marked enough in
      count_listed (λ p. holds (span e) (piece_at ps p) b) (2 * n - 5) (way_up ps f leaf)
      (FallsBelow-le (leaf + 1) (2 * n - 5) (way_up ps f leaf) (omega (arith, marked.in_range)) (way_up_falls ps f leaf))
      (λ p lt held. listed.all p b (omega arith) own held)
      (λ p at. listed.only p b own at)

  pub way_length_counted : (i leaf b : ℕ) → i + 3 < 2 * n → LeafMarked n (span e) ps i leaf → Belongs (span e) i b → way_length ps leaf ≡ holder_count n e ps b
  unfolding way_length
  way_length_counted i leaf b range marked own = way_up_counted i leaf b 41 range marked own (omega arith)

-- the greatest length of a way up, and what it is in a division
pub most_holders_is : (sides : List Side) (ps : List Piece) (r : ℕ) → r ≤ 41 → ((i : ℕ) → i < length sides → way_length ps (leaf_of sides i) ≤ r) → (0 < r → (i : ℕ) × (i < length sides) × (way_length ps (leaf_of sides i) ≡ r)) → MostHolders sides ps r
most_holders_is sides ps r few none reached = record {
  at_most = few;
  none_more = none;
  reached = reached;
  in_a_division = λ n e ring.
      let long : 2 * n ≤ length ps + 5 = omega (arith, ring.all_pieces) in
      let counted = way_length_counted n e ps ring.filled ring.division long in
      let some : 0 < r = omega (arith, way_length_some ps (leaf_of sides 0), none 0 (omega (arith, ring.filled.least, ring.all_sides))) in
      let best = reached some in
      let range : best.0 + 3 < 2 * n = omega (arith, best.1, ring.all_sides) in
      let marked = ring.leaves best.0 range in
      record {
        none_more = λ i b inside own. omega (arith, counted i (leaf_of sides i) b inside (ring.leaves i inside) own, none i (omega (arith, ring.all_sides)));
        reached = (best.0, marked.triangle, range, marked.belongs, sym (counted best.0 (leaf_of sides best.0) marked.triangle range marked marked.belongs) ∙ best.2);
      };
}
