-- Places of a sheet, and the sizes that keep each join exact.
-- Assumes the laws.
use Rattle.std.specs.Prelude.{Option, Some, None, unwrap_or}
use Rattle.std.proofs.Common.{◌≡◌, ℕ, ◌+◌, ◌*◌, ◌<◌, ◌≤◌, cond, ltb, List, [], ◌∷◌, map, length, get_or, set, sym, ap, ◌∙◌, subst, ⊎_elim, arith}
use Rattle.std.proofs.lemmas.Bool.{cases_eq}
use Rattle.std.proofs.lemmas.List.{get_or-map, get_or_past, get_or-set_same, get_or-set_other, length-map}
use Rattle.rates.specs.Kinds.{Kind, Laws}
use Rattle.rates.specs.Many.{better_of}
use Rattle.rates.specs.Order.{better_of_either}
use Rattle.records.specs.Few.{Position}
use Rattle.piece_rates.specs.Climbing.{place}
use Rattle.piece_rates.specs.Sizes.{largest, Within}
use Rattle.piece_rates.proofs.Places.{place_first, place_absent}
use Rattle.sheets.specs.Places.{cell, EachPlace, to_seam_at, climb_at, climbed_at}
use Rattle.sheets.specs.declared.parent.Part.{Part}

-- the number that stands for the place of x in a list: its length where x is not there
pub position_place : (xs : List ℕ) (x : ℕ) (o : Option ℕ) → Position xs x o → unwrap_or o (length xs) ≡ place xs x
position_place xs x (Some k) h = sym (place_first xs x k h)
position_place xs x None h = sym (place_absent xs x h)

-- one more place of an area
pub each_next : {X : Type 0} (P : ℕ → X → Type 0) (xs : List X) (i : ℕ) (v : X) → i < length xs → P i v → ((k : ℕ) → k < i → (d : X) → P k (get_or xs k d)) → (k : ℕ) → k < i + 1 → (d : X) → P k (get_or (set xs i v) k d)
each_next P xs i v l here before k m d =
    ⊎_elim
    (λ e. subst (λ j. P j (get_or (set xs i v) j d)) (sym e) (subst (P i) (sym (get_or-set_same xs i v d l)) here))
    (λ n. subst (P k) (sym (get_or-set_other xs i k v d n)) (before k (omega arith) d))
    (cases_eq k i)

module _ {M : Type 0} (K : Kind M) (X : Laws K) where
  better_size : (a b : M) (n : ℕ) → K.size a ≤ n → K.size b ≤ n → K.size (better_of K a b) ≤ n
  better_size a b n h k =
      ⊎_elim (λ e. omega (arith, ap K.size e)) (λ e. omega (arith, ap K.size e)) (better_of_either K X a b)

  pub to_seam_size : (own other : List M) (i : ℕ) (to round : ℕ × ℕ) → Within K own → Within K other → K.size (to_seam_at K own other i to round) ≤ 2 * largest
  to_seam_size own other i to round h k =
      better_size (cell K own i to.0) (K.join (cell K own i round.0) (cell K other round.1 to.1)) (2 * largest)
      (omega (arith, h.bounded (8 * i + to.0)))
      (omega (arith, X.join_size (cell K own i round.0) (cell K other round.1 to.1), h.bounded (8 * i + round.0), k.bounded (8 * round.1 + to.1)))

  -- a place of a row, given the rates to the seam's ends
  pub climbed_there : (p q : Part) (own other : List M) (i k count : ℕ) (rate low high : M) → Within K own → Within K other → low ≡ to_seam_at K own other i (p.low, q.low) (p.high, q.high) → high ≡ to_seam_at K own other i (p.high, q.high) (p.low, q.low) → (K.size low ≤ 2 * largest → K.size high ≤ 2 * largest → rate ≡ cond (ltb k count) (climb_at K p q own other low high i k) K.none) → rate ≡ cond (ltb k count) (climbed_at K p q own other i k) K.none
  climbed_there p q own other i k count rate low high h h' e f g =
      g (omega (arith, ap K.size e, to_seam_size own other i (p.low, q.low) (p.high, q.high) h h'))
      (omega (arith, ap K.size f, to_seam_size own other i (p.high, q.high) (p.low, q.low) h h'))
      ∙ ap (λ v. cond (ltb k count) (climb_at K p q own other v high i k) K.none) e
      ∙ ap (λ v. cond (ltb k count) (climb_at K p q own other (to_seam_at K own other i (p.low, q.low) (p.high, q.high)) v i k) K.none) f

  module _ {V : Type 0} (means : V → M) where
    pub read_past : (vs : List V) (k : ℕ) (v : V) → length vs ≤ k → means v ≡ K.none → means v ≡ get_or (map means vs) k K.none
    read_past vs k v l e = e ∙ sym (get_or_past (map means vs) k K.none (omega (arith, length-map vs means)))

    pub read_there : (vs : List V) (k : ℕ) (v : V) → k < length vs → v ≡ get_or vs k v → means v ≡ get_or (map means vs) k K.none
    read_there vs k v l e = ap means e ∙ sym (get_or-map means vs k v K.none l)

    -- what the values of an area mean, from what fits each place
    pub place_means : {P : ℕ → V → Type 0} (vs : List V) → EachPlace P vs → (f : ℕ → M) → ((k : ℕ) (v : V) → k < length vs → P k v → means v ≡ f k) → (k : ℕ) → k < length vs → get_or (map means vs) k K.none ≡ f k
    place_means [] each f says k l = absurd (omega arith)
    place_means (v ∷ vs) each f says k l =
        get_or-map means (v ∷ vs) k v K.none l ∙ says k (get_or (v ∷ vs) k v) l (each.there k v l)
