-- Writing the row of one more terminal into a table, and looking along its loops.
-- Assumes nothing.
use Rattle.std.proofs.Common.{◌≡◌, ℕ, ◌+◌, ◌*◌, ◌<◌, ◌≤◌, Bool, true, false, List, map, length, get_or, sym, ap, refl, ◌∙◌, subst, ⊎_elim, arith, Decides}
use borrow.Rule.Slice.PartMut.{put_mid}
use Rattle.std.proofs.lemmas.Bool.{cases_eq, both_ways}
use Rattle.std.specs.Bool.{MatchBool}
use Rattle.std.specs.List.{range_with_len, AllWithin, HoldsAt}
use Rattle.std.proofs.lemmas.List.FromFn.{length-range_with_len, get_or-range_with_len}
use Rattle.rates.specs.Kinds.{Kind, NoWorse}
use Rattle.trips.specs.Trips.{LaneMap, rate}
use Rattle.slow.specs.Areas.{at, entry}
use Rattle.slow.specs.Rows.{OfTrip, Found, RowsFound, SomeLoopBetter}
use Rattle.slow.proofs.Places.{read_at, row_written, before_row, rows_before, place_within}

module _ {M : Type 0} (K : Kind M) where
  -- a row with the same members is found too
  found_same : (m : LaneMap M) (n u k : ℕ) (row other : ℕ → M) → ((w : ℕ) → w < n → other w ≡ row w) → Found K m n u k row → Found K m n u k other
  found_same m n u k row other same h = record {
    row_of_trips = record {
      of_trips = λ w l. subst (OfTrip K m u w) (sym (same w l)) (h.row_of_trips.of_trips w l);
      small = λ w l. omega (arith, ap K.size (same w l), h.row_of_trips.small w l);
    };
    covers = λ w l t few. subst (λ x. NoWorse K x (rate K t)) (sym (same w l)) (h.covers w l t few);
  }

  module _ {V : Type 0} (means : V → M) where
    pub rows_more : (m : LaneMap M) (n u k : ℕ) (table row : List V) → n * u + n ≤ length table → length row ≡ n → RowsFound K m n u (entry K n (map means table)) → Found K m n u n (at K (map means row)) → RowsFound K m n (u + 1) (entry K n (map means (put_mid (n * u) k table row)))
    rows_more m n u k table row fits long h here x l =
        ⊎_elim
        (λ z. subst (λ y. Found K m n y n (entry K n (map means (put_mid (n * u) k table row)) y)) (sym z)
        (found_same m n u n (at K (map means row)) (entry K n (map means (put_mid (n * u) k table row)) u)
        (λ w p. row_written K means (n * u) k table row w (omega arith) (omega arith)) here))
        (λ z.
        let before : x < u = omega arith in
        found_same m n x n (entry K n (map means table) x) (entry K n (map means (put_mid (n * u) k table row)) x)
        (λ w p. before_row K means (n * u) k table row (n * x + w) (omega arith) (omega (arith, rows_before n x u before))) (h x before))
        (cases_eq x u)

    -- what the test of some value at the own place of a terminal answered
    abbrev pub OwnTest : ℕ → List V → Bool → ℕ → Type 0
    OwnTest n table r u = (v : V) × (v ≡ get_or table (n * u + u) v) × (K.better (means v) K.still ≡ r)

    own_test : (n u : ℕ) (table : List V) (r : Bool) → n * u + u < length table → OwnTest n table r u → K.better (entry K n (map means table) u u) K.still ≡ r
    own_test n u table r l (v, e, t) = ap (λ x. K.better x K.still) (read_at K means table (n * u + u) v l e) ∙ t

    -- what such tests tell of all terminals
    pub loops_tested : (n : ℕ) (table : List V) (r : Bool) → length table ≡ n * n → MatchBool r ((k : ℕ) × (k < length (range_with_len 0 n)) × HoldsAt (OwnTest n table true) (range_with_len 0 n) k) (AllWithin (OwnTest n table false) (range_with_len 0 n) 0 (length (range_with_len 0 n))) → Decides r (SomeLoopBetter K n (entry K n (map means table)))
    loops_tested n table true long (k, l, h) =
        let below : k < n = omega (arith, length-range_with_len 0 n) in
        let here : 0 + k ≡ k = omega arith in
        let test = subst (OwnTest n table true) (get_or-range_with_len 0 n k 0 below ∙ here) (h 0) in
        (λ _. (k, below, own_test n k table true (omega (arith, place_within n k k below below, long)) test), λ _. refl)
    loops_tested n table false long h = (
      λ e. absurd (both_ways false refl e),
      λ (u, below, b).
          let here : 0 + u ≡ u = omega arith in
          let test = subst (OwnTest n table false) (get_or-range_with_len 0 n u 0 below ∙ here) (h u 0 (omega arith) (omega (arith, length-range_with_len 0 n))) in
          absurd (both_ways _ (own_test n u table false (omega (arith, place_within n u u below below, long)) test) b),
    )
