-- A side is found by halving: in preorder the records are sorted, so the place that splits them is the side's own.
-- Assumes nothing.
use Rattle.std.proofs.Common.{◌≡◌, ℕ, ◌-◌, ◌<◌, ◌≤◌, min, max, List, length, Some, None, sym, ap, subst, inl, inr, ⊎_elim, arith}
use Rattle.std.proofs.lemmas.Bool.{cases_order, cases_lt}
use Rattle.trips.specs.Links.{Named}
use Rattle.triangulation.specs.Trees.{side_count, Before}
use Rattle.triangulation.proofs.ByPlace.{ring_within}
use Rattle.ring.specs.declared.Side.{Side}
use Rattle.ring.specs.Areas.{side_at, side_ends, Triangulated, Splits, Finds}
use Rattle.ring.proofs.InArea.{stood, area_long, area_by_place}

module _ (n : ℕ) (sides : List Side) (a b low high count place : ℕ) (low_is : low ≡ min a b) (high_is : high ≡ max a b)
    (count_is : count ≡ min (side_count (min n 4096)) (length sides)) (split : Splits sides count low high place) where
  module _ (enough : 3 ≤ n) (few : n ≤ 4096) (T : Triangulated n sides) where
    all_places : count ≡ side_count n
    all_places = let l = area_long n sides (omega arith) T in omega arith

    -- The record of a side with the ends a and b has them in order.
    in_order : (k : ℕ) → k < side_count n → Named (side_ends (side_at sides k)) a b → ((side_at sides k).low ≡ low) × ((side_at sides k).high ≡ high)
    in_order k h m =
        let w = stood n sides (omega arith) T k h in
        let r = (ring_within n T.tree (omega arith) T.spans w.tree w.low w.high k w.stands).2 in
        let p = w.low_is in
        let q = w.high_is in
        (omega arith, omega arith)

    too_low : (k : ℕ) → k < side_count n → (side_at sides k).low ≡ low → (side_at sides k).high ≡ high → k < place → ⊥
    too_low k h x y l =
        let c = all_places in
        let i = split.within in
        let u = split.below (place - 1) (omega arith) in
        ⊎_elim
        (λ (m : k < place - 1). let s = (area_by_place n sides (omega arith) T).sorted k (place - 1) m (omega arith) in omega arith)
        (λ (m : place - 1 ≤ k).
        let z : place - 1 ≡ k = omega arith in
        let v = subst (λ (p : ℕ). Before (side_at sides p).low (side_at sides p).high low high) z u in
        omega arith)
        (cases_lt k (place - 1))

    too_high : (k : ℕ) → k < side_count n → (side_at sides k).low ≡ low → (side_at sides k).high ≡ high → place < k → ⊥
    too_high k h x y l =
        let c = all_places in
        let s = (area_by_place n sides (omega arith) T).sorted place k l h in
        split.above (omega arith)
        (subst (λ (z : ℕ). Before (side_at sides place).low (side_at sides place).high z high) x
        (subst (λ (z : ℕ). Before (side_at sides place).low (side_at sides place).high (side_at sides k).low z) y s))

    -- A side with the ends a and b stands where the records split.
    only_place : (k : ℕ) → k < side_count n → Named (side_ends (side_at sides k)) a b → k ≡ place
    only_place k h m =
        let o = in_order k h m in
        ⊎_elim (λ (e : k ≡ place). e)
        (⊎_elim (λ (l : k < place). absurd (too_low k h o.0 o.1 l)) (λ (l : place < k). absurd (too_high k h o.0 o.1 l)))
        (cases_order k place)

  pub found_side : place < count → (side_at sides place).low ≡ low → (side_at sides place).high ≡ high → Finds n sides a b (Some place)
  found_side h p q =
      record {
        found = (
          omega arith,
          omega arith,
          ⊎_elim
              (λ (l : a < b). inl (omega arith, omega arith))
              (λ (l : b ≤ a). inr (omega arith, omega arith))
              (cases_lt a b),
        );
        complete = λ e m T k l w. ap Some (sym (only_place e m T k l w));
      }

  pub finds_no_side : (place < count → (side_at sides place).low ≡ low → (side_at sides place).high ≡ high → ⊥) → Finds n sides a b None
  finds_no_side h =
      record {
        found = tt;
        complete = λ e m T k l w.
            let z = only_place e m T k l w in
            let o = in_order e m T k l w in
            let c = all_places e m T in
            absurd (h (omega arith)
            (subst (λ (p : ℕ). (side_at sides p).low ≡ low) z o.0)
            (subst (λ (p : ℕ). (side_at sides p).high ≡ high) z o.1));
      }
