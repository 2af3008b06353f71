-- The records of a triangulated side area, place by place.
-- Assumes nothing.
use Rattle.std.proofs.Common.{◌≡◌, ℕ, ◌-◌, ◌<◌, ◌≤◌, false, List, [], ◌∷◌, map, length, get_or, take, drop, sym, refl, ap, ◌∙◌, add-zero, arith, length-take}
use lib.ListN.{length-map}
use Rattle.std.proofs.lemmas.List.{get_or-map, get_or-take, ext_get_or}
use Rattle.trips.specs.Links.{Ends}
use Rattle.triangulation.specs.Trees.{Tree, StandsIn, side_count, preorder, side}
use Rattle.triangulation.proofs.Places.{stands_side}
use Rattle.triangulation.proofs.ByPlace.{sides_by_place, ring_standing, read_by_place}
use Rattle.triangulation.specs.Filling.{Filled}
use Rattle.triangulation.proofs.Fills.{filled_spans}
use Rattle.ring.specs.declared.Link.{Link}
use Rattle.ring.specs.declared.Side.{Side}
use Rattle.ring.specs.Linked.{joins}
use Rattle.ring.specs.Areas.{side_at, side_ends, new_side, Triangulated, FilledWith, AreaByPlace}

-- The ends that belong to the place k of a tree.
abbrev pub ends_in : ℕ → Tree → ℕ → Ends
ends_in n t k = get_or (preorder t 0 (n - 1)) k (side 0 0)

-- The record at places past the end of an area.
abbrev pub blank : Side
blank = record { low = 0; high = 0; link = false; leaf = 0 }

-- What stands at the place k, with the ends that its record has.
pub record Stood (n : ℕ) (t : Tree) (sides : List Side) (k : ℕ) : Type 0 where
  pub tree : Tree
  pub low : ℕ
  pub high : ℕ
  pub stands : StandsIn n t tree low high k
  pub low_is : (side_at sides k).low ≡ low
  pub high_is : (side_at sides k).high ≡ high

module _ (n : ℕ) (sides : List Side) (enough : 2 ≤ n) (T : Triangulated n sides) where
  -- The area is long enough.
  pub area_long : side_count n ≤ length sides
  area_long =
      let e = (sides_by_place n T.tree enough T.spans).0 in
      let m = ap length T.ends in
      let p = length-map (take (side_count n) sides) side_ends in
      let q = length-take (side_count n) sides in
      omega arith

  pub stood_ends : (u : Tree) (x y k : ℕ) → StandsIn n T.tree u x y k → side_ends (side_at sides k) ≡ side x y
  stood_ends u x y k w =
      let long = area_long in
      let h = ((sides_by_place n T.tree enough T.spans).1 u x y k (side 0 0) w).0 in
      let lt : k < length (take (side_count n) sides) = let q = length-take (side_count n) sides in omega arith in
      sym (ap side_ends (get_or-take (side_count n) sides k blank h))
      ∙ (sym (get_or-map side_ends (take (side_count n) sides) k blank (side 0 0) lt)
      ∙ (ap (λ (es : List Ends). get_or es k (side 0 0)) T.ends ∙ stands_side w T.spans k (side 0 0) (add-zero k)))

  pub stood : (k : ℕ) → k < side_count n → Stood n T.tree sides k
  stood k h =
      let w = ring_standing n T.tree enough T.spans k h in
      let e = stood_ends w.tree w.low w.high k w.stands in
      record {
        tree = w.tree;
        low = w.low;
        high = w.high;
        stands = w.stands;
        low_is = ap (λ (z : Ends). z.from) e;
        high_is = ap (λ (z : Ends). z.to) e;
      }

pub area_by_place : AreaByPlace
area_by_place n sides m T =
    read_by_place n T.tree (λ k. (side_at sides k).low) (λ k. (side_at sides k).high) m T.spans
    (λ u x y j w. let e = stood_ends n sides m T u x y j w in (ap (λ (z : Ends). z.from) e, ap (λ (z : Ends). z.to) e))

-- The ends of new records are those that they were made from.
pub ends_of_new : (marks : List Link) (es : List Ends) → map side_ends (map (new_side marks) es) ≡ es
ends_of_new marks [] = refl
ends_of_new marks (e ∷ es) = ap (λ (r : List Ends). e ∷ r) (ends_of_new marks es)

module _ (n : ℕ) (links marks : List Link) (before after : List Side) (p : FilledWith n links marks before after) where
  abbrev pub filled_triangulated : Triangulated n after
  filled_triangulated =
      record {
        tree = p.tree;
        spans = filled_spans (joins links) p.tree 0 (n - 1) p.filled;
        ends = ap (map side_ends) p.records ∙ ends_of_new marks (preorder p.tree 0 (n - 1));
      }

  -- The record at a place, whole.
  pub filled_record : 2 ≤ n → (k : ℕ) → k < side_count n → side_at after k ≡ new_side marks (ends_in n p.tree k)
  filled_record enough k h =
      let m = (sides_by_place n p.tree enough (filled_spans (joins links) p.tree 0 (n - 1) p.filled)).0 in
      sym (get_or-take (side_count n) after k blank h)
      ∙ (ap (λ (xs : List Side). get_or xs k blank) p.records ∙ get_or-map (new_side marks) (preorder p.tree 0 (n - 1)) k (side 0 0) blank (omega arith))

  pub filled_long : 2 ≤ n → side_count n ≤ length after
  filled_long enough = area_long n after enough filled_triangulated

-- A list of records, place by place.
pub filled_from : (n : ℕ) (links marks : List Link) (t : Tree) (before after : List Side) → 2 ≤ n → Filled (joins links) t 0 (n - 1) → side_count n ≤ length after
    → ((k : ℕ) → k < side_count n → side_at after k ≡ new_side marks (ends_in n t k)) → drop (side_count n) after ≡ drop (side_count n) before
    → FilledWith n links marks before after
filled_from n links marks t before after enough f long at rest =
    let m = (sides_by_place n t enough (filled_spans (joins links) t 0 (n - 1) f)).0 in
    let a : length (take (side_count n) after) ≡ side_count n = simp length-take (omega arith) in
    let b : length (take (side_count n) after) ≡ length (map (new_side marks) (preorder t 0 (n - 1))) = simp length-map (omega arith) in
    record {
      tree = t;
      filled = f;
      records = ext_get_or blank (take (side_count n) after) (map (new_side marks) (preorder t 0 (n - 1))) b (λ k l.
          get_or-take (side_count n) after k blank (omega arith)
          ∙ (at k (omega arith) ∙ sym (get_or-map (new_side marks) (preorder t 0 (n - 1)) k (side 0 0) blank (omega arith))));
      rest = rest;
    }
