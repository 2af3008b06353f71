-- The preorder of a triangulated ring, place by place.
-- Assumes nothing.
use Rattle.std.proofs.Common.{◌≡◌, ℕ, ◌+◌, ◌-◌, ◌*◌, ◌<◌, ◌≤◌, sym, refl, ap, ◌∙◌, subst, add-zero, arith}
use Rattle.trips.specs.Links.{Terminal}
use Rattle.triangulation.specs.Trees.{Tree, leaf, node, RingTree, StandsIn, side_count, here, Before}
use Rattle.triangulation.specs.Geometry.{Places, LengthsFromPlaces, SidesByPlace, OneSubtreeAtAPlace, PreorderIsSorted, Parted, ReadByPlace}
use Rattle.triangulation.proofs.Places.{spans_rises, length_preorder, stands_spans, stands_within, stands_side, stands_left, stands_right, Standing, standing, stands_one, stands_before}
use Rattle.triangulation.proofs.Parts.{stands_parts}

pub ring_standing : (n : ℕ) (t : Tree) → 2 ≤ n → RingTree n t → (j : ℕ) → j < side_count n → Standing t 0 (n - 1) 0 j
ring_standing n t m s j h = standing t 0 (n - 1) 0 j s (omega arith) (omega arith)

pub ring_within : (n : ℕ) (t : Tree) → 2 ≤ n → RingTree n t → (u : Tree) (x y : Terminal) (j : ℕ) → StandsIn n t u x y j → (j < side_count n) × (j + 2 * (y - x) ≤ side_count n + 1) × (x < y) × (y < n)
ring_within n t m s u x y j w = let p = stands_within w s in omega arith

pub one_subtree : OneSubtreeAtAPlace
one_subtree n t m s j h =
    let w = ring_standing n t m s j h in (
      w.tree,
      w.low,
      w.high,
      w.stands,
      λ v a b z. let e = stands_one z w.stands s refl in (e.tree, e.low, e.high),
    )

pub sides_by_place : SidesByPlace
sides_by_place n t m s = (
  let e = length_preorder t 0 (n - 1) s in omega arith,
  λ u x y j d w. ((ring_within n t m s u x y j w).0, stands_spans w s, stands_side w s j d (add-zero j)),
)

-- The children of the side at i, by the ends at their places.
record Children (low high : ℕ → Terminal) (i : ℕ) : Type 0 where
  third : Terminal
  above : low i < third
  below : third < high i
  left_low : low (i + 1) ≡ low i
  left_high : high (i + 1) ≡ third
  right_low : low (i + 2 * (third - low i)) ≡ third
  right_high : high (i + 2 * (third - low i)) ≡ high i

module _ (n : ℕ) (t : Tree) (low high : ℕ → Terminal) (m : 2 ≤ n) (s : RingTree n t)
    (ends : (u : Tree) (x y : Terminal) (j : ℕ) → StandsIn n t u x y j → (low j ≡ x) × (high j ≡ y)) where
  children_of : (u : Tree) (x y : Terminal) (i : ℕ) → StandsIn n t u x y i → x + 2 ≤ y → Children low high i
  children_of leaf x y i w h = let e = stands_spans w s in absurd (omega arith)
  children_of (node c l r) x y i w h =
      let e = stands_spans w s in
      let d = spans_rises l x c e.0 in
      let o = spans_rises r c y e.1 in
      let b = ends (node c l r) x y i w in
      let p = ends l x c (i + 1) (stands_left w) in
      let q = ends r c y (i + 2 * (c - x)) (stands_right w) in
      let z : i + 2 * (c - low i) ≡ i + 2 * (c - x) = ap (λ (k : ℕ). i + 2 * (c - k)) b.0 in
      record {
        third = c;
        above = omega arith;
        below = omega arith;
        left_low = omega arith;
        left_high = p.1;
        right_low = ap low z ∙ q.0;
        right_high = ap high z ∙ (q.1 ∙ sym b.1);
      }

  children_at : (i : ℕ) → i < side_count n → low i + 2 ≤ high i → Children low high i
  children_at i h g =
      let w = ring_standing n t m s i h in
      let e = ends w.tree w.low w.high i w.stands in
      children_of w.tree w.low w.high i w.stands (omega arith)

  ends_within : (i : ℕ) → i < side_count n → (low i < high i) × (i + 2 * (high i - low i) ≤ side_count n + 1)
  ends_within i h =
      let w = ring_standing n t m s i h in
      let e = ends w.tree w.low w.high i w.stands in
      let r = ring_within n t m s w.tree w.low w.high i w.stands in
      omega arith

  -- The left child's length is that of the third terminal from the low end.
  left_span : (i : ℕ) (k : Children low high i) → i + 2 * (high (i + 1) - low (i + 1)) ≡ i + 2 * (k.third - low i)
  left_span i k = let a = k.left_low in let b = k.left_high in omega arith

  by_places : Places n low high
  by_places =
      let z = ends t 0 (n - 1) 0 (here refl refl refl refl) in
      record {
        root_low = z.0;
        root_high = omega arith;
        rising = λ i h. (ends_within i h).0;
        inside = λ i h. (ends_within i h).1;
        left_low = λ i h g. (children_at i h g).left_low;
        left_rising = λ i h g. let k = children_at i h g in omega arith;
        left_high = λ i h g. let k = children_at i h g in omega arith;
        right_low = λ i h g. let k = children_at i h g in ap low (left_span i k) ∙ (k.right_low ∙ sym k.left_high);
        right_high = λ i h g. let k = children_at i h g in ap high (left_span i k) ∙ k.right_high;
      }

  before_at : (i j : ℕ) → i < j → j < side_count n → Before (low i) (high i) (low j) (high j)
  before_at i j l h =
      let v = ring_standing n t m s i (omega arith) in
      let w = ring_standing n t m s j h in
      let p = ends v.tree v.low v.high i v.stands in
      let q = ends w.tree w.low w.high j w.stands in
      subst (λ (z : ℕ). Before z (high i) (low j) (high j)) (sym p.0)
      (subst (λ (z : ℕ). Before v.low z (low j) (high j)) (sym p.1)
      (subst (λ (z : ℕ). Before v.low v.high z (high j)) (sym q.0)
      (subst (λ (z : ℕ). Before v.low v.high w.low z) (sym q.1) (stands_before v.stands w.stands s l))))

  parted_from : (v : Tree) (a b i : ℕ) → StandsIn n t v a b i → (u : Tree) (x y j : ℕ) → StandsIn n t u x y j → x + 2 ≤ y → Parted a b i x (high (j + 1)) y j
  parted_from v a b i w leaf x y j w' h = let e = stands_spans w' s in absurd (omega arith)
  parted_from v a b i w (node c l r) x y j w' h =
      let p = ends l x c (j + 1) (stands_left w') in
      subst (λ (z : ℕ). Parted a b i x z y j) (sym p.1) (stands_parts w w' s)

  parted_at : (i j : ℕ) → i < side_count n → j < side_count n → low j + 2 ≤ high j → Parted (low i) (high i) i (low j) (high (j + 1)) (high j) j
  parted_at i j g h l =
      let v = ring_standing n t m s i g in
      let w = ring_standing n t m s j h in
      let p = ends v.tree v.low v.high i v.stands in
      let q = ends w.tree w.low w.high j w.stands in
      subst (λ (z : ℕ). Parted z (high i) i (low j) (high (j + 1)) (high j) j) (sym p.0)
      (subst (λ (z : ℕ). Parted v.low z i (low j) (high (j + 1)) (high j) j) (sym p.1)
      (subst (λ (z : ℕ). Parted v.low v.high i z (high (j + 1)) (high j) j) (sym q.0)
      (subst (λ (z : ℕ). Parted v.low v.high i w.low (high (j + 1)) z j) (sym q.1)
      (parted_from v.tree v.low v.high i v.stands w.tree w.low w.high j w.stands (omega arith)))))

-- The right child starts where the left one ends.
pub lengths : LengthsFromPlaces
lengths n low high p =
    record {
      root = let a = p.root_low in let b = p.root_high in omega arith;
      positive = λ i h. let a = p.rising i h in omega arith;
      within = λ i h. p.inside i h;
      sum = λ i h g.
          let a : low i + 2 ≤ high i = omega arith in
          let e = p.right_low i h a in
          let f = p.right_high i h a in
          let b = p.left_low i h a in
          let c = p.left_high i h a in
          let k = p.left_rising i h a in
          omega arith;
    }

pub sorted : PreorderIsSorted
sorted n t s u v a b x y i j p q = stands_before p q s

pub read_by_place : ReadByPlace
read_by_place n t low high m s ends =
    let p = by_places n t low high m s ends in
    record { places = p; lengths = lengths n low high p; sorted = before_at n t low high m s ends; parted = parted_at n t low high m s ends }
