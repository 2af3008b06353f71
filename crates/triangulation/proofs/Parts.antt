-- A side parts the triangles of a triangulation: those in its subtree, and those with no terminal strictly between its ends.
-- Assumes that the tree spans its polygon.
use Rattle.std.proofs.Common.{◌≡◌, ℕ, ◌<◌, inl, inr, arith}
use Rattle.triangulation.specs.Trees.{Tree, node, Spans, Stands, here, left, right}
use Rattle.triangulation.specs.Geometry.{Parted}
use Rattle.triangulation.proofs.Places.{spans_rises, stands_spans, stands_within}

-- A triangle's third terminal lies between the ends of its base.
third_between : {c : ℕ} {l r : Tree} {x y j : ℕ} {t : Tree} {p q k : ℕ} → Stands (node c l r) x y j t p q k → Spans t p q → (x < c) × (c < y)
third_between {c} {l} {r} {x} {y} w s =
    let m = stands_spans w s in
    (spans_rises l x c m.0, spans_rises r c y m.1)

-- Go down the tree as long as both lie in the same part of it. Where the triangle is the tree's own, or the two lie in
-- different parts, all three terminals are at or beyond the ends of the side's part.
pub stands_parts : {u : Tree} {a b i : ℕ} {c : ℕ} {l r : Tree} {x y j : ℕ} {t : Tree} {p q k : ℕ}
    → Stands u a b i t p q k → Stands (node c l r) x y j t p q k → Spans t p q → Parted a b i x c y j
stands_parts (here e f g h) w s =
    let m = stands_within w s in
    let n = third_between w s in
    inl (omega arith)
stands_parts {c = c} (left {c = c'} {r = r'} {b = q} v) (here e f g h) s =
    let m = stands_within v s.0 in
    let n = spans_rises r' c' q s.1 in
    let z : c ≡ c' = cc in
    inr (inl (omega arith), (inl (omega arith), inr (omega arith), inr (omega arith)))
stands_parts (left v) (left w) s = stands_parts v w s.0
stands_parts (left v) (right w) s =
    let m = stands_within v s.0 in
    let o = stands_within w s.1 in
    let n = third_between w s.1 in
    inr (inr (omega arith), (inr (omega arith), inr (omega arith), inr (omega arith)))
stands_parts {c = c} (right {c = c'} {l = l'} {a = p} v) (here e f g h) s =
    let m = stands_within v s.1 in
    let n = spans_rises l' p c' s.0 in
    let z : c ≡ c' = cc in
    inr (inl (omega arith), (inl (omega arith), inl (omega arith), inr (omega arith)))
stands_parts (right v) (left w) s =
    let m = stands_within v s.1 in
    let o = stands_within w s.0 in
    let n = third_between w s.0 in
    inr (inl (omega arith), (inl (omega arith), inl (omega arith), inl (omega arith)))
stands_parts (right v) (right w) s = stands_parts v w s.1
