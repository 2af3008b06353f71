-- Weights in a piece: how the holes below a side are shared out between its children, and how many triangles they leave.
-- Assumes that the lengths are those of a filled ring in preorder, and that the piece's holes stand in a row below its top.
use Rattle.std.proofs.Common.{◌≡◌, ℕ, ◌+◌, ◌*◌, ◌≤◌, true, false, cond, ltb, leb, List, sum_by, filter, subst, ⊎_elim, arith}
use Rattle.std.proofs.lemmas.Bool.{cases_Bool, cases_lt, cond-true, cond-false, and_parts, and_from, and_cases, leb-true, leb-false, ltb-true, ltb-false, le-leb, lt-ltb}
use Rattle.pieces.specs.Sides.{Preorder, Inside, within, Child, right_of}
use Rattle.records.specs.Few.{Among}
use Rattle.pieces.specs.Cuts.{load, triangles, seams}
use Rattle.pieces.proofs.Tree.{Fit, halves, nested, inside_fits, parent_inside}
use Rattle.pieces.proofs.Chosen.{sum_kept, sum_ones, sum_add, sum_same, sum_has, sum_each}
use Rattle.pieces.proofs.Rows.{Row, inner, row_at, row_sum, row_kept}

pub within_inside : (len : ℕ → ℕ) (i j : ℕ) → within len i j ≡ true → Inside len i j
within_inside len i j t =
    let p = and_parts (leb i j) (ltb (j + 1) (i + 2 * len i)) t in
    (leb-true i j p.0, ltb-true (j + 1) (i + 2 * len i) p.1)

pub inside_within : (len : ℕ → ℕ) (i j : ℕ) → Inside len i j → within len i j ≡ true
inside_within len i j h = and_from (leb i j) (ltb (j + 1) (i + 2 * len i)) (le-leb i j h.0) (lt-ltb (j + 1) (i + 2 * len i) h.1)

pub within_outside : (len : ℕ → ℕ) (i j : ℕ) → within len i j ≡ false → Inside len i j → ⊥
within_outside len i j t h =
    ⊎_elim (λ e. omega (arith, leb-false i j e, h.0)) (λ e. omega (arith, ltb-false (j + 1) (i + 2 * len i) e, h.1))
    (and_cases (leb i j) (ltb (j + 1) (i + 2 * len i)) t)

pub outside_within : (len : ℕ → ℕ) (i j : ℕ) → (Inside len i j → ⊥) → within len i j ≡ false
outside_within len i j no' = ⊎_elim (λ t. absurd (no' (within_inside len i j t))) (λ t. t) (cases_Bool (within len i j))

-- no hole has the side u below it
abbrev pub Clear : (ℕ → ℕ) → List ℕ → ℕ → Type 0
Clear len hs u = (h : ℕ) → Among h hs → Inside len h u → ⊥

-- a top and holes that describe a piece
pub record Sound (n : ℕ) (len : ℕ → ℕ) (top : ℕ) (hs : List ℕ) : Type 0 where
  pub fit : Fit n len top
  pub base : 2 ≤ len top
  pub row : Row len (top + 2) hs (top + 2 * len top)
  pub few : seams top hs ≤ 4

module _ (n : ℕ) (len : ℕ → ℕ) (pre : Preorder n len) (top : ℕ) (hs : List ℕ) (s : Sound n len top hs) where
  pub hole_inside : (h : ℕ) → Among h hs → Inside len top h
  hole_inside h m = let r = row_at len (top + 2) hs (top + 2 * len top) h s.row m in (omega arith, omega arith)

  pub top_clear : Clear len hs top
  top_clear h m i = let r = row_at len (top + 2) hs (top + 2 * len top) h s.row m in omega arith

  -- all holes are below the top
  pub load_top : (w : ℕ → ℕ) → load len w hs top ≡ sum_by w hs
  load_top w =
      sum_same (λ h. cond (within len top h) (w h) 0) w hs
      (λ h m. cond-true (within len top h) (w h) 0 (inside_within len top h (hole_inside h m)))

  -- a hole below a clear base is below one of its children, and only below one
  shared_out : (w : ℕ → ℕ) (u : ℕ) → Inside len top u → Clear len hs u → 2 ≤ len u → (h : ℕ) → Among h hs → cond (within len u h) (w h) 0 ≡ cond (within len (u + 1) h) (w h) 0 + cond (within len (right_of len u) h) (w h) 0
  shared_out w u into clear base h m =
      let fu = inside_fits n len pre top u s.fit into in
      let p = halves n len pre u fu base in
      let on = λ (i : ℕ) (k : Inside len i h). cond-true (within len i h) (w h) 0 (inside_within len i h k) in
      let off = λ (i : ℕ) (k : Inside len i h → ⊥). cond-false (within len i h) (w h) 0 (outside_within len i h k) in
      ⊎_elim
      (λ t.
      let hin = within_inside len u h t in
      let other : u ≡ h → ⊥ = λ e. clear h m (subst (λ k. Inside len k u) e (omega arith, omega arith)) in
      ⊎_elim
      (λ l. omega (arith, on u hin, on (u + 1) (omega arith, omega arith), off (right_of len u) (λ k. omega arith)))
      (λ l. omega (arith, on u hin, on (right_of len u) (omega arith, omega arith), off (u + 1) (λ k. omega arith)))
      (cases_lt h (right_of len u)))
      (λ t.
      let hout = within_outside len u h t in
      omega (arith, off u hout, off (u + 1) (λ k. hout (omega arith, omega arith)), off (right_of len u) (λ k. hout (omega arith, omega arith))))
      (cases_Bool (within len u h))

  pub load_halves : (w : ℕ → ℕ) (u : ℕ) → Inside len top u → Clear len hs u → 2 ≤ len u → load len w hs u ≡ load len w hs (u + 1) + load len w hs (right_of len u)
  load_halves w u into clear base =
      sum_add (λ h. cond (within len u h) (w h) 0) (λ h. cond (within len (u + 1) h) (w h) 0) (λ h. cond (within len (right_of len u) h) (w h) 0) hs
      (shared_out w u into clear base)

  -- the holes below a side leave it at least as many triangles as their own bases
  pub load_bound : (x : ℕ) → Fit n len x → 1 ≤ len x → (2 * load len (inner len) hs x + load len (λ _. 1) hs x + 1 ≤ 2 * len x) × (load len (λ _. 1) hs x ≤ load len (inner len) hs x)
  load_bound x fx rises =
      let ks = filter (within len x) hs in
      let row = row_kept len (within len x) (top + 2) hs (top + 2 * len top) (x + 1) (x + 2 * len x) s.row
      (λ h m t. let i = within_inside len x h t in (omega arith, nested n len pre x h fx i)) (omega arith) in
      let sum = row_sum len (x + 1) ks (x + 2 * len x) row in
      let a = sum_kept (within len x) (inner len) hs in
      let b = sum_kept (within len x) (λ _. 1) hs in
      let c = sum_ones ks in
      let d = sum_each (inner len) ks (λ h m. let r = row_at len (x + 1) ks (x + 2 * len x) h row m in omega arith) in
      (omega arith, omega arith)

  pub load_has : (w : ℕ → ℕ) (x h : ℕ) → Among h hs → Inside len x h → w h ≤ load len w hs x
  load_has w x h m i =
      omega (arith, sum_has (λ k. cond (within len x k) (w k) 0) hs h m, cond-true (within len x h) (w h) 0 (inside_within len x h i))

  -- a clear base has one triangle more than its children have
  pub triangles_halves : (u : ℕ) → Inside len top u → Clear len hs u → 2 ≤ len u → triangles len hs u ≡ 1 + (triangles len hs (u + 1) + triangles len hs (right_of len u))
  triangles_halves u into clear base =
      let fu = inside_fits n len pre top u s.fit into in
      let p = halves n len pre u fu base in
      let e = load_halves (inner len) u into clear base in
      let l = load_bound (u + 1) (omega arith) p.0 in
      let r = load_bound (right_of len u) (omega arith) p.1 in
      omega arith

  -- a child of a clear base is clear, or it is a hole
  pub clear_child : (u x : ℕ) → Inside len top u → Clear len hs u → Child len u x → (Among x hs → ⊥) → Clear len hs x
  clear_child u x into clear c other h m i =
      let fu = inside_fits n len pre top u s.fit into in
      ⊎_elim (λ e. other (subst (λ k. Among k hs) e m)) (λ k. clear h m k) (parent_inside n len pre u x h fu c i)
