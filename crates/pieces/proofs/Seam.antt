-- The seam of a piece: a base of it below the top, that shares out the holes or the triangles as the two cut rules ask.
-- Assumes that the lengths are those of a filled ring in preorder, and a piece of several triangles.
use Rattle.std.proofs.Common.{◌≡◌, ℕ, ◌+◌, ◌*◌, ◌<◌, ◌≤◌, Bool, true, false, cond, eqb, List, length, refl, arith}
use Rattle.std.proofs.lemmas.Bool.{eqb-true, cond_both}
use Rattle.pieces.specs.Sides.{Preorder, Inside, Child}
use Rattle.records.specs.Limits.{share}
use Rattle.pieces.specs.Cuts.{load, triangles, weight, descend, seams, four, seam_of}
use Rattle.pieces.proofs.Tree.{Fit, inside_fits, child_inside}
use Rattle.pieces.proofs.Chosen.{sum_ones}
use Rattle.pieces.proofs.Rows.{inner}
use Rattle.pieces.proofs.Weights.{Clear, Sound, top_clear, load_top, load_halves, load_bound, load_has, triangles_halves, clear_child}
use Rattle.pieces.proofs.Descent.{descends}

-- what a seam is to its piece; b says whether the cut goes by holes
pub record Cut (len : ℕ → ℕ) (top : ℕ) (hs : List ℕ) (b : Bool) (v : ℕ) : Type 0 where
  pub inside : Inside len top v
  pub below : top < v
  pub clear : Clear len hs v
  pub base : 2 ≤ len v
  pub by_holes : b ≡ true → load len (λ _. 1) hs v ≡ 2
  pub by_triangles : b ≡ false → (triangles len hs v ≤ share (triangles len hs top)) × (share (triangles len hs top) ≤ 2 * triangles len hs v)

pub seams_bound : (top : ℕ) (hs : List ℕ) → seams top hs ≤ length hs + 1
seams_bound top hs = cond_both (eqb top 0) 0 1 (λ x. length hs + x ≤ length hs + 1) (λ _. omega arith) (λ _. omega arith)

module _ (n : ℕ) (len : ℕ → ℕ) (pre : Preorder n len) (top : ℕ) (hs : List ℕ) (s : Sound n len top hs) where
  fits_child : (u x : ℕ) → Inside len top u → Child len u x → Fit n len x × (1 ≤ len x)
  fits_child u x into c =
      let fu = inside_fits n len pre top u s.fit into in
      let d = child_inside n len pre u x fu c in (omega (arith, d.1), pre.rises x (omega (arith, d.0)))

  -- A child with a triangle of the piece is no hole, since a hole has none; so it is clear, and a base.
  good_triangles : (m : ℕ) → 1 ≤ m → (u x : ℕ) → Inside len top u → Clear len hs u → Child len u x → m + 1 ≤ 1 + 2 * triangles len hs x → Clear len hs x × (2 ≤ len x)
  good_triangles m one u x into clear c heavy = (
    clear_child n len pre top hs s u x into clear c
        (λ a. let f = fits_child u x into c in
        let h = load_has n len pre top hs s (inner len) x x a (omega arith, omega arith) in omega arith),
    omega arith,
  )

  -- A child with two holes below is no hole, since only one lies at or below a hole.
  good_holes : (u x : ℕ) → Inside len top u → Clear len hs u → Child len u x → 3 ≤ 0 + 2 * load len (λ _. 1) hs x → Clear len hs x × (2 ≤ len x)
  good_holes u x into clear c heavy =
      let f = fits_child u x into c in
      let b = load_bound n len pre top hs s x f.0 f.1 in (
        clear_child n len pre top hs s u x into clear c
            (λ a. let h = load_has n len pre top hs s (inner len) x x a (omega arith, omega arith) in omega arith),
        omega arith,
      )

  cut_by : (b : Bool) → (b ≡ true → seams top hs ≡ 4) → 2 ≤ triangles len hs top → Cut len top hs b (descend len (weight len b hs) (cond b 2 (share (triangles len hs top))) (len top) top)
  cut_by true holes several =
      let w = load len (λ _. 1) hs in
      let all = load_top n len pre top hs s (λ _. 1) in
      let ones = sum_ones hs in
      let three : 3 ≤ w top = omega (arith, holes refl, seams_bound top hs) in
      let f = descends n len pre top s.fit w 0 2 (Clear len hs)
      (λ u into clear base. omega (arith, load_halves n len pre top hs s (λ _. 1) u into clear base))
      good_holes (len top) top (omega arith) (omega arith, omega (arith, s.base)) (top_clear n len pre top hs s) s.base (λ l. absurd (omega arith)) in
      record {
        inside = f.inside;
        below = f.below;
        clear = f.clear;
        base = f.base;
        by_holes = λ _. omega (arith, f.light, f.heavy);
        by_triangles = λ e. absurd (omega (arith, differs e));
      }
    where
      differs : true ≡ false → ◌≡◌ {A = ℕ} 0 1
      differs e = cc
  cut_by false holes several =
      let t = triangles len hs top in
      let w = triangles len hs in
      let f = descends n len pre top s.fit w 1 (share t) (Clear len hs)
      (λ u into clear base. omega (arith, triangles_halves n len pre top hs s u into clear base))
      (good_triangles (share t) (omega arith)) (len top) top (omega arith) (omega arith, omega (arith, s.base)) (top_clear n len pre top hs s) s.base (λ l. absurd (omega arith)) in
      record {
        inside = f.inside;
        below = f.below;
        clear = f.clear;
        base = f.base;
        by_holes = λ e. absurd (omega (arith, differs e));
        by_triangles = λ _. (f.light, omega (arith, f.heavy));
      }
    where
      differs : false ≡ true → ◌≡◌ {A = ℕ} 0 1
      differs e = cc

  pub seam_cuts : 2 ≤ triangles len hs top → Cut len top hs (four top hs) (seam_of len top hs)
  seam_cuts several = cut_by (four top hs) (eqb-true (seams top hs) 4) several
