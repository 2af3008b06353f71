-- How many triangles and bounding seams a cut leaves to each part.
-- Assumes that the lengths are those of a filled ring in preorder, and a seam that cuts the piece.
use Rattle.std.proofs.Common.{◌≡◌, ℕ, ◌<◌, ◌≤◌, List, arith}
use Rattle.std.proofs.lemmas.Bool.{eq-eqb, ne_eqb}
use Rattle.pieces.specs.Sides.{Preorder}
use Rattle.records.specs.Limits.{share}
use Rattle.pieces.specs.Cuts.{triangles, seams, four}
use Rattle.pieces.proofs.Weights.{Sound, top_clear, triangles_halves}
use Rattle.pieces.proofs.Seam.{Cut}
use Rattle.pieces.proofs.Parts.{inner_list, outer_list, inner_sound, outer_sound, inner_size, sizes_add, inner_seams, outer_seams}

-- every piece has a triangle: the one on its top
pub sound_size : (n : ℕ) (len : ℕ → ℕ) → Preorder n len → (top : ℕ) (hs : List ℕ) → Sound n len top hs → 1 ≤ triangles len hs top
sound_size n len pre top hs s =
    let b = s.base in
    omega (arith, triangles_halves n len pre top hs s top (omega arith, omega arith) (top_clear n len pre top hs s) b)

-- what the cut leaves to a part with t' triangles and s' bounding seams
pub record Left (t seams t' seams' : ℕ) : Type 0 where
  pub some : 1 ≤ t'
  pub fewer : t' < t
  pub four_seams : seams ≡ 4 → seams' ≡ 3
  pub fewer_seams : seams ≤ 3 → t' ≤ share t

module _ (n : ℕ) (len : ℕ → ℕ) (pre : Preorder n len) (top : ℕ) (hs : List ℕ) (s : Sound n len top hs) (v : ℕ) (c : Cut len top hs (four top hs) v) where
  pub inner_left : Left (triangles len hs top) (seams top hs) (triangles len (inner_list len v hs) v) (seams v (inner_list len v hs))
  inner_left =
      let a = sound_size n len pre v (inner_list len v hs) (inner_sound n len pre top hs s v c) in
      let b = sound_size n len pre top (outer_list len v hs) (outer_sound n len pre top hs s v c) in
      let e = sizes_add n len pre top hs s v c in
      record {
        some = a;
        fewer = omega arith;
        four_seams = λ q. omega (arith, inner_seams n len pre top hs s v c, c.by_holes (eq-eqb (seams top hs) 4 q));
        fewer_seams = λ q. omega (arith, inner_size n len pre top hs s v c, (c.by_triangles (ne_eqb (seams top hs) 4 (λ r. omega arith))).0);
      }

  pub outer_left : Left (triangles len hs top) (seams top hs) (triangles len (outer_list len v hs) top) (seams top (outer_list len v hs))
  outer_left =
      let a = sound_size n len pre v (inner_list len v hs) (inner_sound n len pre top hs s v c) in
      let b = sound_size n len pre top (outer_list len v hs) (outer_sound n len pre top hs s v c) in
      let e = sizes_add n len pre top hs s v c in
      record {
        some = b;
        fewer = omega arith;
        four_seams = λ q. omega (arith, outer_seams n len pre top hs s v c, c.by_holes (eq-eqb (seams top hs) 4 q));
        fewer_seams = λ q. omega (arith, inner_size n len pre top hs s v c, (c.by_triangles (ne_eqb (seams top hs) 4 (λ r. omega arith))).1);
      }
