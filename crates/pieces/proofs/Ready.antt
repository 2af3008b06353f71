-- Records of pieces that are still to be cut: the parts of one that describes a piece describe pieces, with the holes that a cut leaves.
-- Assumes that the lengths are those of a filled ring in preorder.
use Rattle.std.proofs.Common.{◌≡◌, ℕ, ◌≤◌, ltb, [], ◌∷◌, ◌++◌, length, filter, sym, ap, ◌∙◌, subst, arith}
use Rattle.std.proofs.lemmas.List.{append_assoc, length-append}
use Rattle.records.specs.declared.Piece.{Piece}
use Rattle.pieces.specs.Sides.{Preorder, within}
use Rattle.records.specs.Few.{listed, none, added, Pinned}
use Rattle.pieces.specs.Cuts.{triangles, four, chosen, inner_holes, outer_holes, size}
use Rattle.pieces.specs.Order.{seam_in, first_of, second_of}
use Rattle.pieces.proofs.FewLists.{none_pinned, added_list, added_count, added_pinned, chosen_list, listed_length}
use Rattle.pieces.proofs.Weights.{Sound}
use Rattle.pieces.proofs.Seam.{Cut, seam_cuts}
use Rattle.pieces.proofs.Parts.{inner_list, outer_list, behind, inner_sound, outer_sound}

pub record Ready (n : ℕ) (len : ℕ → ℕ) (P : Piece) : Type 0 where
  pub sound : Sound n len P.top (listed P.holes)
  pub pinned : Pinned P.holes

module _ (n : ℕ) (len : ℕ → ℕ) (pre : Preorder n len) (p : ℕ) (P : Piece) (r : Ready n len P) (two : 2 ≤ size len P) where
  pub seam_is_cut : Cut len P.top (listed P.holes) (four P.top (listed P.holes)) (seam_in len P)
  seam_is_cut = seam_cuts n len pre P.top (listed P.holes) r.sound two

  pub first_sound : Sound n len (seam_in len P) (inner_list len (seam_in len P) (listed P.holes))
  first_sound = inner_sound n len pre P.top (listed P.holes) r.sound (seam_in len P) seam_is_cut

  pub second_sound : Sound n len P.top (outer_list len (seam_in len P) (listed P.holes))
  second_sound = outer_sound n len pre P.top (listed P.holes) r.sound (seam_in len P) seam_is_cut

  first_chosen : (listed (inner_holes len (seam_in len P) P.holes) ≡ inner_list len (seam_in len P) (listed P.holes)) × Pinned (inner_holes len (seam_in len P) P.holes)
  first_chosen =
      chosen_list (within len (seam_in len P)) none (listed P.holes) none_pinned (omega (arith, first_sound.few))

  pub first_list : listed (first_of len p P).holes ≡ inner_list len (seam_in len P) (listed P.holes)
  first_list = first_chosen.0

  second_chosen : (listed (outer_holes len (seam_in len P) P.holes) ≡ outer_list len (seam_in len P) (listed P.holes)) × Pinned (outer_holes len (seam_in len P) P.holes)
  second_chosen =
      let v = seam_in len P in
      let hs = listed P.holes in
      let xs = filter (λ h. ltb h v) hs in
      let ys = filter (behind len v) hs in
      let room = second_sound.few in
      let l = length-append xs (v ∷ ys) in
      let a = chosen_list (λ h. ltb h v) none hs none_pinned (omega arith) in
      let f = chosen (λ h. ltb h v) none hs in
      let c : f.count ≡ length xs = sym (listed_length f a.1) ∙ ap length a.0 in
      let b = chosen_list (behind len v) (added f v) hs (added_pinned f v a.1 (omega arith)) (omega (arith, added_count f v a.1 (omega arith))) in
      (b.0 ∙ ap (λ zs. zs ++ ys) (added_list f v a.1 (omega arith) ∙ ap (λ zs. zs ++ v ∷ []) a.0) ∙ append_assoc xs (v ∷ []) ys, b.1)

  pub second_list : listed (second_of len p P).holes ≡ outer_list len (seam_in len P) (listed P.holes)
  second_list = second_chosen.0

  pub first_ready : Ready n len (first_of len p P)
  first_ready = record { sound = subst (Sound n len (seam_in len P)) (sym first_list) first_sound; pinned = first_chosen.1 }

  pub second_ready : Ready n len (second_of len p P)
  second_ready = record { sound = subst (Sound n len P.top) (sym second_list) second_sound; pinned = second_chosen.1 }

  pub first_size : size len (first_of len p P) ≡ triangles len (inner_list len (seam_in len P) (listed P.holes)) (seam_in len P)
  first_size = ap (λ hs. triangles len hs (seam_in len P)) first_list

  pub second_size : size len (second_of len p P) ≡ triangles len (outer_list len (seam_in len P) (listed P.holes)) P.top
  second_size = ap (λ hs. triangles len hs P.top) second_list
