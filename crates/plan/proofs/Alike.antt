-- Two plans with the same links leave the same records.
-- Assumes their layouts.
use Rattle.std.proofs.Common.{map, take, sym, refl, ◌∙◌, arith}
use Rattle.std.proofs.lemmas.List.{take-map}
use Rattle.triangulation.specs.Trees.{side_count}
use Rattle.ring.proofs.Drawing.{fills_alike}
use Rattle.ring.proofs.InArea.{area_long}
use Rattle.pieces.specs.Marks.{SameSides, bare}
use Rattle.division.proofs.OneResult.{same_records}
use Rattle.plan.specs.Layout.{EqualPlansDivideAlike}

pub divide_alike : EqualPlansDivideAlike
divide_alike n links links₂ s s' t t' p p' q q' same a b =
    let m = side_count n in
    let fronts : SameSides (take m s') (take m t') =
    sym (take-map bare m t') ∙ (sym (fills_alike n links links₂ (map bare s) (map bare s') (map bare t) (map bare t') same a.fills b.fills) ∙ take-map bare m s') in
    let least = a.filled_ring.least in
    let long = area_long n s' (omega arith) a.triangulated in
    let w = same_records n s' t' s' t' p' q' a.filled_ring (omega arith) fronts refl refl a.divided b.divided in
    record { same_sides = w.1; same_pieces = w.0 }
