use Rattle.std.proofs.Common.{◌≡◌, ◌≤◌, length, min, refl, subst, ◌∙◌, arith}
use Rattle.std.proofs.lemmas.List.{with_items_is}
use Rattle.std.specs.Vec.{with_items}
use Rattle.triangulation.specs.Trees.{side_count}
use Rattle.ring.specs.Faults.{most}
use Rattle.division.specs.Outcome.{front_ends}
use Rattle.plan.specs.Layout.{Layout, piece_count}
use Rattle.plan_text.specs.declared.laid.Laid.{Laid}
use Rattle.plan_text.specs.Laid.{DividedRing, LaidOut, Refused}
use Rattle.plan_text.proofs.Accepted.{refused, no_fault, accepted_range, layout_again, divided_ring, not_laid, same_records}
use Rattle.plan_text.proofs.laid.lay.Goals as goal

pub returns-clause-laid : goal.returns-clause-laid
returns-clause-laid c =
    let n = c.args.plan.now.terminals in
    let links = c.deref.result.now in
    let before = c.deref_mut.result.now in
    let before_pieces = c.deref_mut-2.result.now in
    let todo = c.deref_mut-3.result.now in
    let sides = c.lay_out.new.sides in
    let pieces = c.lay_out.new.pieces in
    let s : length before ≡ side_count (min n most) = c.deref_mut.ensures.len ∙ c.in_ok-sides.ensures.len ∙ c.side_count.ensures in
    let p : length before_pieces ≡ piece_count (min n most) = c.deref_mut-2.ensures.len ∙ c.in_ok-pieces.ensures.len ∙ c.piece_count.ensures in
    let t : 64 ≤ length todo = omega (arith, c.deref_mut-3.ensures.len, c.in_ok-todo.ensures.len) in
    let s' : length sides ≡ side_count (min n most) = c.lay_out.auto.sides ∙ s in
    let p' : length pieces ≡ piece_count (min n most) = c.lay_out.auto.pieces ∙ p in
    let kept = with_items_is c.in_ok-sides.sides sides (c.lay_out.auto.sides ∙ c.deref_mut.ensures.len) in
    let kept_pieces = with_items_is c.in_ok-pieces.pieces pieces (c.lay_out.auto.pieces ∙ c.deref_mut-2.ensures.len) in
    let none = c.in_ok-lay_out.ensures.checked in
    let left = c.in_ok-lay_out.ensures.left in
    let laid : Laid = record { terminals = n; sides = with_items c.in_ok-sides.sides sides; pieces = with_items c.in_ok-pieces.pieces pieces } in
    subst (λ ls. LaidOut n ls laid) c.deref.ensures.value record {
      terminals = refl;
      no_fault = no_fault n links (length before) (length before_pieces) (length todo) s p t none;
      layout = same_records (λ x y. Layout n links x y x y) _ sides _ pieces kept kept_pieces (layout_again n links before sides before_pieces pieces left);
      ring = same_records (λ x y. DividedRing n (front_ends n x) x y) _ sides _ pieces kept kept_pieces
          (divided_ring n links before sides before_pieces pieces
          (accepted_range n links (length before) (length before_pieces) (length todo) s p t none) s' p' left);
    }

pub returns-in_err-lay_out-clause-refused : goal.returns-in_err-lay_out-clause-refused
returns-in_err-lay_out-clause-refused c =
    let n = c.args.plan.now.terminals in
    let before = c.deref_mut.result.now in
    let before_pieces = c.deref_mut-2.result.now in
    let todo = c.deref_mut-3.result.now in
    let s : length before ≡ side_count (min n most) = c.deref_mut.ensures.len ∙ c.in_ok-sides.ensures.len ∙ c.side_count.ensures in
    let p : length before_pieces ≡ piece_count (min n most) = c.deref_mut-2.ensures.len ∙ c.in_ok-pieces.ensures.len ∙ c.piece_count.ensures in
    let t : 64 ≤ length todo = omega (arith, c.deref_mut-3.ensures.len, c.in_ok-todo.ensures.len) in
    let fault = c.in_err-lay_out.field-0.0 in
    not_laid n c.args.plan.now.links.items c.from_residual-in_err-lay_out.result fault c.from_residual-in_err-lay_out.ensures.1
    (subst (λ ls. Refused n ls fault) c.deref.ensures.value
    (refused n c.deref.result.now (length before) (length before_pieces) (length todo) s p t fault c.in_err-lay_out.ensures.checked))
