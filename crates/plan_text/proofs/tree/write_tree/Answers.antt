use Rattle.std.proofs.Common.{◌+◌, ◌<◌, [], ◌++◌, get_or, length, take, sym, ap, ◌∙◌, arith}
use Rattle.records.specs.declared.Piece.{Piece}
use Rattle.plan_text.specs.Trees.{piece_text, lines_from}
use Rattle.plan_text.proofs.Texts.{GrownBy-append, GrownBy-same}
use Rattle.plan_text.proofs.Trees.{lines_more}
use Rattle.plan_text.proofs.tree.write_tree.Goals as goal

-- the piece that goals name past the last
abbrev none : Piece
none = record { parent = 0; first = 0; second = 0; seam = 0; top = 0; holes = record { count = 0; at = [] }; edges = record { count = 0; at = [] }; level = 0 }

pub loop-number-preserved : goal.loop-number-preserved
loop-number-preserved c =
    let sides = c.args.laid.now.sides.items in
    let pieces = c.args.laid.now.pieces.items in
    let i = c.loop-number.number in
    let inside : i < length pieces = omega (arith, ap length c.deref-piece-items.ensures.value) in
    let same = ap (λ x. piece_text x i (get_or c.deref-piece-items.result.now i none)) c.deref.ensures.value ∙ ap (λ x. piece_text sides i (get_or x i none)) c.deref-piece-items.ensures.value in
    GrownBy-same c.args.text.now c.write_piece.new.text _ (lines_from sides 0 (take (i + 1) pieces))
    (GrownBy-append c.args.text.now c.loop-number.text c.write_piece.new.text _ _ c.loop-number.invariant c.in_ok-write_piece.ensures)
    (ap (λ x. lines_from sides 0 (take i pieces) ++ x) same ∙ sym (lines_more sides pieces i none inside))
