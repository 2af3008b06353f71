use Rattle.std.proofs.Common.{◌+◌, List, take, sym, subst}
use Rattle.std.proofs.lemmas.List.{take_all}
use Rattle.ring.specs.declared.Link.{Link}
use Rattle.ring.specs.declared.Side.{Side}
use Rattle.ring.specs.Areas.{FilledWith}
use Rattle.ring.proofs.Marking.{mark_none, mark_some}
use Rattle.ring.proofs.fill.mark_links.Goals as goal
use Rattle.ring.proofs.fill.mark_links.Goals.{in-Some, in_default}

pub loop-link-preserved : goal.loop-link-preserved
loop-link-preserved c before p =
    let n = c.args.n in
    let links = c.args.links.now in
    let i = c.loop-link.link-index in
    let xs = c.loop-link.sides in
    elim c.match-find_side.branch [
      | in-Some w ↦ subst (λ (s : List Side). FilledWith n links (take (i + 1) links) before s) (sym w.sides-is)
          (mark_some n links i c.loop-link-test.true c.requires.enough c.requires.few before xs (c.loop-link.invariant before p) w.in-Some.place w.in-Some.ensures)
      | in_default w ↦ subst (λ (s : List Side). FilledWith n links (take (i + 1) links) before s) (sym w.sides-is)
          (mark_none n links i c.loop-link-test.true c.requires.enough c.requires.few before xs (c.loop-link.invariant before p) w.in_default.ensures)
    ]

pub returns : goal.returns
returns c before p =
    subst (λ (m : List Link). FilledWith c.args.n c.args.links.now m before c.loop-link.sides)
    (take_all c.loop-link.link-index c.args.links.now c.loop-link-test.false) (c.loop-link.invariant before p)
