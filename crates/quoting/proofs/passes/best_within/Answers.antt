use Rattle.std.proofs.Common.{sym, subst}
use Rattle.climbing.specs.Ways.{Ending}
use Rattle.quoting.proofs.Turns.{denied}
use Rattle.quoting.proofs.Plans.{still_best}
use Rattle.quoting.proofs.passes.best_within.Goals as goal

pub returns-then-from-to : goal.returns-then-from-to
returns-then-from-to g c n m h l tu tv =
    still_best g.R.Rate.kind g.met.R.Rate.laws g.R.Rate.means c.args.areas n m h
    c.args.stop c.args.from c.args.to c.still.result c.if-from-to.true c.still.ensures

pub returns-then-ends_there : goal.returns-then-ends_there
returns-then-ends_there g c n m h l tu tv =
    c.joined_rate.ensures n m h (c.parting_below-p.ensures n (h.stands.filled, h.stands.division) l tu tv)
    (subst (λ x. Ending x c.args.from c.args.to) c.piece.ensures (c.ends_there.ensures.0 c.if-ends_there.true))

pub returns-else-ends_there : goal.returns-else-ends_there
returns-else-ends_there g c n m h l tu tv =
    c.parted_rate.ensures n m h (c.parting_below-p.ensures n (h.stands.filled, h.stands.division) l tu tv)
    (λ e. denied c.ends_there.ensures c.if-ends_there.false (subst (λ x. Ending x c.args.from c.args.to) (sym c.piece.ensures) e))
