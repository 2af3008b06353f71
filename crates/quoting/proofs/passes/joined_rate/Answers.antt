use Rattle.std.proofs.Common.{subst}
use Rattle.quoting.specs.Areas.{BestWithin}
use Rattle.quoting.proofs.passes.joined_rate.Goals as goal

pub returns-then-p-stop : goal.returns-then-p-stop
returns-then-p-stop g c n m h w ends =
    subst (λ x. BestWithin g.R.Rate.kind g.R.Rate.means c.args.areas n m x c.args.from c.args.to c.near_rate-best.result)
    c.if-p-stop.true (c.near_rate-best.ensures n m h w.reaches_first.in_range ends)

pub returns : goal.returns
returns g c n m h w ends =
    c.pass_to.ensures n m c.args.from c.args.to h w.reaches_first w.reaches_second (record {
      row = c.line_at-row.ensures n m h w.reaches_first.in_range w.reaches_first.touches;
      column = c.line_at-column.ensures n m h w.reaches_second.in_range w.reaches_second.touches;
      best = c.near_rate-best.ensures n m h w.reaches_first.in_range ends;
    })
