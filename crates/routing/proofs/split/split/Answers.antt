use Rattle.routing.proofs.Splitting.{split_as_together, split_as_apart}
use Rattle.routing.proofs.split.split.Goals as goal

pub returns-in-Together : goal.returns-in-Together
returns-in-Together g c plan h tu tv =
    split_as_together g.R.Rate.kind g.met.R.Rate.laws plan c.args.seam h c.args.part c.in-Together.child c.in-Together.ensures tu tv
    c.split_together.result (c.split_together.ensures plan)

pub returns-in-Apart : goal.returns-in-Apart
returns-in-Apart g c plan h tu tv =
    split_as_apart g.R.Rate.kind g.met.R.Rate.laws plan c.args.seam h c.args.part c.in-Apart.child c.in-Apart.ensures tu tv
    c.split_across.result (c.split_across.ensures plan)
