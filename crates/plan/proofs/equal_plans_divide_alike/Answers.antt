use Rattle.plan.proofs.Alike.{divide_alike}
use Rattle.plan.proofs.equal_plans_divide_alike.Goals as goal

pub returns : goal.returns
returns c = divide_alike
