use Rattle.std.proofs.Common.{rules}
use Rattle.offers.proofs.Loading.{load_of}
use Rattle.offers.proofs.written.tonnes_of.Goals as goal

pub returns-in-Some : goal.returns-in-Some
returns-in-Some c = load_of c.args.number c.in-Some.capped.tonnes c.in-Some.capped.within (search rules)
