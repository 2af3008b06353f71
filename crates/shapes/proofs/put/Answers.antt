use Rattle.std.proofs.Common.{sym, arith}
use Rattle.std.proofs.lemmas.List.{set_past}
use Rattle.shapes.proofs.put.Goals as goal

pub returns-else-i-links : goal.returns-else-i-links
returns-else-i-links c = sym (set_past c.args.links.now c.args.i c.args.link (omega arith))
