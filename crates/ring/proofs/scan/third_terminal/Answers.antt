use Rattle.std.proofs.Common.{rules, ℕ}
use Rattle.std.proofs.lemmas.Fn.{fold_over, fronts}
use Rattle.std.proofs.lemmas.Iterator.{YieldsList-from_slice}
use Rattle.ring.proofs.Scans.{ThirdBy, third_none, third_more, third_all}
use Rattle.ring.proofs.scan.third_terminal.Goals as goal

pub returns : goal.returns
returns c =
    third_all c.args.low c.args.high c.args.links.now c.fold.result
    (fold_over fronts (λ y. y.now) _ (ThirdBy c.args.low c.args.high) _ (λ ys a x b f so_far k. let more = λ (e : ℕ). third_more c.args.low c.args.high ys x.now a e b so_far in search rules) c.iter.result c.args.links.now _ _
    (YieldsList-from_slice {s = c.iter.result} c.args.links.now cc).runs (third_none c.args.low c.args.high c.requires) c.fold.ensures.ran)
