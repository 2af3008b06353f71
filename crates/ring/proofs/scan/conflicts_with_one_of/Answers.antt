use Rattle.std.proofs.Common.{rules, Bool, Decides}
use Rattle.std.proofs.lemmas.Fn.{fold_over, fronts}
use Rattle.std.proofs.lemmas.Iterator.{YieldsList-from_slice}
use Rattle.ring.specs.Linked.{ends_of}
use Rattle.ring.specs.Faults.{Among, Conflict}
use Rattle.ring.proofs.Scans.{among_none, among_more}
use Rattle.ring.proofs.scan.conflicts_with_one_of.Goals as goal

pub returns : goal.returns
returns c =
    fold_over fronts (λ y. y.now) _ (λ links found. Decides found (Among Conflict (ends_of c.args.link) links)) _ (λ ys a x b f so_far k. let more = λ (t : Bool). among_more Conflict (ends_of c.args.link) ys x.now a t b so_far in search rules) c.iter.result c.args.earlier.now _ _
    (YieldsList-from_slice {s = c.iter.result} c.args.earlier.now cc).runs (among_none Conflict (ends_of c.args.link)) c.fold.ensures.ran
