use Rattle.std.proofs.Common.{rules, ◌≡◌, ◌≢◌}
use Rattle.std.proofs.lemmas.Iterator.{IsFirst-from_position, YieldsList-from_slice}
use borrow.Author.Tests.{tests}
use Rattle.records.specs.Few.{listed}
use Rattle.records.proofs.Positions.{first_place}
use Rattle.records.proofs.Few.position.Goals as goal

pub returns : goal.returns
returns c =
    first_place (listed c.args.self) c.args.x c.position.result
    (IsFirst-from_position _ _ _ (λ y. y ≡ c.args.x) (λ y. y ≢ c.args.x) c.position.ensures.ran (YieldsList-from_slice (listed c.args.self) cc) (λ y q k. search (rules, tests)) (λ y q k. search (rules, tests)))
