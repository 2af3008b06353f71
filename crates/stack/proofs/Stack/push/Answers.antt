use Rattle.std.proofs.Common.{refl, rules}
use Rattle.std.proofs.lemmas.List.{take_more_set}
use Rattle.stack.proofs.Stack.push.Goals as goal

pub returns : goal.returns
returns g c =
    record {
      pushed = record { room = search rules; longer = refl; written = refl; above = search (rules, take_more_set) };
      held = refl;
    }
