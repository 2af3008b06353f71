use Rattle.std.specs.List.{flat_map, range_with_len}
use Rattle.plan_text.specs.Texts.{GrownBy}
use Rattle.plan_text.specs.Pictures.{terminal_text}
use Rattle.plan_text.proofs.picture.write_terminals.Given as goal

abbrev pub invariant-loop-terminal : goal.invariant-loop-terminal
invariant-loop-terminal l = GrownBy l.fn.text l.text (flat_map (terminal_text l.terminals) (range_with_len 0 l.terminal))
