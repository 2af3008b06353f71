use Rattle.std.proofs.Common.{◌+◌}
use Rattle.std.specs.List.{flat_map, range_with_len}
use Rattle.plan_text.specs.Pictures.{terminal_text}
use Rattle.plan_text.proofs.Drawing.{one_more}
use Rattle.plan_text.proofs.Texts.{GrownBy-append, GrownBy-same}
use Rattle.plan_text.proofs.picture.write_terminals.Goals as goal

pub loop-terminal-preserved : goal.loop-terminal-preserved
loop-terminal-preserved c =
    let n = c.args.terminals in
    let terminal = c.loop-terminal.terminal in
    let before = c.args.text.now in
    let after = c.write_terminal.new.text in
    GrownBy-same before after _ (flat_map (terminal_text n) (range_with_len 0 (terminal + 1)))
    (GrownBy-append before c.loop-terminal.text after _ _ c.loop-terminal.invariant c.in_ok-write_terminal.ensures) (one_more (terminal_text n) terminal)
