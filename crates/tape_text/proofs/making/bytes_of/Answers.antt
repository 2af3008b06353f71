use Rattle.std.proofs.Common.{◌++◌, get_or, sym, ap, ◌∙◌}
use Rattle.std.proofs.lemmas.List.{take_all}
use Rattle.tape.specs.Contents.{record_bytes}
use Rattle.tape.specs.Laws.{tape_bytes}
use Rattle.tape.proofs.TapeBytes.{blank, tape_more}
use Rattle.tape_text.proofs.making.bytes_of.Goals as goal

pub loop-content-preserved : goal.loop-content-preserved
loop-content-preserved c =
    let cs = c.args.contents.now in
    let i = c.loop-content.content-index in
    c.in_ok-append.ensures ∙ ap (λ v. v ++ record_bytes (get_or cs i blank)) c.loop-content.invariant ∙ sym (tape_more cs i blank c.loop-content-test.true)

pub returns : goal.returns
returns c = c.loop-content.invariant ∙ ap tape_bytes (take_all c.loop-content.content-index c.args.contents.now c.loop-content-test.false)
