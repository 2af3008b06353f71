use Rattle.std.proofs.Common.{ap, ◌∙◌}
use Rattle.std.specs.Result.{result_ok}
use Rattle.tape.specs.Contents.{kind_of}
use Rattle.tape_text.proofs.Fields.{not_both}
use Rattle.tape_text.proofs.Names.{own_kind}
use Rattle.tape_text.proofs.parsing.propose.Goals as goal

pub returns-in_err-ok : goal.returns-in_err-ok
returns-in_err-ok c = λ d g e.
    let named = own_kind c.args.text.now c.cut.result.0.now c.cut.result.1.now c.cut.ensures d c.parse.result c.parse.ensures.value e in
    absurd (not_both c.ok.result (kind_of d) c.in_err-ok.was (c.ok.ensures.value ∙ ap result_ok named))
