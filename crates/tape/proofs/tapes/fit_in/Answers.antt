use Rattle.std.proofs.Common.{◌+◌, ◌<◌, ◌≤◌, length, sym, ap, arith}
use Rattle.std.proofs.lemmas.List.{take_all}
use Rattle.std.proofs.lemmas.Bool.{lt-leb, le-leb}
use Rattle.tape.specs.Laws.{tape_bytes}
use Rattle.tape.proofs.TapeBytes.{blank, long_more, front_long}
use Rattle.tape.proofs.tapes.fit_in.Goals as goal

pub returns-in_default : goal.returns-in_default
returns-in_default c =
    let cs = c.args.contents.now in
    let i = c.loop-content.content-index in
    let more = long_more cs i blank c.loop-content-test.true in
    let all = front_long cs (i + 1) in
    let past : c.args.room < length (tape_bytes cs) = omega (arith, c.length.ensures, c.loop-content.invariant, c.in_default.ensures) in
    sym (lt-leb (length (tape_bytes cs)) c.args.room past)

pub loop-content-preserved : goal.loop-content-preserved
loop-content-preserved c =
    let more = long_more c.args.contents.now c.loop-content.content-index blank c.loop-content-test.true in
    omega (arith, c.length.ensures, c.loop-content.invariant, c.in-Some.ensures)

pub returns : goal.returns
returns c =
    let cs = c.args.contents.now in
    let all = ap (λ v. length (tape_bytes v)) (take_all c.loop-content.content-index cs c.loop-content-test.false) in
    let within : length (tape_bytes cs) ≤ c.args.room = omega (arith, c.loop-content.invariant) in
    sym (le-leb (length (tape_bytes cs)) c.args.room within)
