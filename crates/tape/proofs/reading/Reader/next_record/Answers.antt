use Rattle.std.proofs.Common.{arith}
use Rattle.tape.proofs.Showing.{shown_here}
use Rattle.tape.proofs.reading.Reader.next_record.Goals as goal

pub returns-clause-shows : goal.returns-clause-shows
returns-clause-shows c =
    let (found, _) = c.in-Some-get.ensures.lookup in
    let (_, room, is, count) = found in
    shown_here c.args.self.now.tape.now c.in-Some.rest.now c.in-Some-get.body.now c.args.self.now.at c.in-Some.byte.now c.body_length.result c.in-Ok.kind
    (omega arith) c.in-Some.ensures.cases.0 c.in-Ok.ensures c.body_length.ensures room is (omega arith)
