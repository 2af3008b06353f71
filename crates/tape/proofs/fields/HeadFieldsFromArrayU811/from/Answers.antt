use Rattle.std.proofs.Common.{◌≡◌, ℕ, ◌<◌, length, get_or, ◌∙◌, arith, rules}
use Rattle.std.proofs.lemmas.List.{take_all}
use Rattle.tape.specs.Contents.{two, four}
use Rattle.tape.proofs.BigEndian.{two_at, four_at}
use Rattle.tape.proofs.Pieces.{head_pieces}
use Rattle.tape.proofs.fields.HeadFieldsFromArrayU811.from.Goals as goal

pub returns : goal.returns
returns c =
    let xs = c.args.bytes in
    let small : (k : ℕ) → get_or xs k 0 < 256 = search rules in
    let long : length xs ≡ 11 = search rules in
    head_pieces xs (four c.from_be_bytes.result) (two c.from_be_bytes-2.result) (four c.from_be_bytes-3.result) (omega arith)
    (four_at xs 1 c.from_be_bytes.result small (omega arith) c.from_be_bytes.ensures)
    (two_at xs 5 c.from_be_bytes-2.result small (omega arith) c.from_be_bytes-2.ensures)
    (four_at xs 7 c.from_be_bytes-3.result small (omega arith) c.from_be_bytes-3.ensures)
    ∙ take_all 11 xs (omega arith)
