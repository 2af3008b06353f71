use Rattle.std.proofs.Common.{◌≡◌, ℕ, ◌+◌, ◌*◌, ◌^◌, ◌<◌, length, get_or, sym, refl, ◌∙◌, w32, to_z, of_z, arith, rules}
use Rattle.std.proofs.lemmas.List.{take_all}
use Rattle.tape.specs.Contents.{four, bits, ends_bytes}
use Rattle.tape.proofs.BigEndian.{piece_four, four_at, signed_back}
use Rattle.tape.proofs.Pieces.{lane_pieces}
use Rattle.tape.proofs.fields.LaneRateFromArrayU812.from.Goals as goal

pub returns : goal.returns
returns c =
    let xs = c.args.bytes in
    let small : (k : ℕ) → get_or xs k 0 < 256 = search rules in
    let long : length xs ≡ 12 = search rules in
    let z = c.from_be_bytes.result in
    let n : ℕ = get_or xs 4 0 * 16777216 + get_or xs 5 0 * 65536 + get_or xs 6 0 * 256 + get_or xs 7 0 in
    let fits : n < 2 ^ 32 = let a = small 4 in let b = small 5 in let d = small 6 in let e = small 7 in omega arith in
    lane_pieces xs (ends_bytes c.from.result) (four (bits (to_z w32 (of_z w32 z)))) (four c.from_be_bytes-2.result)
    (c.from.ensures ∙ sym (piece_four xs 0 (omega arith)))
    (signed_back n z fits c.from_be_bytes.ensures ∙ four_at xs 4 n small (omega arith) refl)
    (four_at xs 8 c.from_be_bytes-2.result small (omega arith) c.from_be_bytes-2.ensures)
    ∙ take_all 12 xs (omega arith)
