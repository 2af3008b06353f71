use Rattle.std.proofs.Common.{◌≡◌, ◌+◌, ◌-◌, ◌≤◌, [], ◌++◌, map, length, get_or, take, drop, sym, refl, ap, ◌∙◌, subst, arith, rules}
use Rattle.std.proofs.lemmas.List.{take_all, take_at}
use Rattle.std.proofs.lemmas.Bool.{leb-true}
use Rattle.tape.specs.Contents.{record_bytes}
use Rattle.tape.specs.Tape.{Means, regular}
use Rattle.tape.specs.Laws.{tape_bytes, part_of, placed}
use Rattle.tape.proofs.Puts.{longer_area, refused_behind}
use Rattle.tape.proofs.RoundTrips.{read_from}
use Rattle.tape.proofs.TapeBytes.{blank, tape_more, long_more, front_long, front_within}
use Rattle.tape.proofs.tapes.write_all.Goals as goal

pub slice_bounds-write-count : goal.slice_bounds-write-count
slice_bounds-write-count c =
    let within = front_within c.args.contents.now c.loop-content.content-index c.loop-content.at (length c.args.area.now) c.if-not-fit_in.ensures c.loop-content.invariant.0 in
    let here : c.loop-content.at ≤ length c.loop-content.area = omega arith in
    search rules

pub slice_bounds-write-start : goal.slice_bounds-write-start
slice_bounds-write-start c =
    let within = front_within c.args.contents.now c.loop-content.content-index c.loop-content.at (length c.args.area.now) c.if-not-fit_in.ensures c.loop-content.invariant.0 in
    let here : c.loop-content.at ≤ length c.loop-content.area = omega arith in
    search rules

pub returns-in_err-at : goal.returns-in_err-at
returns-in_err-at c =
    let cs = c.args.contents.now in
    let i = c.loop-content.content-index in
    let at = c.loop-content.at in
    let before = c.args.area.now in
    let fits = leb-true (length (tape_bytes cs)) (length before) (sym c.if-not-fit_in.ensures) in
    let within = front_within cs i at (length before) c.if-not-fit_in.ensures c.loop-content.invariant.0 in
    let more = long_more cs i blank c.loop-content-test.true in
    let past = refused_behind before c.loop-content.area (tape_bytes (take i cs)) (record_bytes (get_or cs i blank)) c.write.new.area at (length c.loop-content.area - at) c.in_err-at.field-0.0
    c.loop-content.invariant.1 c.loop-content.invariant.0 within refl c.in_err-at.ensures in
    absurd (omega (arith, c.loop-content.invariant.0, front_long cs (i + 1)))

pub loop-content-preserved : goal.loop-content-preserved
loop-content-preserved c =
    let cs = c.args.contents.now in
    let i = c.loop-content.content-index in
    let at = c.loop-content.at in
    let n = c.in_ok-at.field-0 in
    let front = tape_bytes (take i cs) in
    let bytes = record_bytes (get_or cs i blank) in
    let s = c.in_ok-at.ensures in
    let fits = leb-true (length (tape_bytes cs)) (length c.args.area.now) (sym c.if-not-fit_in.ensures) in
    let within = front_within cs i at (length c.args.area.now) c.if-not-fit_in.ensures c.loop-content.invariant.0 in
    let more = long_more cs i blank c.loop-content-test.true in
    let counted : at + n ≡ length (tape_bytes (take (i + 1) cs)) = omega (arith, c.loop-content.invariant.0, s.count) in (
      counted,
      longer_area c.args.area.now c.loop-content.area front bytes c.write.new.area at n (length c.loop-content.area - at) c.loop-content.invariant.1 c.loop-content.invariant.0 within refl s
          ∙ ap (λ v. v ++ drop (at + n) c.args.area.now) (sym (tape_more cs i blank c.loop-content-test.true)),
    )

pub returns : goal.returns
returns c =
    let cs = c.args.contents.now in
    let at = c.loop-content.at in
    let before = c.args.area.now in
    let all = take_all c.loop-content.content-index cs c.loop-content-test.false in
    let count : at ≡ length (tape_bytes cs) = c.loop-content.invariant.0 ∙ ap (λ v. length (tape_bytes v)) all in
    let area : c.loop-content.area ≡ tape_bytes cs ++ drop at before = c.loop-content.invariant.1 ∙ ap (λ v. tape_bytes v ++ drop at before) all in
    let fits = leb-true (length (tape_bytes cs)) (length before) (sym c.if-not-fit_in.ensures) in
    record {
      wrote = record { count = count; room = omega arith; area = area };
      reads_back =
          subst (λ v. Means v (map part_of (placed 0 cs)) regular)
          (sym (ap (take at) area ∙ take_at (tape_bytes cs) (drop at before) at (sym count)))
          (read_from [] cs 0 refl);
    }
