use Rattle.std.proofs.Common.{refl, subst, arith}
use Rattle.tape.specs.Reads.{Shown}
use Rattle.tape.proofs.Rewriting.{whole_body, placed_part}
use Rattle.tape.proofs.Runs.{shows_record}
use Rattle.tape.proofs.reading.Reader.next_content.Goals as goal

pub returns-in_err-placed-in-Some : goal.returns-in_err-placed-in-Some
returns-in_err-placed-in-Some c =
    let t = c.args.self.now.tape.now in
    let r = c.in-Some.record in
    let h = c.in_ok-record.ensures in
    let s = shows_record t t c.args.self.now.at c.next_record.new.self.at c.in_ok-record.field-0 r refl c.in-Some.is h.shows in
    let short = c.in_err-placed-in-Some.ensures.short in
    let long = whole_body t r s.stands in
    absurd (omega arith)

pub returns-in_ok-placed-in-Some : goal.returns-in_ok-placed-in-Some
returns-in_ok-placed-in-Some c =
    let t = c.args.self.now.tape.now in
    let r = c.in-Some.record in
    let h = c.in_ok-record.ensures in
    let s = shows_record t t c.args.self.now.at c.next_record.new.self.at c.in_ok-record.field-0 r refl c.in-Some.is h.shows in
    record {
      tape = h.tape;
      shows =
          subst (λ x. Shown t c.args.self.now.at x c.next_record.new.self.at)
          (placed_part t r s.stands c.in_ok-placed-in-Some.field-0 c.in_ok-placed-in-Some.ensures.0 c.in_ok-placed-in-Some.ensures.1) s;
    }
