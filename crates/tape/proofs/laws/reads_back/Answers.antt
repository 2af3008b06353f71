use Rattle.std.proofs.Common.{[], refl}
use Rattle.tape.specs.Laws.{placed, tape_bytes}
use Rattle.tape.proofs.OneMeaning.{alone}
use Rattle.tape.proofs.RoundTrips.{read_from, fit_placed}
use Rattle.tape.proofs.SameContent.{same_placed}
use Rattle.tape.proofs.laws.reads_back.Goals as goal

pub returns : goal.returns
returns c = λ cs h.
    let back = read_from [] cs 0 refl in
    record {
      means = back;
      alone = λ xs e g m. same_placed xs (placed 0 cs) g (fit_placed 0 cs h) (alone (tape_bytes cs) m back).0;
    }
