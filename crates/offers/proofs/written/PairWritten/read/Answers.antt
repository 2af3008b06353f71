use Rattle.std.proofs.Common.{Some, None, inl, inr, arith, sym, subst}
use Rattle.std.proofs.lemmas.Str.Pattern.{split_parts}
use Rattle.offers.specs.Words.{PairRead}
use Rattle.offers.proofs.written.PairWritten.read.Goals as goal

pub returns-in_err-first : goal.returns-in_err-first
returns-in_err-first g c =
    subst (PairRead g.P.Written.reads g.Q.Written.reads c.args.word.now) (sym c.from_residual.ensures)
    (inl (split_parts 47 c.args.word.now None c.in_err-first.ensures.cases (omega arith)))

pub returns-in_err-read : goal.returns-in_err-read
returns-in_err-read g c =
    let h = split_parts 47 c.args.word.now (Some (c.in_ok-first.first, c.in_ok-first.second)) c.in_ok-first.ensures.cases (omega arith) in
    subst (PairRead g.P.Written.reads g.Q.Written.reads c.args.word.now) (sym c.from_residual-in_err-read.ensures)
    (inr (c.in_ok-first.first.now, c.in_ok-first.second.now, record { whole = h.0; first = h.1 }, inl c.in_err-read.ensures))

pub returns-in_err-read-2 : goal.returns-in_err-read-2
returns-in_err-read-2 g c =
    let h = split_parts 47 c.args.word.now (Some (c.in_ok-first.first, c.in_ok-first.second)) c.in_ok-first.ensures.cases (omega arith) in
    subst (PairRead g.P.Written.reads g.Q.Written.reads c.args.word.now) (sym c.from_residual-in_err-read-2.ensures)
    (inr (c.in_ok-first.first.now, c.in_ok-first.second.now, record { whole = h.0; first = h.1 }, inr c.in_err-read-2.ensures))

pub returns : goal.returns
returns g c =
    let h = split_parts 47 c.args.word.now (Some (c.in_ok-first.first, c.in_ok-first.second)) c.in_ok-first.ensures.cases (omega arith) in
    (c.in_ok-first.first.now, c.in_ok-first.second.now, record { whole = h.0; first = h.1 }, c.in_ok-read.ensures, c.in_ok-read-2.ensures)
