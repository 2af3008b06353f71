use Rattle.slow_quotes.proofs.quotes.quotation_text.Goals as goal

pub returns : goal.returns
returns g c = rw (g.met.R.Written.printed c.args.quotation.rate) at c.format.ensures.ok
