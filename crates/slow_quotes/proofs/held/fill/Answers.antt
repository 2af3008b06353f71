use Rattle.std.proofs.Common.{map, sym, subst, inl}
use Rattle.std.proofs.lemmas.List.{length-map}
use Rattle.slow_quotes.specs.Networks.{CountFault, InOrder}
use Rattle.slow.specs.Areas.{AreasRefused}
use Rattle.slow_quotes.specs.declared.fault.Fault.TheVariants.{Refused}
use Rattle.slow_quotes.proofs.Keeping.{handed_on, filled_empty, count_fault, empty_in_order}
use Rattle.slow_quotes.proofs.held.fill.Goals as goal

pub returns : goal.returns
returns g c =
    let m = g.R.Rate.means in
    let h = c.in_ok-best_rates.ensures in
    record {
      answer = h.1.area_shows.few;
      in_order = record {
        either = inl (filled_empty g.R.Rate.kind g.met.R.Rate.laws m c.args.n (map m c.args.lanes.now) c.args.table.now c.best_rates.new.table
            c.in_ok-best_rates.field-0 c.requires.lanes h.0 c.best_rates.auto.table h.1);
      };
    }

pub returns-in_err-best_rates : goal.returns-in_err-best_rates
returns-in_err-best_rates g c =
    let K = g.R.Rate.kind in
    let m = g.R.Rate.means in
    let n = c.args.n in
    let area = map m c.args.lanes.now in
    let h = c.in_err-best_rates.ensures in
    let why = c.in_err-best_rates.field-0.0 in
    let fault : CountFault n (Refused why) = count_fault K n area (map m c.args.table.now) c.requires.lanes c.requires.table why
    (subst (λ k. AreasRefused K n area k why) (sym (length-map c.args.table.now m)) h.1) in
    record {
      answer = handed_on c.from_residual.result why _ _ c.from_residual.ensures.1 fault;
      in_order = subst (λ t. InOrder K n area (map m t)) (sym h.0) (empty_in_order K n area (map m c.args.table.now) c.requires.lanes c.requires.table (Refused why) fault);
    }
