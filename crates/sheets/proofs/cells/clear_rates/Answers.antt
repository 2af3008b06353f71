use Rattle.std.proofs.Common.{map, length, ⊎_elim, arith, rules}
use Rattle.std.proofs.lemmas.Bool.{cases_lt}
use Rattle.std.proofs.lemmas.List.{get_or_past, length-map}
use Rattle.sheets.proofs.Reading.{place_means}
use Rattle.sheets.proofs.cells.clear_rates.Goals as goal

pub returns : goal.returns
returns g c k =
    let none = g.R.Rate.kind.none in
    let m = g.R.Rate.means in
    let area = c.write_each.new.area in
    ⊎_elim (place_means g.R.Rate.kind g.met.R.Rate.laws m area c.write_each.ensures (λ j. none) (λ j v l post. search rules) k)
    (λ l. get_or_past (map m area) k none (omega (arith, length-map area m)))
    (cases_lt k (length area))
