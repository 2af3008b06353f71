use Rattle.std.proofs.Common.{cond, ltb, map, arith, rules}
use Rattle.sheets.specs.Places.{climbed_at}
use Rattle.sheets.proofs.Reading.{climbed_there, place_means}
use Rattle.sheets.proofs.parent.climb_row.Goals as goal

pub returns : goal.returns
returns g c a b k l =
    let K = g.R.Rate.kind in
    let m = g.R.Rate.means in
    let own = map m c.args.own.sheet.now in
    let other = map m c.args.other.sheet.now in
    place_means K g.met.R.Rate.laws m c.write_each.new.area c.write_each.ensures
    (λ j. cond (ltb j c.args.count) (climbed_at K c.args.own.part c.args.other.part own other c.args.i j) K.none)
    (λ j v l' post. climbed_there K g.met.R.Rate.laws c.args.own.part c.args.other.part own other c.args.i j c.args.count (m v) (m c.to_ends-to.result.low) (m c.to_ends-to.result.high)
    a b (c.to_ends-to.ensures.low a b) (c.to_ends-to.ensures.high a b) (λ s t. search rules)) k (omega (arith, c.write_each.auto.area))
