use Rattle.std.proofs.Common.{◌≡◌, ap, ◌∙◌, arith}
use Rattle.piece_rates.specs.Bare.{bare_place}
use Rattle.sheets.proofs.Reading.{each_next, place_means}
use Rattle.rewriting.proofs.bare.write_bare_sheet.Goals as goal

pub loop-k-preserved : goal.loop-k-preserved
loop-k-preserved g c =
    each_next (λ k v. g.R.Rate.means v ≡ bare_place g.R.Rate.kind c.len-count.result k) c.loop-k.sheet c.loop-k.k c.bare_at.result
    (omega arith) c.bare_at.ensures c.loop-k.invariant

pub returns : goal.returns
returns g c k l =
    place_means g.R.Rate.kind g.met.R.Rate.laws g.R.Rate.means c.loop-k.sheet
    (record { there = λ j d m. c.loop-k.invariant j (omega arith) d }) (bare_place g.R.Rate.kind c.len-count.result)
    (λ j v m post. post) k (omega (arith, c.loop-k.auto.sheet))
    ∙ ap (λ v. bare_place g.R.Rate.kind v k) c.len-count.ensures.is
