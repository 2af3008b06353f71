use Rattle.piece_rates.proofs.Sizes.{parent_shows, shown_is_within}
use Rattle.piece_rates.proofs.parents_show.Goals as goal

pub returns : goal.returns
returns g c = record {
  shows = parent_shows g.R.Rate.kind g.met.R.Rate.laws;
  within = shown_is_within g.R.Rate.kind g.met.R.Rate.laws;
}
