use Rattle.climbing.proofs.Lines.{lines_climb, lines_meet, lines_are_within}
use Rattle.climbing.proofs.lines_climb.Goals as goal

pub returns : goal.returns
returns g c = record {
  climb = lines_climb g.R.Rate.kind g.met.R.Rate.laws;
  meet = lines_meet g.R.Rate.kind g.met.R.Rate.laws;
  within = lines_are_within g.R.Rate.kind g.met.R.Rate.laws;
}
