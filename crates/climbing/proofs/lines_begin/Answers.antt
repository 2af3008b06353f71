use Rattle.climbing.proofs.Lines.{sheets_have_lines, triangles_have_lines}
use Rattle.climbing.proofs.lines_begin.Goals as goal

pub returns : goal.returns
returns g c = record {
  sheets = sheets_have_lines g.R.Rate.kind g.met.R.Rate.laws;
  triangles = triangles_have_lines g.R.Rate.kind g.met.R.Rate.laws;
}
