use Rattle.triangulation.proofs.Fills.{some_fill, one_fill, fill_triangulates, links_are_sides}
use Rattle.triangulation.proofs.fill_is_decided_by_links.Goals as goal

pub returns : goal.returns
returns c = record { exists = some_fill; unique = one_fill; triangulates = fill_triangulates; draws_links = links_are_sides }
