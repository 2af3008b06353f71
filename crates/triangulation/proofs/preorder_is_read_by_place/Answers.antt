use Rattle.triangulation.proofs.ByPlace.{one_subtree, sides_by_place, read_by_place, lengths, sorted}
use Rattle.triangulation.proofs.preorder_is_read_by_place.Goals as goal

pub returns : goal.returns
returns c = record { one = one_subtree; base = sides_by_place; read = read_by_place; lengths = lengths; sorted = sorted }
