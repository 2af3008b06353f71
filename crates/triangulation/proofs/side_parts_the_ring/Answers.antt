use Rattle.triangulation.proofs.Parts.{stands_parts}
use Rattle.triangulation.proofs.side_parts_the_ring.Goals as goal

pub returns : goal.returns
returns c n t s u l r a b x d y i j v w = stands_parts v w s
