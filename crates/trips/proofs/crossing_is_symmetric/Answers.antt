use Rattle.std.proofs.Common.{inl, inr, ⊎_elim}
use Rattle.trips.proofs.crossing_is_symmetric.Goals as goal

pub returns : goal.returns
returns c l m = ⊎_elim inr inl
