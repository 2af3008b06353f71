use Rattle.pieces.proofs.Geometry.{seams_part_lanes}
use Rattle.pieces.proofs.seams_part_lanes.Goals as goal

pub returns : goal.returns
returns c = seams_part_lanes
