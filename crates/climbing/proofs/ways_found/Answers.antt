use Rattle.climbing.proofs.Ways.{ways_down, ways_part, ways_up, parted_between_children}
use Rattle.climbing.proofs.ways_found.Goals as goal

pub returns : goal.returns
returns c = record { down = ways_down; part = ways_part; up = ways_up; parted = parted_between_children }
