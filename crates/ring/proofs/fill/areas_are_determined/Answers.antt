use Rattle.ring.proofs.Scans.{joins_are_links}
use Rattle.ring.proofs.Drawing.{fills_alike}
use Rattle.ring.proofs.InArea.{area_by_place}
use Rattle.ring.proofs.fill.areas_are_determined.Goals as goal

pub returns : goal.returns
returns c = record { alike = fills_alike; by_place = area_by_place; joins = joins_are_links }
