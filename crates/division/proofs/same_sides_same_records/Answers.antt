use Rattle.division.proofs.OneResult.{same_records}
use Rattle.division.proofs.same_sides_same_records.Goals as goal

pub returns : goal.returns
returns c = same_records
