use Rattle.std.proofs.Common.{rules}
use Rattle.records.specs.Limits.{limit}
use Rattle.records.proofs.RowOfLimits.{row_of_limits}
use Rattle.records.proofs.limit_at.Goals as goal

pub returns-clause-row : goal.returns-clause-row
returns-clause-row c = row_of_limits

pub returns-clause-is : goal.returns-clause-is
unfolding limit
returns-clause-is c = search rules
