-- The plan that a reader is reading.
-- Assumes nothing.
use Rattle.std.specs.Prelude.{Option, Some, None}
use Rattle.plan_text.specs.declared.laid.Plan.{Plan}
use Rattle.plan_text.specs.declared.telling.Reader.{Reader}
use Rattle.plan_text.specs.Reports.{Reading, nothing_read}

abbrev pub reading : Option Plan → Reading
reading None = nothing_read
reading (Some plan) = record { terminals = Some plan.terminals; links = plan.links.items }

abbrev pub reading_of : Reader → Reading
reading_of reader = reading reader.plan
