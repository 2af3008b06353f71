use Rattle.pieces.proofs.Standing.{records_once}
use Rattle.pieces.proofs.one_list_of_records.Goals as goal

pub returns : goal.returns
returns c e ds ds' a b = records_once a b
