use Rattle.std.proofs.Common.{refl}
use Rattle.tape.proofs.RoundTrips.{bytes_back}
use Rattle.tape.proofs.laws.writes_back.Goals as goal

pub returns : goal.returns
returns c = λ t xs m. bytes_back t m xs refl refl
