use Rattle.layer.proofs.Passing.{chamber_passes}
use Rattle.layer.proofs.laws.chamber_passes_stands.Goals as goal

pub returns : goal.returns
returns c = chamber_passes
