use Rattle.flow.proofs.Lawful.{cut_laws}
use Rattle.flow.proofs.bottleneck_stands.Goals as goal

pub returns : goal.returns
returns c = cut_laws
