use Rattle.flow.proofs.Marking.{bottleneck_laws}
use Rattle.flow.proofs.one_bottleneck_stands.Goals as goal

pub returns : goal.returns
returns c = bottleneck_laws
