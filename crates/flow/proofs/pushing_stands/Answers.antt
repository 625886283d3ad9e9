use Rattle.flow.proofs.Lawful.{push_laws}
use Rattle.flow.proofs.pushing_stands.Goals as goal

pub returns : goal.returns
returns c = push_laws
