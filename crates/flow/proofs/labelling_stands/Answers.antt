use Rattle.flow.proofs.Lawful.{label_laws}
use Rattle.flow.proofs.labelling_stands.Goals as goal

pub returns : goal.returns
returns c = label_laws
