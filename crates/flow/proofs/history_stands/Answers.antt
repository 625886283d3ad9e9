use Rattle.flow.proofs.Answering.{history_laws}
use Rattle.flow.proofs.history_stands.Goals as goal

pub returns : goal.returns
returns c = history_laws
