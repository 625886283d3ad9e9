use Rattle.flow.proofs.Checking.{worked_history}
use Rattle.flow.proofs.worked_history_stands.Goals as goal

pub returns : goal.returns
returns c = worked_history
