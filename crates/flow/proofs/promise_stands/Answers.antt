use Rattle.flow.proofs.Promising.{promise_kept}
use Rattle.flow.proofs.promise_stands.Goals as goal

pub returns : goal.returns
returns c = promise_kept
