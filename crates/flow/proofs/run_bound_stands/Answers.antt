use Rattle.flow.proofs.Running.{runs_bounded}
use Rattle.flow.proofs.run_bound_stands.Goals as goal

pub returns : goal.returns
returns c = runs_bounded
