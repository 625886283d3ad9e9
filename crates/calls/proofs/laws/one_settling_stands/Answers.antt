use Rattle.flow.proofs.Deciding.{settling_of-is}
use Rattle.calls.proofs.laws.one_settling_stands.Goals as goal

pub returns : goal.returns
returns c = settling_of-is
