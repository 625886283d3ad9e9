use Rattle.flow.proofs.Changing.{amounts_bounded}
use Rattle.flow.proofs.amounts_bounded_stands.Goals as goal

pub returns : goal.returns
returns c = amounts_bounded
