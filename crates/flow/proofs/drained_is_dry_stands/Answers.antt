use Rattle.flow.proofs.Changing.{drained_is_dry}
use Rattle.flow.proofs.drained_is_dry_stands.Goals as goal

pub returns : goal.returns
returns c = drained_is_dry
