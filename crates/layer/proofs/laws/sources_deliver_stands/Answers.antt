use Rattle.layer.proofs.Passing.{sources_deliver}
use Rattle.layer.proofs.laws.sources_deliver_stands.Goals as goal

pub returns : goal.returns
returns c = sources_deliver
