use Rattle.flow.proofs.Likeness.{alike_means}
use Rattle.flow.proofs.alike_stands.Goals as goal

pub returns : goal.returns
returns c = alike_means
