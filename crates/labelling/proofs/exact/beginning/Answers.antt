use Rattle.labelling.proofs.Sets.{zeros}
use Rattle.labelling.proofs.exact.beginning.Goals as goal

pub returns-clause-current : goal.returns-clause-current
returns-clause-current c = zeros
