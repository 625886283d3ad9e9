use Rattle.flow.proofs.Checking.{worked_cases}
use Rattle.flow.proofs.each_case_stands.Goals as goal

pub returns : goal.returns
returns c = worked_cases
