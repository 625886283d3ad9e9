use Rattle.report.proofs.Working.{worked_report_is}
use Rattle.report.proofs.laws.worked_drawing_stands.Goals as goal

pub returns : goal.returns
returns c = worked_report_is
