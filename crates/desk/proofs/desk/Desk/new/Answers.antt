use Rattle.std.proofs.Common.{rules}
use Rattle.desk.proofs.Counting.{lines_counted}
use Rattle.desk.proofs.desk.Desk.new.Goals as goal

pub returns-clause-count : goal.returns-clause-count
returns-clause-count g c = search (rules, lines_counted)
