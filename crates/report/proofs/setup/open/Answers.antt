use Rattle.report.proofs.Once.{told_once}
use Rattle.report.proofs.Accounting.{accounted}
use Rattle.report.proofs.TellingMost.{most_told}
use Rattle.report.proofs.TellingLitres.{adds_told}
use Rattle.report.proofs.setup.open.Goals as goal

pub returns-in_err-reader-clause-once : goal.returns-in_err-reader-clause-once
returns-in_err-reader-clause-once g c = told_once _ _

pub returns-clause-once : goal.returns-clause-once
returns-clause-once g c = told_once _ _

pub returns-in_err-reader-clause-account : goal.returns-in_err-reader-clause-account
returns-in_err-reader-clause-account g c = accounted _ _

pub returns-clause-account : goal.returns-clause-account
returns-clause-account g c = accounted _ _

pub returns-in_err-reader-clause-most : goal.returns-in_err-reader-clause-most
returns-in_err-reader-clause-most g c = most_told c.args.rows.now c.args.input.now

pub returns-clause-most : goal.returns-clause-most
returns-clause-most g c = most_told c.args.rows.now c.args.input.now

pub returns-in_err-enter_chambers-clause-most : goal.returns-in_err-enter_chambers-clause-most
returns-in_err-enter_chambers-clause-most g c = most_told _ _

pub returns-in_err-enter_feeders-clause-most : goal.returns-in_err-enter_feeders-clause-most
returns-in_err-enter_feeders-clause-most g c = most_told _ _

pub returns-in_err-reader-clause-adds : goal.returns-in_err-reader-clause-adds
returns-in_err-reader-clause-adds g c = adds_told c.args.rows.now c.args.input.now

pub returns-clause-adds : goal.returns-clause-adds
returns-clause-adds g c = adds_told c.args.rows.now c.args.input.now

pub returns-in_err-enter_chambers-clause-adds : goal.returns-in_err-enter_chambers-clause-adds
returns-in_err-enter_chambers-clause-adds g c = adds_told _ _

pub returns-in_err-enter_feeders-clause-adds : goal.returns-in_err-enter_feeders-clause-adds
returns-in_err-enter_feeders-clause-adds g c = adds_told _ _
