use Rattle.std.proofs.Common.{drop, rules}
use Rattle.table.proofs.Changing.{fair_changed, written_in_front}
use Rattle.table.proofs.table.calls.TableNetwork.change.Goals as goal

pub invariant_of-draft-clause-fair : goal.invariant_of-draft-clause-fair
invariant_of-draft-clause-fair c =
    let d = c.args.self.now.laid in
    let called = c.change_in in
    search (rules, fair_changed d called.result called.new.rows (drop d.size.reaches d.rows.now))

pub returns-clause-rows : goal.returns-clause-rows
returns-clause-rows c = search (rules, written_in_front)
