use Rattle.printing.proofs.Writing.{puts_none, puts_then}
use Rattle.printing.proofs.lines.put_place.Goals as goal

pub returns-in-Some : goal.returns-in-Some
returns-in-Some c = rw c.in-Some.is (puts_then _ _ _ _ _ c.put.ensures c.put_number.ensures)

pub returns-in_default : goal.returns-in_default
returns-in_default c = rw c.in_default.is (puts_none c.args.room.now)
