use Rattle.printing.proofs.Writing.{puts_then}
use Rattle.printing.proofs.lines.put_refusal.Goals as goal

pub returns : goal.returns
returns c =
    let number = rw c.number.ensures at c.put_number.ensures in
    let word = rw c.word.ensures at c.put-3.ensures in
    puts_then _ _ _ _ _ c.put.ensures (puts_then _ _ _ _ _ number (puts_then _ _ _ _ _ c.put_place.ensures
    (puts_then _ _ _ _ _ c.put-2.ensures word)))
