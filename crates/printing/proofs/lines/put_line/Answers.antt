use Rattle.std.proofs.Common.{rules, w64}
use Rattle.std.proofs.lemmas.Int.{to_z-of_z}
use Rattle.printing.proofs.Writing.{puts_then}
use Rattle.printing.proofs.lines.put_line.Goals as goal

pub returns-in-Network : goal.returns-in-Network
returns-in-Network c =
    rw c.in-Network.is (puts_then _ _ _ _ _ c.put.ensures (puts_then _ _ _ _ _ c.put_number.ensures
    (puts_then _ _ _ _ _ c.put-in-Network.ensures c.put_number-in-Network.ensures)))

pub returns-in-Limit : goal.returns-in-Limit
returns-in-Limit c =
    rw c.in-Limit.is (puts_then _ _ _ _ _ c.put-in-Limit.ensures (puts_then _ _ _ _ _ c.put_number-in-Limit.ensures
    (puts_then _ _ _ _ _ c.put-in-Limit-2.ensures c.put_number-in-Limit-2.ensures)))

pub returns-in-Settled : goal.returns-in-Settled
returns-in-Settled c =
    let word = rw c.yes_no.ensures at c.put-in-Settled-4.ensures in
    rw c.in-Settled.is (puts_then _ _ _ _ _ c.put-in-Settled.ensures (puts_then _ _ _ _ _ c.put_number-in-Settled.ensures
    (puts_then _ _ _ _ _ c.put-in-Settled-2.ensures (puts_then _ _ _ _ _ c.put_number-in-Settled-2.ensures
    (puts_then _ _ _ _ _ c.put-in-Settled-3.ensures word)))))

pub returns-in-Tally : goal.returns-in-Tally
returns-in-Tally c =
    let back = to_z-of_z w64 c.in-Tally.delivered (search rules) in
    let number = rw back at c.put_signed.ensures in
    rw c.in-Tally.is (puts_then _ _ _ _ _ c.put-in-Tally.ensures number)

pub returns-in-Bottleneck : goal.returns-in-Bottleneck
returns-in-Bottleneck c =
    rw c.in-Bottleneck.is (puts_then _ _ _ _ _ c.put-in-Bottleneck.ensures c.put_number-in-Bottleneck.ensures)

pub returns-in-Across : goal.returns-in-Across
returns-in-Across c =
    rw c.in-Across.is (puts_then _ _ _ _ _ c.put-in-Across.ensures (puts_then _ _ _ _ _ c.put_number-in-Across.ensures
    (puts_then _ _ _ _ _ c.put-in-Across-2.ensures (puts_then _ _ _ _ _ c.put_label.ensures
    (puts_then _ _ _ _ _ c.put-in-Across-3.ensures (puts_then _ _ _ _ _ c.put_label-in-Across.ensures
    (puts_then _ _ _ _ _ c.put-in-Across-4.ensures c.put_number-in-Across-2.ensures)))))))
