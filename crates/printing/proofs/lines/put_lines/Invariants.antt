use Rattle.desk.specs.Rest.{rest}
use Rattle.printing.proofs.Writing.{Sofar}
use Rattle.printing.proofs.lines.put_lines.Given as goal

-- with the lines that are left, what was put makes all
abbrev pub invariant-loop-line : goal.invariant-loop-line
invariant-loop-line g l =
    let left = rest g.N.Network.meaning g.N.Network.giver in
    (goal.iterator-loop-line g).can_next l.line-iterator
    × (goal.iterator-loop-line g).is_finite l.line-iterator
    × Sofar (left l.initial.line-iterator) l.initial.room (left l.line-iterator) l.room
