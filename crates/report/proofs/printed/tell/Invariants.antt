use Rattle.std.specs.Fmt.{IsPlainFormatter}
use Rattle.desk.specs.Rest.{rest}
use Rattle.report.proofs.Telling.{Sofar}
use Rattle.report.proofs.printed.tell.Given as goal

-- with the lines that are left, what was written makes all
abbrev pub invariant-loop-line : goal.invariant-loop-line
invariant-loop-line g l =
    let left = rest g.N.Network.meaning g.N.Network.giver in
    (goal.iterator-loop-line g).can_next l.line-iterator
    × (goal.iterator-loop-line g).is_finite l.line-iterator
    × (IsPlainFormatter l.initial.f →
    Sofar g.W.Write.write_str_gives (left l.initial.line-iterator) l.initial.f (left l.line-iterator) l.f)
