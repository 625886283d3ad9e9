use Rattle.std.proofs.Common.{◌≡◌, ◌≤◌}
use Rattle.network.specs.Touching.{NoneFrom}
use Rattle.layer.specs.Ends.{end_of}
use Rattle.layer.proofs.ends.next_at.Given as goal

-- none of the reaches from k up to where the iterator has come has the junction at the end
abbrev pub invariant-loop-i : goal.invariant-loop-i
invariant-loop-i g l =
    (goal.iterator-loop-i g).can_next l.i-iterator
    × (goal.iterator-loop-i g).is_finite l.i-iterator
    × (l.i-iterator.net.now ≡ l.net)
    × (l.i-iterator.junction ≡ l.junction)
    × (l.k ≤ l.i-iterator.next)
    × NoneFrom (λ a. end_of l.end a ≡ l.junction) (g.N.Network.meaning l.net).reaches l.k l.i-iterator.next
