use Rattle.std.specs.Prelude.{IsTrue}
use Rattle.flow.specs.Cuts.{crosses}
use Rattle.flow.specs.Histories.{marked}
use Rattle.network.specs.Touching.{NoneFrom}
use Rattle.marking.proofs.crossing.next_crossing.Given as goal

-- none of the reaches so far crosses
abbrev pub invariant-loop-i : goal.invariant-loop-i
invariant-loop-i g l = NoneFrom (λ r. IsTrue (crosses (marked l.marks) r)) (g.N.Network.meaning l.net).reaches l.k l.i
