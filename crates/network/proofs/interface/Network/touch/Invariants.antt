use Rattle.network.specs.Touching.{NoneFrom, Touches}
use Rattle.network.proofs.interface.Network.touch.Given as goal

abbrev pub invariant-loop-i : goal.invariant-loop-i
invariant-loop-i g l = NoneFrom (Touches l.junction) (g.Self.Network.meaning l.self).reaches l.k l.i
