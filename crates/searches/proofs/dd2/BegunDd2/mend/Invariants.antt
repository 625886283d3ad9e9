use Rattle.searches.specs.Mending.{InStep, work_left}
use Rattle.searches.proofs.dd2.BegunDd2.mend.Given as goal

abbrev pub invariant-mending : goal.invariant-mending
invariant-mending g l = let n = g.N.Network.meaning l.net in InStep l.fn.self n → InStep l.self n

abbrev pub decreases-mending : goal.decreases-mending
decreases-mending g l = work_left l.self
