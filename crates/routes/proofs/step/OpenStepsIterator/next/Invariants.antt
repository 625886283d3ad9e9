use Rattle.std.proofs.Common.{◌≡◌, ℕ, ◌-◌, ◌*◌, ◌≤◌, length}
use Rattle.flow.specs.Routes.{GoesFirst}
use Rattle.routes.specs.Going.{OpenThere}
use Rattle.routes.proofs.step.OpenStepsIterator.next.Given as goal

-- the open steps at the junction that have been passed over had been passed before
abbrev pub invariant-loop-k : goal.invariant-loop-k
invariant-loop-k g l =
    let was = l.initial.self in
    record {
      net : l.self.net ≡ was.net;
      junction : l.self.junction ≡ was.junction;
      end : l.self.end ≡ was.end;
      onward : was.next ≤ l.self.next;
      passed : (t : ℕ) → OpenThere g.N.Network.meaning was t → GoesFirst t l.self.next → GoesFirst t was.next;
    }

abbrev pub decreases-loop-k : goal.decreases-loop-k
decreases-loop-k g l = 2 * length (g.N.Network.meaning l.self.net.now).reaches - l.self.next
