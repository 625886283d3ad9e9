use Rattle.std.proofs.Common.{◌≡◌, ℕ, ◌<◌, get_or}
use Rattle.flow.specs.Steps.{begins, IsOpen}
use Rattle.routes.specs.Routing.{steps_of}
use Rattle.searches.specs.Waiting.{IsPending}
use Rattle.searches.proofs.dd2.BegunDd2.add_begins.Given as goal

-- the begins of the steps so far are pending
abbrev pub invariant-loop-step : goal.invariant-loop-step
invariant-loop-step g l =
    let rs = (g.N.Network.meaning l.net).reaches in
    let was = l.fn.self in
    record {
      kept : l.self.kept ≡ was.kept;
      grows : (u : ℕ) → IsPending was.pending u → IsPending l.self.pending u;
      begins : (k d : ℕ) → k < l.step-index → IsOpen rs (get_or (steps_of l.route) k d) →
          IsPending l.self.pending (begins rs (get_or (steps_of l.route) k d));
    }
