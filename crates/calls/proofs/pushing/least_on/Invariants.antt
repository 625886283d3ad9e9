use Rattle.std.proofs.Common.{◌≤◌, take, MatchOption}
use Rattle.flow.specs.Bounds.{highest_limit}
use Rattle.routes.specs.Routing.{steps_of}
use Rattle.calls.proofs.Shifting.{LeastOf}
use Rattle.calls.proofs.pushing.least_on.Given as goal

-- the least headroom on the steps so far
abbrev pub invariant-loop-step : goal.invariant-loop-step
invariant-loop-step g l = record {
  least : LeastOf (g.N.Network.meaning l.net).reaches (take l.step-index (steps_of l.route)) l.least;
  few : MatchOption l.least (Unit {0}) (λ x. x ≤ highest_limit);
}
