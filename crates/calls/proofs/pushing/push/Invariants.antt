use Rattle.std.proofs.Common.{◌≡◌, ℕ, take}
use Rattle.flow.specs.Changes.{with_reaches}
use Rattle.flow.specs.Pushes.{shifted_along}
use Rattle.routes.specs.Routing.{steps_of}
use Rattle.calls.proofs.pushing.push.Given as goal

-- the litres go along the steps so far
abbrev pub invariant-loop-step : goal.invariant-loop-step
invariant-loop-step g l =
    let was = g.N.Network.meaning l.initial.net in
    let ss = steps_of l.route in
    record {
      done : g.N.Network.meaning l.net ≡ with_reaches was (shifted_along l.litres was.reaches (take l.step-index ss));
      giver : (j : ℕ) → g.N.Network.giver l.net j ≡ g.N.Network.giver l.initial.net j;
    }
