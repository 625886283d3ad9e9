use Rattle.std.proofs.Common.{◌≡◌, ℕ, ◌-◌, ◌*◌, ◌≤◌, false}
use Rattle.flow.specs.Bounds.{highest_limit}
use Rattle.calls.proofs.Sofar.{SoFar}
use Rattle.calls.proofs.settling.settle.Given as goal

-- the routes so far are those of the plain machine, they are counted, and the search is in step with the network
abbrev pub invariant-pushing : goal.invariant-pushing
invariant-pushing g l =
    let was = g.N.Network.meaning l.initial.net in
    let now = g.N.Network.meaning l.net in
    record {
      so_far : SoFar was now l.settled.routes l.settled.litres;
      in_step : g.S.Begun.Begun.in_step l.begun now;
      budget : l.settled.routes ≤ l.budget;
      few : l.settled.litres ≤ l.settled.routes * highest_limit;
      not_yet : l.settled.finished ≡ false;
      giver : (j : ℕ) → g.N.Network.giver l.net j ≡ g.N.Network.giver l.initial.net j;
    }

abbrev pub decreases-pushing : goal.decreases-pushing
decreases-pushing g l = l.budget - l.settled.routes
