use Rattle.std.proofs.Common.{◌≡◌, ◌<◌}
use Rattle.routes.specs.Routing.{steps_of}
use Rattle.labelling.specs.Keeping.{label_of, current_of, rise_left}
use Rattle.labelling.specs.Standing.{Fits}
use Rattle.labelling.proofs.Stands.{Stands, StandsOrEnds}
use Rattle.searches.proofs.dd1.BegunDd1Begun.route.Given as goal

-- where the search was in step with the network, its labels and current steps fit, and its walk is along them while the
-- intake's label is below n
abbrev pub invariant-search : goal.invariant-search
invariant-search g l =
    let n = g.N.Network.meaning l.net in
    let was = l.fn.self.kept in
    Fits n (label_of was) (current_of was) → StandsOrEnds n l.self.kept (steps_of l.route) l.at

-- advancing raises no label
abbrev pub invariant-advance : goal.invariant-advance
invariant-advance g l =
    let n = g.N.Network.meaning l.net in
    let was = l.fn.self.kept in
    record {
      level : rise_left l.self.kept ≡ rise_left l.initial.self.kept;
      below : label_of l.self.kept n.intake < n.junctions;
      stands : Fits n (label_of was) (current_of was) → Stands n l.self.kept (steps_of l.route) l.at;
    }

abbrev pub decreases-search : goal.decreases-search
decreases-search g l = rise_left l.self.kept

abbrev pub decreases-advance : goal.decreases-advance
decreases-advance g l = label_of l.self.kept l.at
