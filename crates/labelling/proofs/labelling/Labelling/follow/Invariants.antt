use Rattle.std.proofs.Common.{◌<◌}
use Rattle.routes.specs.Routing.{steps_of}
use Rattle.labelling.specs.Keeping.{label_of, current_of}
use Rattle.labelling.specs.Standing.{Fits}
use Rattle.labelling.specs.Following.{OnlyAdvanced}
use Rattle.labelling.proofs.Stands.{Stands}
use Rattle.labelling.proofs.labelling.Labelling.follow.Given as goal

-- the route so far is the walk
abbrev pub invariant-following : goal.invariant-following
invariant-following g l =
    let n = g.N.Network.meaning l.net in
    let was = l.fn.self in
    record {
      only : OnlyAdvanced n.reaches was l.self;
      below : label_of l.self n.intake < n.junctions;
      stands : Fits n (label_of was) (current_of was) → Stands n l.self (steps_of l.route) l.at;
    }

abbrev pub decreases-following : goal.decreases-following
decreases-following g l = label_of l.self l.at
