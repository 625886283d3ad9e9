use Rattle.std.proofs.Common.{◌≡◌}
use Rattle.gathering.specs.Standing.{feeders_of}
use Rattle.naming.specs.Names.{Naming}
use Rattle.drawing.specs.Ahead.{ahead, records_left}
use Rattle.entries.specs.Entered.{feeder_lines}
use Rattle.entries.specs.Leaving.{feeders_entered}
use Rattle.entries.proofs.reading.enter_feeders.Given as goal

-- what is ahead, from the feeders as they are, still gives all the lines, and still leaves the same
abbrev pub invariant-reading : goal.invariant-reading
invariant-reading g l =
    let net = g.N.Network.meaning l.initial.layer.extended.below in
    let giver = g.N.Network.giver l.initial.layer.extended.below in
    (l.layer.extended.below ≡ l.initial.layer.extended.below)
    × ((names : Naming) → feeder_lines names (ahead l.reader) net giver (feeders_of l.layer)
    ≡ feeder_lines names (ahead l.initial.reader) net giver (feeders_of l.initial.layer))
    × (feeders_entered (ahead l.reader) net (feeders_of l.layer)
    ≡ feeders_entered (ahead l.initial.reader) net (feeders_of l.initial.layer))

abbrev pub decreases-reading : goal.decreases-reading
decreases-reading g l = records_left (ahead l.reader)
