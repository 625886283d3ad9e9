use Rattle.std.proofs.Common.{◌≡◌}
use Rattle.layer.specs.Keeping.{own_arcs}
use Rattle.naming.specs.Names.{Naming}
use Rattle.drawing.specs.Ahead.{ahead, records_left}
use Rattle.entries.specs.Entered.{chamber_lines}
use Rattle.entries.specs.Leaving.{chambers_entered}
use Rattle.entries.proofs.reading.enter_chambers.Given as goal

-- what is ahead, from the chambers as they are, still gives all the lines, and still leaves the same
abbrev pub invariant-reading : goal.invariant-reading
invariant-reading g l =
    let net = g.N.Network.meaning l.initial.layer.extended.below in
    let giver = g.N.Network.giver l.initial.layer.extended.below in
    (l.layer.extended.below ≡ l.initial.layer.extended.below)
    × ((names : Naming) → chamber_lines names (ahead l.reader) net giver (own_arcs l.layer.extended.own)
    ≡ chamber_lines names (ahead l.initial.reader) net giver (own_arcs l.initial.layer.extended.own))
    × (chambers_entered (ahead l.reader) net (own_arcs l.layer.extended.own)
    ≡ chambers_entered (ahead l.initial.reader) net (own_arcs l.initial.layer.extended.own))

abbrev pub decreases-reading : goal.decreases-reading
decreases-reading g l = records_left (ahead l.reader)
