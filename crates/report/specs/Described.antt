-- The network that a drawing describes: its table, its chambers over the table, its sources and sinks over these. (It is
-- said of every drawing; whether all of it is accepted is another matter.)
use Rattle.std.specs.Prelude.{ℕ, List, [], ◌∷◌, ◌++◌, Some, None, Option}
use Rattle.flow.specs.Net.{Arc, Net}
use Rattle.layer.specs.Chambered.{chambered}
use Rattle.layer.specs.Gathered.{gathered}
use Rattle.chambers.specs.Entering.{chamber_reach}
use Rattle.gathering.specs.Entering.{Feeders, no_feeders, listed, with_feeder, feeder}
use Rattle.table.specs.Drafting.{fresh, with_shape, with_reach}
use Rattle.drawing.specs.Records.{Said, shape, reach}
use Rattle.drawing.specs.Ahead.{Drawn, item, end, refused}
use Rattle.entries.specs.Entered.{Feed, feed_in, chamber_in}

-- what a record brings to the table: a shape or a reach
abbrev pub drafted : Said → Net → Net
drafted (shape n i o) g = with_shape g n i o
drafted (reach t h q) g = with_reach g t h q
drafted a g = g

-- the network that the table comes to, from g on
abbrev pub table_of : Drawn → Net → Net
table_of (item p a rest) g = table_of rest (drafted a g)
table_of (end p) g = g
table_of (refused e) g = g

-- the chamber that a record enters over g, if it enters one, behind the reaches of those that are there; and all of them
abbrev pub lodged : Option (ℕ × ℕ) → Net → List Arc → List Arc
lodged (Some e) g own = own ++ (chamber_reach g own e.0 e.1 ∷ [])
lodged None g own = own

abbrev pub chambers_of : Drawn → Net → List Arc → List Arc
chambers_of (item p a rest) g own = chambers_of rest g (lodged (chamber_in a) g own)
chambers_of (end p) g own = own
chambers_of (refused e) g own = own

-- the source or the sink that a record enters over g, if it enters one, with those that are there; and all of them
abbrev pub fed : Option Feed → Net → Feeders → Feeders
fed (Some e) g fs = with_feeder e.role (feeder e.role g e.junction e.stated) fs
fed None g fs = fs

abbrev pub feeders_of : Drawn → Net → Feeders → Feeders
feeders_of (item p a rest) g fs = feeders_of rest g (fed (feed_in a) g fs)
feeders_of (end p) g fs = fs
feeders_of (refused e) g fs = fs

-- the network g with the sources and sinks of a drawing, and with its chambers
abbrev pub with_feeders : Drawn → Net → Net
with_feeders d g = gathered g (listed (feeders_of d g no_feeders))

abbrev pub with_chambers : Drawn → Net → Net
with_chambers d g = chambered g (chambers_of d g [])

-- the whole network
abbrev pub described : Drawn → Net
described d = with_feeders d (with_chambers d (table_of d fresh))
