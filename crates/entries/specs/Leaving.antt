-- What the entries of a drawing leave: what is still ahead, and what the layer then holds. The first record that is no entry
-- of the layer, or that the layer refuses, stops them; that record and those behind it are still ahead. g is the network
-- below the layer.
use Rattle.std.specs.Prelude.{ℕ, cond, List, [], ◌∷◌, ◌++◌, Some, None, Option, is_some}
use Rattle.refusal.specs.Checks.{first_of}
use Rattle.flow.specs.Net.{Arc, Net}
use Rattle.chambers.specs.Entering.{chamber_checks, chamber_reach}
use Rattle.gathering.specs.Entering.{Feeders, with_feeder, feeder, gather_checks}
use Rattle.drawing.specs.Ahead.{Drawn, item, end, refused}
use Rattle.entries.specs.Entered.{Feed, feed_in, chamber_in}

-- the chamber that the first record of d enters: it is put behind those that are there, and `next` goes on with the rest;
-- where it is refused, or the record enters none, d is still ahead and the reaches stay
abbrev pub chamber_entered : Option (ℕ × ℕ) → Drawn → Net → List Arc → (List Arc → Drawn × List Arc) → Drawn × List Arc
chamber_entered (Some e) d g own next =
    cond (is_some (first_of (chamber_checks g own e.0 e.1))) (d, own) (next (own ++ (chamber_reach g own e.0 e.1 ∷ [])))
chamber_entered None d g own next = (d, own)

-- what is still ahead when the chambers of a drawing are entered, and the reaches of the chambers then; `own` are there
abbrev pub chambers_entered : Drawn → Net → List Arc → Drawn × List Arc
chambers_entered (item p a rest) g own =
    chamber_entered (chamber_in a) (item p a rest) g own (chambers_entered rest g)
chambers_entered (end p) g own = (end p, own)
chambers_entered (refused e) g own = (refused e, own)

-- the same of the source or the sink that the first record of d enters, and of the feeders
abbrev pub feeder_entered : Option Feed → Drawn → Net → Feeders → (Feeders → Drawn × Feeders) → Drawn × Feeders
feeder_entered (Some e) d g fs next =
    cond (is_some (first_of (gather_checks e.role g fs e.junction e.stated))) (d, fs)
    (next (with_feeder e.role (feeder e.role g e.junction e.stated) fs))
feeder_entered None d g fs next = (d, fs)

-- what is still ahead when the sources and sinks of a drawing are entered, and the feeders then; `fs` are there
abbrev pub feeders_entered : Drawn → Net → Feeders → Drawn × Feeders
feeders_entered (item p a rest) g fs =
    feeder_entered (feed_in a) (item p a rest) g fs (feeders_entered rest g)
feeders_entered (end p) g fs = (end p, fs)
feeders_entered (refused e) g fs = (refused e, fs)
