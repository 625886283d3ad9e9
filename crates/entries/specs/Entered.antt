-- What is printed for the entries of a drawing and what follows them, over a network g.
use Rattle.std.specs.Prelude.{ℕ, List, [], ◌∷◌, ◌++◌, Some, None, Option}
use Rattle.refusal.specs.declared.Part.{Part}
use Rattle.refusal.specs.declared.Part.TheVariants as parts
use Rattle.refusal.specs.Checks.{first_of}
use Rattle.flow.specs.Net.{Arc, Net}
use Rattle.layer.specs.Layering.{layer_giver}
use Rattle.layer.specs.Chambered.{chambered}
use Rattle.layer.specs.Gathered.{gathered}
use Rattle.chambers.specs.Entering.{chamber_checks, chamber_reach}
use Rattle.gathering.specs.declared.role.Role.{Role}
use Rattle.gathering.specs.declared.role.Role.TheVariants.{Source, Sink}
use Rattle.gathering.specs.Entering.{Feeders, no_feeders, listed, with_feeder, feeder, gather_checks}
use Rattle.naming.specs.Names.{Naming}
use Rattle.drawing.specs.Records.{Said, shape, name, reach, table_end, chamber, source, sink, limit, settle, drain, bottleneck, tally}
use Rattle.drawing.specs.Ahead.{Drawn, item, end, refused}
use Rattle.desk.specs.Lines.{Lines, refusable}
use Rattle.desk.specs.Commands.{asked}
use Rattle.desk.specs.Answering.{opened_lines}

-- an entry of a source or a sink: its role, its junction, and the limit that it states, if it states one
pub record Feed : Type 0 where
  pub role : Role
  pub junction : ℕ
  pub stated : Option ℕ

-- the source or the sink that a record enters
abbrev pub feed_in : Said → Option Feed
feed_in (source j q) = Some (record { role = Source; junction = j; stated = q })
feed_in (sink j q) = Some (record { role = Sink; junction = j; stated = q })
feed_in (shape n i o) = None
feed_in (name j s p) = None
feed_in (reach t h q) = None
feed_in table_end = None
feed_in (chamber j q) = None
feed_in (limit k q) = None
feed_in (settle b) = None
feed_in drain = None
feed_in bottleneck = None
feed_in tally = None

-- a source or a sink at the place p, among the feeders that are there: refused, or entered, with the lines that follow;
-- and the other lines where the record is neither
abbrev pub feed_at : Option Feed → ℕ → Net → Feeders → (Feeders → Lines) → Lines → Lines
feed_at (Some e) p g fs next other =
    refusable (first_of (gather_checks e.role g fs e.junction e.stated)) p
    (next (with_feeder e.role (feeder e.role g e.junction e.stated) fs))
feed_at None p g fs next other = other

-- the lines of the commands, over the network with these feeders
abbrev pub then_commands : Naming → Drawn → Net → (ℕ → Part) → Feeders → Lines
then_commands names d g giver fs =
    opened_lines names (asked d) (layer_giver parts.Gathering g giver) (gathered g (listed fs))

-- the lines of the sources and sinks that come next, and then those of the commands; fs are there
abbrev pub feeder_lines : Naming → Drawn → Net → (ℕ → Part) → Feeders → Lines
feeder_lines names (item p a rest) g giver fs =
    feed_at (feed_in a) p g fs (feeder_lines names rest g giver) (then_commands names (item p a rest) g giver fs)
feeder_lines names (end p) g giver fs = then_commands names (end p) g giver fs
feeder_lines names (refused e) g giver fs = then_commands names (refused e) g giver fs

-- the chamber that a record enters: its junction and its limit
abbrev pub chamber_in : Said → Option (ℕ × ℕ)
chamber_in (chamber j q) = Some (j, q)
chamber_in (source j q) = None
chamber_in (sink j q) = None
chamber_in (shape n i o) = None
chamber_in (name j s p) = None
chamber_in (reach t h q) = None
chamber_in table_end = None
chamber_in (limit k q) = None
chamber_in (settle b) = None
chamber_in drain = None
chamber_in bottleneck = None
chamber_in tally = None

-- a chamber at the place p, among those whose reaches are there: refused, or entered, with the lines that follow; and
-- the other lines where the record is none
abbrev pub chamber_at : Option (ℕ × ℕ) → ℕ → Net → List Arc → (List Arc → Lines) → Lines → Lines
chamber_at (Some e) p g own next other =
    refusable (first_of (chamber_checks g own e.0 e.1)) p (next (own ++ (chamber_reach g own e.0 e.1 ∷ [])))
chamber_at None p g own next other = other

-- the lines of the sources and sinks and of what follows them, over the network with these chambers
abbrev pub then_feeders : Naming → Drawn → Net → (ℕ → Part) → List Arc → Lines
then_feeders names d g giver own =
    feeder_lines names d (chambered g own) (layer_giver parts.Chambers g giver) no_feeders

-- the lines of the chambers that come next, and then those of the sources and sinks; own are there
abbrev pub chamber_lines : Naming → Drawn → Net → (ℕ → Part) → List Arc → Lines
chamber_lines names (item p a rest) g giver own =
    chamber_at (chamber_in a) p g own (chamber_lines names rest g giver) (then_feeders names (item p a rest) g giver own)
chamber_lines names (end p) g giver own = then_feeders names (end p) g giver own
chamber_lines names (refused e) g giver own = then_feeders names (refused e) g giver own
