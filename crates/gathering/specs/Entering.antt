-- An entry of a source or a sink: when it is refused, and what it makes of the feeders. g is the network below.
use Rattle.std.specs.Prelude.{◌≡◌, ℕ, ◌+◌, Bool, false, List, [], ◌∷◌, ◌++◌, length, Some, None, Option, nat_le, nat_lt}
use Rattle.refusal.specs.declared.Part.TheVariants as parts
use Rattle.refusal.specs.Checks.{Check, check}
use Rattle.flow.specs.Bounds.{highest_setting}
use Rattle.flow.specs.Net.{Arc, Net}
use Rattle.flow.specs.Flows.{carries_any}
use Rattle.layer.specs.Layering.{crowded}
use Rattle.layer.specs.Gathered.{gathered}
use Rattle.gathering.specs.declared.role.Role.{Role}
use Rattle.gathering.specs.declared.role.Role.TheVariants.{Source, Sink}
use Rattle.gathering.specs.Bounds.{most_of_each, unstated_limit}

-- the feeders of the sources and those of the sinks, each in the order given
pub record Feeders : Type 0 where
  pub sources : List Arc
  pub sinks : List Arc

abbrev pub no_feeders : Feeders
no_feeders = record { sources = []; sinks = [] }

-- all of them, in the order of their numbers: the sources' first
abbrev pub listed : Feeders → List Arc
listed fs = fs.sources ++ fs.sinks

-- those of one role
abbrev pub of_role : Role → Feeders → List Arc
of_role Source fs = fs.sources
of_role Sink fs = fs.sinks

-- one more of a role, behind the others of that role
abbrev pub with_feeder : Role → Arc → Feeders → Feeders
with_feeder Source r fs = record { sources = fs.sources ++ (r ∷ []); sinks = fs.sinks }
with_feeder Sink r fs = record { sources = fs.sources; sinks = fs.sinks ++ (r ∷ []) }

-- the place of one more of a role among all, of which the first s are the sources', and how many sources there are then
abbrev pub Placed : Role → ℕ → List Arc → ℕ → ℕ → Type 0
Placed Source s own at next = (at ≡ s) × (next ≡ s + 1)
Placed Sink s own at next = (at ≡ length own) × (next ≡ s)

-- the limit of a feeder: as stated, or that of a feeder with none stated
abbrev pub limit_of : Option ℕ → ℕ
limit_of (Some q) = q
limit_of None = unstated_limit

-- the feeder of junction v: of a source, from the new intake; of a sink, to the new outfall; and dry
abbrev pub feeder : Role → Net → ℕ → Option ℕ → Arc
feeder Source g v stated = record { tail = g.junctions; head = v; limit = limit_of stated; carried = 0 }
feeder Sink g v stated = record { tail = v; head = g.junctions + 1; limit = limit_of stated; carried = 0 }

-- a limit is stated that is above the highest that may be set
abbrev pub too_high : Option ℕ → Bool
too_high (Some q) = nat_lt highest_setting q
too_high None = false

-- whether v is a junction of the network below, the limit, whether a place is left for the role, whether the network
-- grows too large (where feeders are there, the two new junctions are there and fit), and whether some reach carries
abbrev pub gather_checks : Role → Net → Feeders → ℕ → Option ℕ → List Check
gather_checks role g fs v stated =
    check (nat_le g.junctions v) 2 parts.Gathering
    ∷ check (too_high stated) 5 parts.Gathering
    ∷ check (nat_le most_of_each (length (of_role role fs))) 8 parts.Gathering
    ∷ check (crowded (g.junctions + 2) (length g.reaches + length (listed fs) + 1)) 9 parts.Gathering
    ∷ check (carries_any (gathered g (listed fs)).reaches) 14 parts.Gathering ∷ []
