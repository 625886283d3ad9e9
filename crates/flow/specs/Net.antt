-- What a network means: its junctions (nodes), an intake (source), an outfall (sink), and its reaches (arcs).
use Rattle.std.specs.Prelude.{ℕ, ◌<◌, ◌≤◌, ◌≢◌, List, length, slice_index_or}
use Rattle.std.specs.List.{All}
use Rattle.flow.specs.Bounds.{most_junctions, most_reaches, highest_limit}

-- a reach as plain numbers: the junction that it leaves, the junction that it enters, the most that it may carry
-- (capacity) and what it carries (flow), in whole litres per second
pub record Arc : Type 0 where
  pub tail : ℕ
  pub head : ℕ
  pub limit : ℕ
  pub carried : ℕ

-- junctions are numbered from 0, reaches by their place in the list. In comments n is the number of junctions and m that of
-- reaches
pub record Net : Type 0 where
  pub junctions : ℕ
  pub intake : ℕ
  pub outfall : ℕ
  pub reaches : List Arc

-- reach k of a list; past the end of the list stands a reach that has no room
abbrev pub no_arc : Arc
no_arc = record { tail = 0; head = 0; limit = 0; carried = 0 }

abbrev pub arc_at : List Arc → ℕ → Arc
arc_at rs k = slice_index_or rs k no_arc

-- the ends of a reach are two different junctions
abbrev pub Joined : ℕ → Arc → Type 0
Joined n r = (r.tail < n) × (r.head < n) × (r.tail ≢ r.head)

-- a reach that may be in a network of n junctions
abbrev pub FairArc : ℕ → Arc → Type 0
FairArc n r = Joined n r × (r.carried ≤ r.limit) × (r.limit ≤ highest_limit)

-- what junctions, reaches and limits keep to, whatever the network carries
pub record Shaped (g : Net) : Type 0 where
  pub two : 2 ≤ g.junctions
  pub few : g.junctions ≤ most_junctions
  pub listed : length g.reaches ≤ most_reaches
  pub intake_in : g.intake < g.junctions
  pub outfall_in : g.outfall < g.junctions
  pub ends_differ : g.intake ≢ g.outfall
  pub joined : All (Joined g.junctions) g.reaches
  pub limits : All (λ r. r.limit ≤ highest_limit) g.reaches

-- no reach carries more than its limit
abbrev pub Within : Net → Type 0
Within g = All (λ r. r.carried ≤ r.limit) g.reaches

-- what every network keeps to
pub record Sound (g : Net) : Type 0 where
  pub shaped : Shaped g
  pub within : Within g
