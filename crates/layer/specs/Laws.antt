-- Laws about layers, in the words of whoever lays out a scheme.
use Rattle.std.specs.Prelude.{◌≡◌, ℕ, ◌<◌, ◌≤◌, List, ◌++◌, length, pos}
use Rattle.flow.specs.Net.{Arc, Net, arc_at, Sound}
use Rattle.flow.specs.Flows.{sum_of, leaving, entering, delivered}
use Rattle.layer.specs.Chambered.{chambered, Chambering}
use Rattle.layer.specs.Gathered.{gathered, FeedersFit}

-- all that leaves a junction with a chamber, and all that enters its twin, is what the chamber's reach carries; so no
-- more passes the junction than the chamber's limit
pub record ChamberPasses : Type 0 where
  pub leaves : (g : Net) (own : List Arc) (e : ℕ) → Sound g → Chambering g.junctions (length g.reaches) own →
      e < length own → leaving (arc_at own e).tail (chambered g own).reaches ≡ (arc_at own e).carried
  pub enters : (g : Net) (own : List Arc) (e : ℕ) → Sound g → Chambering g.junctions (length g.reaches) own →
      e < length own → entering (arc_at own e).head (chambered g own).reaches ≡ (arc_at own e).carried
  pub limited : (g : Net) (own : List Arc) (e : ℕ) → Sound g → Chambering g.junctions (length g.reaches) own →
      e < length own → leaving (arc_at own e).tail (chambered g own).reaches ≤ (arc_at own e).limit

-- what a network with sources and sinks delivers is what the sources' feeders carry
abbrev pub SourcesDeliver : Type 0
SourcesDeliver = (g : Net) (sources sinks : List Arc) → Sound g →
    FeedersFit g.junctions (length g.reaches) sources sinks → 0 < length (sources ++ sinks) →
    delivered (gathered g (sources ++ sinks)) ≡ pos (sum_of (λ r. r.carried) sources)
