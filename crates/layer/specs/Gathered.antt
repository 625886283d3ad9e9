-- What gathering (a supersource and a supersink) makes of a network.
-- A source and a sink are told by their feeders, the reaches that join them to the new intake and the new outfall.
-- `own` is the list of the feeders, the sources' before the sinks', and g the network below.
use Rattle.std.specs.Prelude.{◌≡◌, ℕ, ◌+◌, ◌<◌, ◌≤◌, List, [], ◌∷◌, ◌++◌, length}
use Rattle.std.specs.List.{All}
use Rattle.flow.specs.Bounds.{most_junctions, most_reaches, highest_limit}
use Rattle.flow.specs.Net.{Arc, Net}

-- the network with its sources and sinks: the network below where there is none; else two junctions stand behind those
-- of g, the new intake and the new outfall, and the feeders stand behind the reaches of g
abbrev pub gathered : Net → List Arc → Net
gathered g [] = g
gathered g (f ∷ fs) = record {
  junctions = g.junctions + 2;
  intake = g.junctions;
  outfall = g.junctions + 1;
  reaches = g.reaches ++ (f ∷ fs);
}

-- the feeders over n junctions: of a source, from the new intake to one of them; of a sink, from one to the new outfall
abbrev pub SourceArc : ℕ → Arc → Type 0
SourceArc n r = (r.tail ≡ n) × (r.head < n) × (r.carried ≤ r.limit) × (r.limit ≤ highest_limit)

abbrev pub SinkArc : ℕ → Arc → Type 0
SinkArc n r = (r.tail < n) × (r.head ≡ n + 1) × (r.carried ≤ r.limit) × (r.limit ≤ highest_limit)

-- sources and sinks that fit a network of n junctions and m reaches
pub record FeedersFit (n m : ℕ) (sources sinks : List Arc) : Type 0 where
  pub small : 0 < length sources + length sinks → n + 2 ≤ most_junctions
  pub short : m + (length sources + length sinks) ≤ most_reaches
  pub from : All (SourceArc n) sources
  pub to : All (SinkArc n) sinks
