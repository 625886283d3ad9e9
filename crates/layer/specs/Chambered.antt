-- What chambers (limits on junctions, node capacities) make of a network.
-- A chamber is told by its reach, which goes from the chamber's junction to the junction's twin. `own` is the list of
-- the chambers' reaches, in the order of their entries, and g the network below.
use Rattle.std.specs.Prelude.{◌≡◌, ℕ, ◌+◌, ◌<◌, ◌≤◌, cond, List, [], ◌∷◌, ◌++◌, map, length, Some, None, Option, ◌==◌}
use Rattle.flow.specs.Bounds.{most_junctions, most_reaches, highest_limit}
use Rattle.flow.specs.Net.{Arc, Net, arc_at}
use Rattle.layer.specs.Layering.{leaving_from}

-- the twin of junction v, if v has a chamber
abbrev pub twin_of : List Arc → ℕ → Option ℕ
twin_of [] v = None
twin_of (r ∷ rs) v = cond (r.tail == v) (Some r.head) (twin_of rs v)

-- the junction that the reaches of the network below leave in place of v: the twin of v, or v where it has none
abbrev pub or_self : Option ℕ → ℕ → ℕ
or_self (Some t) v = t
or_self None v = v

abbrev pub left_from : List Arc → ℕ → ℕ
left_from own v = or_self (twin_of own v) v

-- the network with its chambers: the twins are the junctions behind those of g, and the chambers' reaches stand behind
-- those of g; what left a chambered junction leaves its twin, and what entered it still enters it; an outfall with a
-- chamber is its twin, an intake stays
abbrev pub chambered : Net → List Arc → Net
chambered g own = record {
  junctions = g.junctions + length own;
  intake = g.intake;
  outfall = left_from own g.outfall;
  reaches = map (leaving_from (left_from own)) g.reaches ++ own;
}

-- the reach of chamber e over n junctions: it leaves one of them, and its twin is junction n + e
abbrev pub ChamberArc : ℕ → ℕ → Arc → Type 0
ChamberArc n e r = (r.tail < n) × (r.head ≡ n + e) × (r.carried ≤ r.limit) × (r.limit ≤ highest_limit)

-- the chambers fit a network of n junctions and m reaches, and no two of them stand at one junction
pub record Chambering (n m : ℕ) (own : List Arc) : Type 0 where
  pub small : n + length own ≤ most_junctions
  pub short : m + length own ≤ most_reaches
  pub each : (e : ℕ) → e < length own → ChamberArc n e (arc_at own e)
  pub alone : (e : ℕ) → e < length own → twin_of own (arc_at own e).tail ≡ Some (arc_at own e).head
