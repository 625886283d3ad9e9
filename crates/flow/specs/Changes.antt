-- What the calls that write do to a network.
use Rattle.std.specs.Prelude.{◌≡◌, ℕ, List, map, slice_set}
use Rattle.flow.specs.Net.{Arc, Net, arc_at}

-- a reach with another carried amount, and with another limit
abbrev pub carrying : ℕ → Arc → Arc
carrying a r = record { tail = r.tail; head = r.head; limit = r.limit; carried = a }

abbrev pub limiting : ℕ → Arc → Arc
limiting q r = record { tail = r.tail; head = r.head; limit = q; carried = r.carried }

-- the network with other reaches
abbrev pub with_reaches : Net → List Arc → Net
with_reaches g rs = record { junctions = g.junctions; intake = g.intake; outfall = g.outfall; reaches = rs }

-- reach k of the network changed by f, and nothing else
abbrev pub reach_changed : (Arc → Arc) → ℕ → Net → Net
reach_changed f k g = with_reaches g (slice_set g.reaches k (f (arc_at g.reaches k)))

-- reach k carries a; reach k has the limit q
abbrev pub recarried : ℕ → ℕ → Net → Net
recarried k a g = reach_changed (carrying a) k g

abbrev pub relimited : ℕ → ℕ → Net → Net
relimited k q g = reach_changed (limiting q) k g

-- no reach carries anything
abbrev pub drained : Net → Net
drained g = with_reaches g (map (carrying 0) g.reaches)

-- two networks that are alike but for what they carry: once drained, they are the same
abbrev pub Alike : Net → Net → Type 0
Alike g h = drained g ≡ drained h
