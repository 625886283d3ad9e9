-- What all layers share.
use Rattle.std.specs.Prelude.{ℕ, Bool, cond, ◌||◌, length, nat_lt}
use Rattle.refusal.specs.declared.Part.{Part}
use Rattle.flow.specs.Bounds.{most_junctions, most_reaches}
use Rattle.flow.specs.Net.{Arc, Net}

-- the part that answers for reach k of a layer over the network g: the layer for the reaches that it adds, and for
-- those of g the part that answers for them there
abbrev pub layer_giver : Part → Net → (ℕ → Part) → ℕ → Part
layer_giver part g below k = cond (nat_lt k (length g.reaches)) (below k) part

-- a reach that leaves the junction `from t` in place of its tail t
abbrev pub leaving_from : (ℕ → ℕ) → Arc → Arc
leaving_from from r = record { tail = from r.tail; head = r.head; limit = r.limit; carried = r.carried }

-- more junctions, or more reaches, than a network may have
abbrev pub crowded : ℕ → ℕ → Bool
crowded n m = nat_lt most_junctions n || nat_lt most_reaches m
