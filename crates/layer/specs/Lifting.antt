-- How a layer shows the reaches of the network below.
use Rattle.std.specs.Prelude.{◌≡◌, ℕ, ◌<◌, List, length, slice_set}
use Rattle.refusal.specs.declared.Part.{Part}
use Rattle.refusal.specs.Checks.{first_of}
use Rattle.flow.specs.Net.{Arc, arc_at}
use Rattle.network.specs.declared.change.Change.{Change}
use Rattle.network.specs.Changing.{changed, own_checks}

-- f lifts a reach of the network below to one of the layer, and `lift` a list of them; limit and carried amount stay
pub record Lifts (f : Arc → Arc) (lift : List Arc → List Arc) : Type 0 where
  pub long : (rs : List Arc) → length (lift rs) ≡ length rs
  pub there : (rs : List Arc) (k : ℕ) → k < length rs → arc_at (lift rs) k ≡ f (arc_at rs k)
  pub put : (rs : List Arc) (k : ℕ) (r : Arc) → lift (slice_set rs k r) ≡ slice_set (lift rs) k (f r)
  pub checks : (c : Change) (r : Arc) (p : Part) → first_of (own_checks c (f r) p) ≡ first_of (own_checks c r p)
  pub commutes : (c : Change) (r : Arc) → f (changed c r) ≡ changed c (f r)
