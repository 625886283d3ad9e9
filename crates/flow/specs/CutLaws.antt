-- Laws about cuts and the bottleneck.
use Rattle.std.specs.Prelude.{◌≡◌, ℕ, cond, not, List, pos, ◌-ℤ◌, ◌≤ℤ◌}
use Rattle.flow.specs.Net.{Arc, Net, Shaped}
use Rattle.flow.specs.Flows.{sum_of, delivered, IsFlow}
use Rattle.flow.specs.Changes.{Alike}
use Rattle.flow.specs.Routes.{Finished}
use Rattle.flow.specs.Cuts.{Side, IsCut, crosses, cut_sum, IsBottleneck, IsBest, Agree}

-- what the reaches that cross a cut carry; those that cross it back cross it with its sides exchanged
abbrev pub amount_across : Side → Arc → ℕ
amount_across near r = cond (crosses near r) r.carried 0

abbrev pub carried_across : Side → List Arc → ℕ
carried_across near rs = sum_of (amount_across near) rs

abbrev pub exchanged : Side → Side
exchanged near v = not (near v)

pub record CutLaws : Type 0 where
  -- a flow delivers what crosses a cut minus what crosses it back, and so at most the cut's sum
  pub identity : (g : Net) (near : Side) → Shaped g → IsFlow g → IsCut g near →
      delivered g ≡ pos (carried_across near g.reaches) -ℤ pos (carried_across (exchanged near) g.reaches)
  pub duality : (g : Net) (near : Side) → Shaped g → IsFlow g → IsCut g near →
      delivered g ≤ℤ pos (cut_sum near g.reaches)
  -- every network has a bottleneck; where a network carries a flow and no route exists, it is the best cut
  pub found : (g : Net) → Shaped g → (near : Side) × IsBottleneck g near
  pub best : (g : Net) (near : Side) → Shaped g → IsFlow g → Finished g → IsBottleneck g near → IsBest g near
  -- two such networks that are alike but for what they carry agree
  pub agree : (g h : Net) (near other : Side) → Shaped g → Alike g h → IsFlow g → IsFlow h → Finished g → Finished h →
      IsBottleneck g near → IsBottleneck h other → Agree g h near other
  -- the most that a flow can deliver is the least sum of a cut (Ford and Fulkerson): some flow and some cut attain it
  pub equal : (g : Net) → Shaped g →
      (h : Net) × (near : Side) × Alike g h × IsFlow h × IsCut g near × (delivered h ≡ pos (cut_sum near g.reaches))
