-- Cuts: the junctions parted into a near side with the intake and a far side with the outfall. The bottleneck.
use Rattle.std.specs.Prelude.{◌≡◌, ℕ, ◌<◌, ◌≤◌, Bool, cond, not, ◌&&◌, ◌↔◌, IsTrue, IsFalse, List, pos, ◌≤ℤ◌}
use Rattle.flow.specs.Net.{Arc, Net}
use Rattle.flow.specs.Flows.{sum_of, delivered, IsFlow}
use Rattle.flow.specs.Changes.{Alike}
use Rattle.flow.specs.Routes.{Reached}

-- a side tells of each junction whether it is near; a cut has the intake near and the outfall far
abbrev pub Side : Type 0
Side = ℕ → Bool

pub record IsCut (g : Net) (near : Side) : Type 0 where
  pub intake_near : IsTrue (near g.intake)
  pub outfall_far : IsFalse (near g.outfall)

-- a reach crosses a cut when it goes from near to far
abbrev pub crosses : Side → Arc → Bool
crosses near r = near r.tail && not (near r.head)

-- the sum of a cut: the limits of the reaches that cross it, added up (its capacity). How many they are
abbrev pub limit_across : Side → Arc → ℕ
limit_across near r = cond (crosses near r) r.limit 0

abbrev pub cut_sum : Side → List Arc → ℕ
cut_sum near rs = sum_of (limit_across near) rs

abbrev pub crossing_count : Side → List Arc → ℕ
crossing_count near rs = sum_of (λ r. cond (crosses near r) 1 0) rs

-- the near side of the bottleneck: the junctions to which open steps lead from the intake
abbrev pub IsBottleneck : Net → Side → Type 0
IsBottleneck g near = (v : ℕ) → v < g.junctions → IsTrue (near v) ↔ Reached g v

-- a side is the best cut of a network: the least, and of the least ones the nearest to the intake
pub record IsBest (g : Net) (near : Side) : Type 0 where
  pub cut : IsCut g near
  -- the network delivers its sum, and no other flow within the limits delivers more
  pub tight : delivered g ≡ pos (cut_sum near g.reaches)
  pub most : (h : Net) → Alike g h → IsFlow h → delivered h ≤ℤ delivered g
  -- no cut has a smaller sum, and a cut of equal sum has all of the near junctions on its own near side
  pub least : (other : Side) → IsCut g other → cut_sum near g.reaches ≤ cut_sum other g.reaches
  pub nearest : (other : Side) → IsCut g other → cut_sum other g.reaches ≡ cut_sum near g.reaches →
      (v : ℕ) → v < g.junctions → IsTrue (near v) → IsTrue (other v)

-- two networks deliver the same, and their bottlenecks agree in near side, sum and number of crossing reaches
pub record Agree (g h : Net) (near other : Side) : Type 0 where
  pub delivers : delivered g ≡ delivered h
  pub sides : (v : ℕ) → v < g.junctions → near v ≡ other v
  pub sums : cut_sum near g.reaches ≡ cut_sum other h.reaches
  pub counts : crossing_count near g.reaches ≡ crossing_count other h.reaches
