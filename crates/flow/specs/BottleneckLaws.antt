-- Laws about the bottleneck in numbers.
use Rattle.std.specs.Prelude.{◌≡◌, ℕ, ◌<◌, ◌≤◌, ◌↔◌, IsTrue, IsFalse, List, length, slice_index}
use Rattle.flow.specs.Net.{Net, Shaped}
use Rattle.flow.specs.Routes.{IsRoute}
use Rattle.flow.specs.Cuts.{Side, IsBottleneck}
use Rattle.flow.specs.Histories.{IsMarked}
use Rattle.flow.specs.Bottlenecks.{near_of, has_route, bottleneck_sum, bottleneck_count, marked_over}

pub record BottleneckLaws : Type 0 where
  -- the near side is that of the bottleneck, and the outfall is near exactly where a route exists
  pub near : (g : Net) → Shaped g → IsBottleneck g (near_of g)
  pub route : (g : Net) → Shaped g → IsTrue (has_route g) ↔ ((ss : List ℕ) × IsRoute g ss)
  -- where none exists, marks written over tell the bottleneck with its sum and its number; no mark behind them changes
  pub marked : (g : Net) (marks : List ℕ) → Shaped g → IsFalse (has_route g) → g.junctions ≤ length marks →
      IsMarked g (marked_over g marks) (bottleneck_sum g) (bottleneck_count g)
  pub long : (g : Net) (marks : List ℕ) → g.junctions ≤ length marks → length (marked_over g marks) ≡ length marks
  pub later : (g : Net) (marks : List ℕ) (v : ℕ) → g.junctions ≤ v →
      slice_index (marked_over g marks) v ≡ slice_index marks v
  -- whatever tells the bottleneck of the network agrees with that near side
  pub one : (g : Net) (near : Side) → Shaped g → IsBottleneck g near → (v : ℕ) → v < g.junctions → near v ≡ near_of g v
