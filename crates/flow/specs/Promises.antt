-- What is promised of a network that was commissioned, was dry at first, and has since been treated by settlings, limit
-- changes, draining, tallies, bottlenecks, readings and refused calls alone.
use Rattle.std.specs.Prelude.{◌≡◌, ℕ, ◌-◌, ◌*◌, ◌<◌, ◌≤◌, IsTrue, List, ◌∷◌, ◌++◌, length, All, pos, ◌≤ℤ◌}
use Rattle.flow.specs.Net.{Net}
use Rattle.flow.specs.Flows.{delivered, IsFlow}
use Rattle.flow.specs.Changes.{Alike}
use Rattle.flow.specs.Routes.{IsShortest}
use Rattle.flow.specs.Pushes.{pushed_all}
use Rattle.flow.specs.Cuts.{Side, IsCut, cut_sum, IsBottleneck, IsBest, Agree}
use Rattle.flow.specs.Histories.{Event, Outcome, settling, bottleneck, after_calls, marked, IsHistory, CommissionedDry, Disturbs, StandsFinished, routes_counted, litres_counted}

-- of a network start, of calls that happened on it, and of the network end that they left
pub record Promise (start : Net) (events : List Event) (end : Net) : Type 0 where
  -- what the network carries is a flow within its limits
  pub flow : IsFlow end
  -- it delivers the litres that settlings answered since the last draining, all together, and so never less than 0
  pub adds : delivered end ≡ pos (litres_counted events 0)
  -- a network that stands finished delivers at least as much as every other flow within its limits
  pub most : StandsFinished events → (other : Net) → Alike end other → IsFlow other → delivered other ≤ℤ delivered end
  -- every network has a bottleneck; of one that stands finished it is a cut, its sum is what is delivered, and no cut has
  -- a smaller sum
  pub found : (near : Side) × IsBottleneck end near
  pub cut : StandsFinished events → (near : Side) → IsBottleneck end near → IsCut end near
  pub tight : StandsFinished events → (near : Side) → IsBottleneck end near →
      delivered end ≡ pos (cut_sum near end.reaches)
  pub least : StandsFinished events → (near : Side) → IsBottleneck end near →
      (other : Side) → IsCut end other → cut_sum near end.reaches ≤ cut_sum other end.reaches
  -- and a cut of equal sum has all of the bottleneck's near junctions on its own near side
  pub nearest : StandsFinished events → (near : Side) → IsBottleneck end near →
      (other : Side) → IsCut end other → cut_sum other end.reaches ≡ cut_sum near end.reaches →
      (v : ℕ) → v < end.junctions → IsTrue (near v) → IsTrue (other v)
  -- two networks that stand finished and are alike but for what they carry deliver the same and have one bottleneck
  pub same : StandsFinished events →
      (begun : Net) (calls : List Event) → CommissionedDry begun → IsHistory calls begun → StandsFinished calls →
      Alike end (after_calls calls begun) →
      (near other : Side) → IsBottleneck end near → IsBottleneck (after_calls calls begun) other →
      Agree end (after_calls calls begun) near other
  -- calls in a row with no accepted limit change and no draining among them count at most m × (n − 1) routes
  pub bounded : (before part later : List Event) → events ≡ before ++ (part ++ later) → All (λ e. ¬ Disturbs e) part →
      routes_counted part ≤ length end.reaches * (end.junctions - 1)
  -- whenever a route was pushed, every other route that then existed had at least as many steps
  pub shortest : (before later : List Event) (budget : ℕ) (first : List (List ℕ)) (ss : List ℕ) (more : List (List ℕ))
      (answer : Outcome) → events ≡ before ++ settling budget (first ++ ss ∷ more) answer ∷ later →
      IsShortest (pushed_all first (after_calls before start)) ss
  -- each bottleneck that was answered was the best of the network as it then stood, with the sum that it then delivered
  pub answered : (before later : List Event) (marks : List ℕ) (sum crossing : ℕ) →
      events ≡ before ++ bottleneck marks sum crossing ∷ later →
      IsBest (after_calls before start) (marked marks) × (delivered (after_calls before start) ≡ pos sum)

-- every history of a network that was commissioned and dry keeps the promise
abbrev pub PromiseKept : Type 0
PromiseKept = (start : Net) (events : List Event) → CommissionedDry start → IsHistory events start →
    Promise start events (after_calls events start)
