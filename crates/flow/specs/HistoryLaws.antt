-- Laws about what settlings and bottlenecks answer, and about histories.
use Rattle.std.specs.Prelude.{◌≡◌, ℕ, ◌<◌, List, [], ◌∷◌, ◌++◌, slice_index}
use Rattle.flow.specs.Net.{Net, Shaped}
use Rattle.flow.specs.Routes.{Finished}
use Rattle.flow.specs.Histories.{Outcome, Event, after_call, after_calls, IsSettling, IsMarked, Happens, IsHistory}

pub record HistoryLaws : Type 0 where
  -- a settling with a budget has exactly one answer: the routes, their number, the litres, and whether one is left
  pub settling : (g : Net) (budget : ℕ) (routes others : List (List ℕ)) (answer another : Outcome) →
      IsSettling g budget routes answer → IsSettling g budget others another → (routes ≡ others) × (answer ≡ another)
  pub settled : (g : Net) (budget : ℕ) → Shaped g →
      (routes : List (List ℕ)) × (answer : Outcome) × IsSettling g budget routes answer
  -- where no route exists, the bottleneck has exactly one: the marks of the n junctions, the sum, the number
  pub marking : (g : Net) (marks others : List ℕ) (sum another crossing other : ℕ) → Shaped g →
      IsMarked g marks sum crossing → IsMarked g others another other →
      ((v : ℕ) → v < g.junctions → slice_index marks v ≡ slice_index others v) × (sum ≡ another) × (crossing ≡ other)
  pub marked : (g : Net) → Shaped g → Finished g →
      (marks : List ℕ) × (sum : ℕ) × (crossing : ℕ) × IsMarked g marks sum crossing
  -- a history goes on with each call that happens on the network that it has left
  pub more : (start : Net) (events : List Event) (e : Event) →
      IsHistory events start → Happens e (after_calls events start) → IsHistory (events ++ e ∷ []) start
  pub then : (start : Net) (events : List Event) (e : Event) →
      after_calls (events ++ e ∷ []) start ≡ after_call e (after_calls events start)
