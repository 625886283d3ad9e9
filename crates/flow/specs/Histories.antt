-- What calls do to a network, one after another, and what they answer.
use Rattle.std.specs.Prelude.{◌≡◌, ℕ, ◌+◌, ◌<◌, ◌≤◌, Bool, cond, IsTrue, ◌↔◌, List, [], ◌∷◌, ◌++◌, map, length, All, ℤ, slice_index, ◌==◌, ⊤}
use Rattle.std.specs.List.{range_with_len}
use Rattle.flow.specs.Bounds.{highest_setting}
use Rattle.flow.specs.Net.{Net, Shaped, arc_at}
use Rattle.flow.specs.Flows.{delivered}
use Rattle.flow.specs.Changes.{relimited, drained}
use Rattle.flow.specs.Routes.{Finished}
use Rattle.flow.specs.Pushes.{pushed_all, litres_of, Settles}
use Rattle.flow.specs.Cuts.{Side, cut_sum, crossing_count, IsBottleneck}

-- what a settling answers: how many routes it pushed, the litres that they added, and whether none is left
pub record Outcome : Type 0 where
  pub routes : ℕ
  pub litres : ℕ
  pub finished : Bool

-- A call on a network, with what was handed in and what was answered. Of a reading and of a refused call nothing more is
-- said: they change nothing.
pub data Event : Type 0 where
  -- a settling with a budget: the routes that it pushed, in their order, and its answer
  settling : (budget : ℕ) (routes : List (List ℕ)) (answer : Outcome) → Event
  -- reach k was given the limit q
  limit_change : (k q : ℕ) → Event
  draining : Event
  tally : (answer : ℤ) → Event
  -- the bottleneck: the marks of the junctions, its sum, and how many reaches cross it
  bottleneck : (marks : List ℕ) (sum crossing : ℕ) → Event
  -- size, a reach or a touch was asked for
  reading : Event
  -- some call was refused
  refusal : Event

-- the network after a call, and after calls one after another
abbrev pub after_call : Event → Net → Net
after_call (settling budget routes answer) g = pushed_all routes g
after_call (limit_change k q) g = relimited k q g
after_call draining g = drained g
after_call e g = g

abbrev pub after_calls : List Event → Net → Net
after_calls [] g = g
after_calls (e ∷ es) g = after_calls es (after_call e g)

-- a settling pushes the routes of the plain machine, counts them and their litres, and says truly whether one is left
pub record IsSettling (g : Net) (budget : ℕ) (routes : List (List ℕ)) (answer : Outcome) : Type 0 where
  pub settles : Settles g budget routes
  pub counts : answer.routes ≡ length routes
  pub adds : answer.litres ≡ litres_of g routes
  pub tells : IsTrue answer.finished ↔ Finished (pushed_all routes g)

-- a junction marked 1 is near
abbrev pub marked : List ℕ → Side
marked marks v = slice_index marks v == 1

-- the marks of the junctions 0 to n − 1, in their order: 1 where the junction is near, 0 where it is far
abbrev pub mark : Bool → ℕ
mark near = cond near 1 0

abbrev pub marks_of : Side → ℕ → List ℕ
marks_of near n = map (λ v. mark (near v)) (range_with_len 0 n)

-- a bottleneck is answered where no route exists: the first n marks are 1 for its near junctions and 0 for the others,
-- and its sum and the number of crossing reaches are told
pub record IsMarked (g : Net) (marks : List ℕ) (sum crossing : ℕ) : Type 0 where
  pub finished : Finished g
  pub long : g.junctions ≤ length marks
  pub bits : (v : ℕ) → v < g.junctions → slice_index marks v ≤ 1
  pub near : IsBottleneck g (marked marks)
  pub sums : sum ≡ cut_sum (marked marks) g.reaches
  pub counts : crossing ≡ crossing_count (marked marks) g.reaches

-- the call, made on a network, does and answers what the event says
abbrev pub Happens : Event → Net → Type 0
Happens (settling budget routes answer) g = IsSettling g budget routes answer
Happens (limit_change k q) g = (k < length g.reaches) × (q ≤ highest_setting) × ((arc_at g.reaches k).carried ≤ q)
Happens (tally answer) g = answer ≡ delivered g
Happens (bottleneck marks sum crossing) g = IsMarked g marks sum crossing
Happens e g = ⊤

-- the calls happen one after another, the first of them on the network
abbrev pub IsHistory : List Event → Net → Type 0
IsHistory [] g = ⊤
IsHistory (e ∷ es) g = Happens e g × IsHistory es (after_call e g)

-- a network that was commissioned and is dry: its shape is sound, and it carries nothing
pub record CommissionedDry (g : Net) : Type 0 where
  pub shaped : Shaped g
  pub dry : All (λ r. r.carried ≡ 0) g.reaches

-- an accepted limit change or a draining, even one that sets what stood
abbrev pub Disturbs : Event → Type 0
Disturbs (limit_change k q) = ⊤
Disturbs draining = ⊤
Disturbs e = ⊥

-- a tally, a bottleneck, a reading or a refused call
abbrev pub IsIdle : Event → Type 0
IsIdle (settling budget routes answer) = ⊥
IsIdle (limit_change k q) = ⊥
IsIdle draining = ⊥
IsIdle e = ⊤

-- after these calls a network stands finished: a settling answered that no route is left, and idle calls alone followed
pub record StandsFinished (events : List Event) : Type 0 where
  pub before : List Event
  pub budget : ℕ
  pub routes : List (List ℕ)
  pub answer : Outcome
  pub later : List Event
  pub are : events ≡ before ++ settling budget routes answer ∷ later
  pub finished : IsTrue answer.finished
  pub idle : All IsIdle later

-- the routes that calls count: what their settlings answered, added up
abbrev pub routes_of : Event → ℕ
routes_of (settling budget routes answer) = answer.routes
routes_of e = 0

abbrev pub routes_counted : List Event → ℕ
routes_counted [] = 0
routes_counted (e ∷ es) = routes_of e + routes_counted es

-- the litres that a network delivers after a call where it delivered a before: a settling adds those that it answered, a
-- draining leaves none
abbrev pub litres_after : Event → ℕ → ℕ
litres_after (settling budget routes answer) a = a + answer.litres
litres_after draining a = 0
litres_after e a = a

abbrev pub litres_counted : List Event → ℕ → ℕ
litres_counted [] a = a
litres_counted (e ∷ es) a = litres_counted es (litres_after e a)
