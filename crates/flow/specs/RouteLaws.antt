-- Laws about routes, about pushing them, and about the plain machine.
use Rattle.std.specs.Prelude.{◌≡◌, ℕ, ◌-◌, ◌*◌, ◌<◌, ◌≤◌, ◌≢◌, ◌⊎◌, List, length, All, AllPairs, count_by, pos, ◌+ℤ◌, ◌==◌}
use Rattle.std.specs.List.Sorted.{IsNonDecreasingBy}
use Rattle.flow.specs.Net.{Net, Shaped, Sound, arc_at}
use Rattle.flow.specs.Steps.{along_reach}
use Rattle.flow.specs.Flows.{delivered, IsFlow}
use Rattle.flow.specs.Changes.{relimited, drained, Alike}
use Rattle.flow.specs.Routes.{IsRoute, Finished, IsShortest, IsFirst}
use Rattle.flow.specs.Pushes.{least_headroom, pushed, pushed_all, EachPushed, litres_of, Settles}

-- a list of steps goes along no reach twice
abbrev pub NoReachTwice : List ℕ → Type 0
NoReachTwice ss = AllPairs (λ s t. along_reach s ≢ along_reach t) ss

pub record RouteLaws : Type 0 where
  -- there is exactly one first shortest route, or no route at all
  pub one : (g : Net) (ss ts : List ℕ) → IsFirst g ss → IsFirst g ts → ss ≡ ts
  pub found : (g : Net) → Shaped g → ((ss : List ℕ) × IsFirst g ss) ⊎ Finished g
  -- a shortest route goes along no reach twice, and has from 1 to n − 1 steps
  pub once : (g : Net) (ss : List ℕ) → IsShortest g ss → NoReachTwice ss
  pub short : (g : Net) (ss : List ℕ) → Shaped g → IsShortest g ss → (1 ≤ length ss) × (length ss ≤ g.junctions - 1)

-- a network is alike but for what it carries, carries a flow, and delivers d litres more
pub record IsRaised (g h : Net) (d : ℕ) : Type 0 where
  pub alike : Alike g h
  pub flow : IsFlow h
  pub more : delivered h ≡ delivered g +ℤ pos d

pub record PushLaws : Type 0 where
  -- a shortest route pushed adds exactly the least headroom on it, which is above 0; so do routes one after another
  pub push : (g : Net) (ss : List ℕ) → Shaped g → IsFlow g → IsShortest g ss →
      IsRaised g (pushed ss g) (least_headroom g.reaches ss)
  pub above : (g : Net) (ss : List ℕ) → Shaped g → IsRoute g ss → 0 < least_headroom g.reaches ss
  pub run : (g : Net) (routes : List (List ℕ)) → Shaped g → IsFlow g → EachPushed IsShortest g routes →
      IsRaised g (pushed_all routes g) (litres_of g routes)
  -- and keeps every network sound, whether or not what it carries is balanced
  pub sound : (g : Net) (ss : List ℕ) → Sound g → IsShortest g ss → Sound (pushed ss g)
  -- a drained network carries a flow; so does one with a flow whose limit is set to no less than is carried
  pub drain : (g : Net) → IsFlow (drained g)
  pub limit : (g : Net) (k q : ℕ) → IsFlow g → (arc_at g.reaches k).carried ≤ q → IsFlow (relimited k q g)

-- of routes pushed one after another, each a shortest one when it is pushed: their lengths never fall, at most as many
-- share a length as there are reaches, lengths lie from 1 to n − 1, and there are at most m × (n − 1) routes
pub record IsBounded (g : Net) (routes : List (List ℕ)) : Type 0 where
  pub rising : IsNonDecreasingBy length routes
  pub sharing : (l : ℕ) → count_by (λ ss. length ss == l) routes ≤ length g.reaches
  pub short : All (λ ss. (1 ≤ length ss) × (length ss ≤ g.junctions - 1)) routes
  pub total : length routes ≤ length g.reaches * (g.junctions - 1)

abbrev pub RunsBounded : Type 0
RunsBounded = (g : Net) (routes : List (List ℕ)) → Shaped g → EachPushed IsShortest g routes → IsBounded g routes

pub record MachineLaws : Type 0 where
  -- with each budget the plain machine pushes exactly one list of routes
  pub one : (g : Net) (budget : ℕ) (routes others : List (List ℕ)) →
      Settles g budget routes → Settles g budget others → routes ≡ others
  pub found : (g : Net) (budget : ℕ) → Shaped g → (routes : List (List ℕ)) × Settles g budget routes
  -- a budget of m × (n − 1) is always enough
  pub enough : (g : Net) (budget : ℕ) (routes : List (List ℕ)) → Shaped g → Settles g budget routes →
      length g.reaches * (g.junctions - 1) ≤ budget → Finished (pushed_all routes g)
