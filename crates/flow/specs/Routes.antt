-- Routes: ways from the intake to the outfall along open steps (augmenting paths). Which of them is pushed first.
use Rattle.std.specs.Prelude.{◌≡◌, ℕ, ◌<◌, ◌≤◌, ◌⊎◌, List, [], ◌∷◌, length, ⊤}
use Rattle.flow.specs.Net.{Arc, Net}
use Rattle.flow.specs.Steps.{begins, finishes, IsOpen}

-- open steps that lead from one junction to another, each beginning where the one before finished
abbrev pub IsWalk : List Arc → ℕ → List ℕ → ℕ → Type 0
IsWalk rs from [] to = from ≡ to
IsWalk rs from (s ∷ ss) to = (begins rs s ≡ from) × IsOpen rs s × IsWalk rs (finishes rs s) ss to

abbrev pub IsRoute : Net → List ℕ → Type 0
IsRoute g ss = IsWalk g.reaches g.intake ss g.outfall

-- no route exists
abbrev pub Finished : Net → Type 0
Finished g = (ss : List ℕ) → ¬ IsRoute g ss

-- open steps lead from the intake to the junction
abbrev pub Reached : Net → ℕ → Type 0
Reached g v = (ss : List ℕ) × IsWalk g.reaches g.intake ss v

-- no route has fewer steps
pub record IsShortest (g : Net) (ss : List ℕ) : Type 0 where
  pub route : IsRoute g ss
  pub least : (others : List ℕ) → IsRoute g others → length ss ≤ length others

-- Which of two steps goes first. This alone says in which order routes of one length are pushed.
abbrev pub GoesFirst : ℕ → ℕ → Type 0
GoesFirst s t = s < t

-- of two lists of steps of one length: at the first place where they differ the step of the first list goes first, or they
-- are the same
abbrev pub IsNoLater : List ℕ → List ℕ → Type 0
IsNoLater [] ts = ⊤
IsNoLater (s ∷ ss) [] = ⊥
IsNoLater (s ∷ ss) (t ∷ ts) = GoesFirst s t ⊎ ((s ≡ t) × IsNoLater ss ts)

-- the first shortest route
pub record IsFirst (g : Net) (ss : List ℕ) : Type 0 where
  pub shortest : IsShortest g ss
  pub first : (others : List ℕ) → IsShortest g others → IsNoLater ss others
