-- Pushing routes, and the plain machine, which pushes first shortest routes until there is none or its budget is spent.
use Rattle.std.specs.Prelude.{◌≡◌, ℕ, ◌+◌, ◌-◌, ◌≤◌, ◌⊎◌, min, Bool, cond, List, [], ◌∷◌, length, slice_set, ⊤}
use Rattle.flow.specs.Net.{Arc, Net}
use Rattle.flow.specs.Steps.{along_reach, goes_back, arc_of, headroom}
use Rattle.flow.specs.Changes.{carrying, with_reaches}
use Rattle.flow.specs.Routes.{Finished, IsFirst}

-- the least headroom on a list of steps; where there is no step, 0
abbrev pub least_headroom : List Arc → List ℕ → ℕ
least_headroom rs [] = 0
least_headroom rs (s ∷ []) = headroom rs s
least_headroom rs (s ∷ (t ∷ ts)) = min (headroom rs s) (least_headroom rs (t ∷ ts))

-- what a reach carries when d litres more go along it: d less where they go back, d more where they go forth
abbrev pub amount_after : ℕ → Bool → Arc → ℕ
amount_after d back r = cond back (r.carried - d) (r.carried + d)

-- the reaches when d litres more go along one step, and along each step of a list
abbrev pub shifted : ℕ → List Arc → ℕ → List Arc
shifted d rs s = slice_set rs (along_reach s) (carrying (amount_after d (goes_back s) (arc_of rs s)) (arc_of rs s))

abbrev pub shifted_along : ℕ → List Arc → List ℕ → List Arc
shifted_along d rs [] = rs
shifted_along d rs (s ∷ ss) = shifted_along d (shifted d rs s) ss

-- a route is pushed: the least headroom on it more along each of its steps
abbrev pub pushed : List ℕ → Net → Net
pushed ss g = with_reaches g (shifted_along (least_headroom g.reaches ss) g.reaches ss)

-- routes are pushed one after another
abbrev pub pushed_all : List (List ℕ) → Net → Net
pushed_all [] g = g
pushed_all (ss ∷ more) g = pushed_all more (pushed ss g)

-- each of them has the property P in the network in which it is pushed
abbrev pub EachPushed : (Net → List ℕ → Type 0) → Net → List (List ℕ) → Type 0
EachPushed P g [] = ⊤
EachPushed P g (ss ∷ more) = P g ss × EachPushed P (pushed ss g) more

-- the litres that pushing them adds
abbrev pub litres_of : Net → List (List ℕ) → ℕ
litres_of g [] = 0
litres_of g (ss ∷ more) = least_headroom g.reaches ss + litres_of (pushed ss g) more

-- the routes that the plain machine pushes with a budget: each the first shortest when it is pushed, until no route
-- exists or as many were pushed as the budget allows
pub record Settles (g : Net) (budget : ℕ) (routes : List (List ℕ)) : Type 0 where
  pub firsts : EachPushed IsFirst g routes
  pub spent : length routes ≤ budget
  pub stops : Finished (pushed_all routes g) ⊎ (length routes ≡ budget)
