-- The steps that a route holds.
use Rattle.std.specs.Prelude.{◌≡◌, ℕ, ◌<◌, ◌≤◌, List, [], ◌∷◌, ◌++◌, length, Some, None, Option}
use Rattle.routes.specs.declared.route.Route.{Route}

-- the most steps that a route has room for
abbrev pub most_steps : ℕ
most_steps = 512

abbrev pub steps_of : Route → List ℕ
steps_of r = r.steps.items

-- a step is put behind the others, where there is room
abbrev pub Pushed : List ℕ → ℕ → Option Unit → List ℕ → Type 0
Pushed ss s (Some _) after = (length ss < most_steps) × (after ≡ ss ++ s ∷ [])
Pushed ss s None after = (most_steps ≤ length ss) × (after ≡ ss)

-- the last step is taken away, where there is one
abbrev pub Popped : List ℕ → Option ℕ → List ℕ → Type 0
Popped ss (Some s) after = ss ≡ after ++ s ∷ []
Popped ss None after = (ss ≡ []) × (after ≡ [])
