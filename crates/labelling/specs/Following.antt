-- What following first admissible steps finds, and what it leaves.
use Rattle.std.specs.Prelude.{◌≡◌, ℕ, ◌⊎◌, List, Some, None, Option}
use Rattle.std.specs.List.{All}
use Rattle.flow.specs.Net.{Arc, Net}
use Rattle.flow.specs.Routes.{Finished, IsFirst}
use Rattle.flow.specs.Labels.{IsAdmissible}
use Rattle.routes.specs.declared.route.Route.{Route}
use Rattle.routes.specs.Routing.{steps_of}
use Rattle.labelling.specs.declared.labelling.Labelling.{Labelling}
use Rattle.labelling.specs.Keeping.{label_of, current_of}
use Rattle.labelling.specs.Scanning.{AdmissibleAt}

-- each junction has the label that it had, and as current step the one that it had or an admissible one
pub record OnlyAdvanced (rs : List Arc) (x y : Labelling) : Type 0 where
  pub labels : label_of y ≡ label_of x
  pub current : (v : ℕ) → (current_of y v ≡ current_of x v) ⊎ AdmissibleAt (label_of x) rs v (current_of y v)

-- the first shortest route, along admissible steps; or that there is none
abbrev pub Found : Net → (ℕ → ℕ) → Option Route → Type 0
Found g label (Some r) = IsFirst g (steps_of r) × All (IsAdmissible label g.reaches) (steps_of r)
Found g label None = Finished g
