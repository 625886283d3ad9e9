-- What changes at a junction.
use Rattle.std.specs.Prelude.{◌≡◌, ℕ, ◌<◌, ◌≤◌, List, Some, None, Option, ⊤}
use Rattle.flow.specs.Bounds.{most_junctions}
use Rattle.flow.specs.Net.{Arc, Net}
use Rattle.flow.specs.Labels.{relabelled}
use Rattle.routes.specs.declared.step.OpenStep.{OpenStep}
use Rattle.routes.specs.Going.{first_step, FirstFrom}
use Rattle.labelling.specs.declared.labelling.Labelling.{Labelling}
use Rattle.labelling.specs.Keeping.{label_of, current_of}
use Rattle.labelling.specs.Scanning.{AdmissibleAt, IsRelabel}

-- a step is now the current one of its junction, or none was found and nothing changed
abbrev pub NowCurrent : Labelling → ℕ → Option OpenStep → Labelling → Type 0
NowCurrent x v (Some s) y = (label_of y ≡ label_of x) × (current_of y ≡ relabelled v s.number (current_of x))
NowCurrent x v None y = y ≡ x

-- the first admissible step of the junction, from its current step on, is now its current step
abbrev pub Advanced : List Arc → Labelling → ℕ → Option OpenStep → Labelling → Type 0
Advanced rs x v r y = FirstFrom (AdmissibleAt (label_of x) rs v) rs (current_of x v) r × NowCurrent x v r y

-- the junction has a higher label, 1 + the least over its open steps, n where there is none; and its steps begin again
pub record Raised (g : Net) (x : Labelling) (v : ℕ) (y : Labelling) : Type 0 where
  pub label : ℕ
  pub relabel : IsRelabel g (label_of x) v label
  pub higher : label_of x v < label
  pub inside : v < most_junctions
  pub labels : label_of y ≡ relabelled v label (label_of x)
  pub again : current_of y ≡ relabelled v first_step (current_of x)

-- or nothing changes, where that label would be no higher, or the junction's label is above every distance
pub record NotRaised (g : Net) (x : Labelling) (v : ℕ) (y : Labelling) : Type 0 where
  pub same : y ≡ x
  pub label : ℕ
  pub relabel : IsRelabel g (label_of x) v label
  pub why : v < most_junctions → label_of x v < most_junctions → label ≤ label_of x v

-- the one or the other, as a relabel answers
abbrev pub Relabelled : Net → Labelling → ℕ → Option Unit → Labelling → Type 0
Relabelled g x v (Some _) y = Raised g x v y
Relabelled g x v None y = NotRaised g x v y

-- what is claimed where a call answers that it did something
abbrev pub OnSomeUnit : Option Unit → Type 0 → Type 0
OnSomeUnit (Some _) P = P
OnSomeUnit None P = ⊤
