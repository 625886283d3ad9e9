-- What is looked for among the open steps that begin at a junction.
use Rattle.std.specs.Prelude.{◌≡◌, ℕ, ◌+◌, ◌≤◌, ◌⊎◌, List}
use Rattle.flow.specs.Net.{Arc, Net}
use Rattle.flow.specs.Steps.{begins, finishes}
use Rattle.flow.specs.Labels.{IsAdmissible}
use Rattle.routes.specs.declared.step.StepEnd.TheVariants.{Begin}
use Rattle.routes.specs.Ends.{OpensAt}

-- a step begins at the junction and is admissible
pub record AdmissibleAt (label : ℕ → ℕ) (rs : List Arc) (v s : ℕ) : Type 0 where
  pub there : begins rs s ≡ v
  pub admissible : IsAdmissible label rs s

-- some open step of the junction leads to a label that is the least to which one leads, and c is 1 + that label
pub record OneAbove (rs : List Arc) (label : ℕ → ℕ) (v c : ℕ) : Type 0 where
  pub step : ℕ
  pub opens : OpensAt Begin rs v step
  pub above : c ≡ label (finishes rs step) + 1
  pub least : (s : ℕ) → OpensAt Begin rs v s → c ≤ label (finishes rs s) + 1

-- the junction has no open step, and c is the number of junctions
pub record NoneOpen (g : Net) (v c : ℕ) : Type 0 where
  pub none : (s : ℕ) → ¬ OpensAt Begin g.reaches v s
  pub count : c ≡ g.junctions

-- 1 + the least label over the open steps of the junction, n where there is none
abbrev pub IsRelabel : Net → (ℕ → ℕ) → ℕ → ℕ → Type 0
IsRelabel g label v c = OneAbove g.reaches label v c ⊎ NoneOpen g v c
