-- What the search DD2 keeps between questions, and how much work mending has left.
use Rattle.std.specs.Prelude.{ℕ, ◌+◌, ◌*◌, ◌<◌, ◌≡◌, ◌≢◌, ◌⊎◌, Some, None, Option}
use Rattle.flow.specs.Bounds.{most_junctions}
use Rattle.flow.specs.Net.{Net}
use Rattle.labelling.specs.Keeping.{label_of, current_of, rise_left}
use Rattle.labelling.specs.Scanning.{AdmissibleAt}
use Rattle.labelling.specs.Standing.{Fits}
use Rattle.searches.specs.declared.dd2.BegunDd2.{BegunDd2}
use Rattle.searches.specs.Waiting.{IsPending, pending_count}

-- the current step of a junction is admissible; of each whose label says that the outfall is reached, but the outfall, and
-- but those that are left out
pub record KeepsSteps (g : Net) (label current : ℕ → ℕ) (Out : ℕ → Type 0) : Type 0 where
  pub has : (v : ℕ) → v < g.junctions → v ≢ g.outfall → label v < g.junctions → ¬ Out v →
      AdmissibleAt label g.reaches v (current v)

-- labels and current steps fit the network, and each junction keeps its first admissible step, but for those left out
pub record FitsBut (g : Net) (x : BegunDd2) (Out : ℕ → Type 0) : Type 0 where
  pub fits : Fits g (label_of x.kept) (current_of x.kept)
  pub steps : KeepsSteps g (label_of x.kept) (current_of x.kept) Out

-- the pending junctions alone are left out
abbrev pub InStep : BegunDd2 → Net → Type 0
InStep x g = FitsBut g x (IsPending x.pending)

-- and so is one junction more
abbrev pub InStepBut : Net → BegunDd2 → ℕ → Type 0
InStepBut g x v = FitsBut g x (λ u. IsPending x.pending u ⊎ (u ≡ v))

-- once a junction is mended it is left out no longer; mending gives up out of step only
abbrev pub Mends : Net → BegunDd2 → ℕ → Option Unit → BegunDd2 → Type 0
Mends g x v (Some _) y = InStepBut g x v → InStep y g
Mends g x v None y = ¬ InStepBut g x v

-- all that is pending is mended
abbrev pub Mended : Net → BegunDd2 → Option Unit → BegunDd2 → Type 0
Mended g x (Some _) y = (InStep x g → InStep y g) × ((v : ℕ) → ¬ IsPending y.pending v)
Mended g x None y = ¬ InStep x g

-- how far labels can still rise, and how many junctions are pending: each rise may make all junctions pending anew
abbrev pub work_left : BegunDd2 → ℕ
work_left x = (most_junctions + 1) * rise_left x.kept + pending_count x.pending
