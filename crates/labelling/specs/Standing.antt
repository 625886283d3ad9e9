-- When labels and current steps fit a network.
use Rattle.std.specs.Prelude.{ℕ}
use Rattle.flow.specs.Net.{Net}
use Rattle.flow.specs.Steps.{begins}
use Rattle.flow.specs.Routes.{GoesFirst}
use Rattle.flow.specs.Labels.{Labels, IsAdmissible}

-- labels are labels of the network, and no admissible step goes before the current step of its junction
pub record Fits (g : Net) (label current : ℕ → ℕ) : Type 0 where
  pub labels : Labels g label
  pub passed : (s : ℕ) → IsAdmissible label g.reaches s → ¬ GoesFirst s (current (begins g.reaches s))
