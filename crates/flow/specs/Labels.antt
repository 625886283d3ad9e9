-- Labels: numbers at junctions that bound from below how many open steps lead from there to the outfall.
use Rattle.std.specs.Prelude.{◌≡◌, ℕ, ◌+◌, ◌<◌, ◌≤◌, ◌≢◌, cond, List, ◌==◌}
use Rattle.flow.specs.Net.{Arc, Net}
use Rattle.flow.specs.Steps.{begins, finishes, IsOpen}
use Rattle.flow.specs.Routes.{GoesFirst}

-- 0 at the outfall, and nowhere more than 1 above the label at the far end of an open step
pub record Labels (g : Net) (label : ℕ → ℕ) : Type 0 where
  pub outfall : label g.outfall ≡ 0
  pub falls : (s : ℕ) → IsOpen g.reaches s → label (begins g.reaches s) ≤ label (finishes g.reaches s) + 1

-- a step is admissible when it is open and the label falls by exactly 1 along it
pub record IsAdmissible (label : ℕ → ℕ) (rs : List Arc) (s : ℕ) : Type 0 where
  pub opens : IsOpen rs s
  pub falls : label (begins rs s) ≡ label (finishes rs s) + 1

-- and no admissible step from the same junction goes before it
pub record IsFirstAdmissible (label : ℕ → ℕ) (rs : List Arc) (s : ℕ) : Type 0 where
  pub admissible : IsAdmissible label rs s
  pub first : (t : ℕ) → begins rs t ≡ begins rs s → IsAdmissible label rs t → ¬ GoesFirst t s

-- the labels with another at one junction
abbrev pub relabelled : ℕ → ℕ → (ℕ → ℕ) → ℕ → ℕ
relabelled v c label u = cond (u == v) c (label u)

-- exact labels: each junction with a label below n, but the outfall, has an admissible step. What labels of n and more say
-- is free
pub record ExactLabels (g : Net) (label : ℕ → ℕ) : Type 0 where
  pub labels : Labels g label
  pub next : (v : ℕ) → v < g.junctions → v ≢ g.outfall → label v < g.junctions →
      (s : ℕ) × (begins g.reaches s ≡ v) × IsAdmissible label g.reaches s
