-- Laws about labels: what a search by labels rests on.
use Rattle.std.specs.Prelude.{◌≡◌, ℕ, ◌+◌, ◌<◌, ◌≤◌, ◌≢◌, List, length, All}
use Rattle.flow.specs.Net.{Net, Shaped}
use Rattle.flow.specs.Steps.{begins, finishes, IsOpen}
use Rattle.flow.specs.Routes.{IsWalk, IsRoute, Finished, IsShortest, IsFirst}
use Rattle.flow.specs.Pushes.{pushed}
use Rattle.flow.specs.Labels.{Labels, IsAdmissible, IsFirstAdmissible, relabelled, ExactLabels}

pub record LabelLaws : Type 0 where
  -- along a walk labels fall by no more than it has steps; from a junction labelled n or more no walk leads to the outfall
  pub bound : (g : Net) (label : ℕ → ℕ) (from : ℕ) (ss : List ℕ) (to : ℕ) →
      Labels g label → IsWalk g.reaches from ss to → label from ≤ label to + length ss
  pub high : (g : Net) (label : ℕ → ℕ) (v : ℕ) → Shaped g → Labels g label → v < g.junctions → g.junctions ≤ label v →
      (ss : List ℕ) → ¬ IsWalk g.reaches v ss g.outfall
  -- so a label of n or more at the intake says that there is no route
  pub none : (g : Net) (label : ℕ → ℕ) → Shaped g → Labels g label → g.junctions ≤ label g.intake → Finished g
  -- the route that takes the first admissible step of each junction is the first shortest
  pub first : (g : Net) (label : ℕ → ℕ) (ss : List ℕ) →
      Labels g label → IsRoute g ss → All (IsFirstAdmissible label g.reaches) ss → IsFirst g ss
  -- after a route of admissible steps is pushed, labels are labels still, and no step has become admissible that was not
  pub pushing : (g : Net) (label : ℕ → ℕ) (ss : List ℕ) →
      Labels g label → IsRoute g ss → All (IsAdmissible label g.reaches) ss → Labels (pushed ss g) label
  pub still : (g : Net) (label : ℕ → ℕ) (ss : List ℕ) →
      Labels g label → IsRoute g ss → All (IsAdmissible label g.reaches) ss →
      (s : ℕ) → ¬ IsAdmissible label g.reaches s → ¬ IsAdmissible label (pushed ss g).reaches s
  -- and a step that was admissible, and is none of the route's, is so still
  pub others : (g : Net) (label : ℕ → ℕ) (ss : List ℕ) → IsRoute g ss → All (IsAdmissible label g.reaches) ss →
      (s : ℕ) → All (λ t. t ≢ s) ss → IsAdmissible label g.reaches s → IsAdmissible label (pushed ss g).reaches s
  -- labels are labels still when a junction's label is raised, to at most 1 + the least label at the far ends of its
  -- open steps; but steps that begin there may have become admissible
  pub relabelling : (g : Net) (label : ℕ → ℕ) (v c : ℕ) → Shaped g → Labels g label → v ≢ g.outfall → label v ≤ c →
      ((s : ℕ) → IsOpen g.reaches s → begins g.reaches s ≡ v → c ≤ label (finishes g.reaches s) + 1) →
      Labels g (relabelled v c label)
  pub elsewhere : (g : Net) (label : ℕ → ℕ) (v c : ℕ) → Labels g label → label v ≤ c → (s : ℕ) → begins g.reaches s ≢ v →
      ¬ IsAdmissible label g.reaches s → ¬ IsAdmissible (relabelled v c label) g.reaches s
  -- there are exact labels, none above n; of exact labels, those below n are lengths of walks to the outfall
  pub found : (g : Net) → Shaped g → (label : ℕ → ℕ) × ExactLabels g label × ((v : ℕ) → label v ≤ g.junctions)
  pub exact : (g : Net) (label : ℕ → ℕ) (v : ℕ) → Shaped g → ExactLabels g label →
      v < g.junctions → label v < g.junctions → (ss : List ℕ) × IsWalk g.reaches v ss g.outfall × (length ss ≡ label v)
  -- and for each shortest route there are labels that fall by 1 at each of its steps
  pub tight : (g : Net) (ss : List ℕ) → IsShortest g ss →
      (label : ℕ → ℕ) × Labels g label × All (IsAdmissible label g.reaches) ss
