use Rattle.std.proofs.Common.{◌≡◌, ℕ, ◌<◌, ◌≤◌}
use Rattle.labelling.specs.Keeping.{label_of, current_of, rise_left}
use Rattle.labelling.specs.Gaps.{raised_above}
use Rattle.labelling.proofs.labelling.Labelling.close_gap.Given as goal

-- the labels before v are raised where they are above the gap, and those from v on are as they were
abbrev pub invariant-loop-v : goal.invariant-loop-v
invariant-loop-v g l =
    let was = l.fn.self in
    record {
      done : (u : ℕ) → u < l.v → label_of l.self u ≡ raised_above l.n l.gap (label_of was) u;
      rest : (u : ℕ) → l.v ≤ u → label_of l.self u ≡ label_of was u;
      current : current_of l.self ≡ current_of was;
      rises : rise_left l.self ≤ rise_left was;
    }
