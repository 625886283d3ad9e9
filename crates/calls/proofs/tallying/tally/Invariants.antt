use Rattle.std.proofs.Common.{◌≡◌, ◌-◌, ◌*◌, ◌≤◌, pos, ◌-ℤ◌}
use Rattle.flow.specs.Bounds.{highest_limit, most_reaches}
use Rattle.flow.specs.Flows.{leaving, entering}
use Rattle.network.specs.Going.{reaches_left}
use Rattle.calls.proofs.tallying.tally.Given as goal

-- the sum is what leaves and what enters along the reaches so far: along all, but for those that are left
abbrev pub invariant-loop-reach : goal.invariant-loop-reach
invariant-loop-reach g l =
    let was = g.N.Network.meaning l.fn.net in
    let left = reaches_left g.N.Network.meaning l.reach-iterator in
    let out = leaving was.intake was.reaches in
    let back = entering was.intake was.reaches in
    (goal.iterator-loop-reach g).can_next l.reach-iterator
    × (goal.iterator-loop-reach g).is_finite l.reach-iterator
    × (l.size.intake ≡ was.intake)
    × (out ≤ highest_limit * most_reaches)
    × (back ≤ highest_limit * most_reaches)
    × (leaving was.intake left ≤ out)
    × (entering was.intake left ≤ back)
    × (l.sum ≡ pos (out - leaving was.intake left) -ℤ pos (back - entering was.intake left))
