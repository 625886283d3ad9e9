use Rattle.std.proofs.Common.{ℕ, ◌<◌}
use Rattle.searches.specs.Waiting.{IsPending}
use Rattle.searches.proofs.dd2.Dd2Search.begin.Given as goal

-- the junctions so far are pending
abbrev pub invariant-loop-v : goal.invariant-loop-v
invariant-loop-v g l = (u : ℕ) → u < l.v → IsPending l.pending u
