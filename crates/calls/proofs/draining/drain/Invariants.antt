use Rattle.std.proofs.Common.{◌≡◌, ℕ}
use Rattle.calls.proofs.Drying.{dried_to}
use Rattle.calls.proofs.draining.drain.Given as goal

-- the reaches below k are dry, and the others as they were
abbrev pub invariant-loop-k : goal.invariant-loop-k
invariant-loop-k g l = record {
  done : g.N.Network.meaning l.net ≡ dried_to l.k (g.N.Network.meaning l.initial.net);
  giver : (j : ℕ) → g.N.Network.giver l.net j ≡ g.N.Network.giver l.initial.net j;
}
