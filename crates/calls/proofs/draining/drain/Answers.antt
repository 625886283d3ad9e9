use Rattle.std.proofs.Common.{rules}
use Rattle.calls.proofs.Drying.{dried_more}
use Rattle.calls.proofs.draining.drain.Goals as goal

pub loop-k-preserved : goal.loop-k-preserved
loop-k-preserved g c = search (rules, dried_more)
