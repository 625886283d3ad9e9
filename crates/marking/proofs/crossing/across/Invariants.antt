use Rattle.std.proofs.Common.{◌≡◌, ◌+◌}
use Rattle.flow.specs.Cuts.{cut_sum, crossing_count}
use Rattle.flow.specs.Histories.{marked}
use Rattle.network.specs.Going.{reaches_left}
use Rattle.marking.proofs.crossing.across.Given as goal

-- with the reaches that are left, what was found makes all
abbrev pub invariant-loop-reach : goal.invariant-loop-reach
invariant-loop-reach g l =
    let near = marked l.marks in
    let all = (g.N.Network.meaning l.fn.net).reaches in
    let left = reaches_left g.N.Network.meaning l.reach-iterator in
    record {
      can : (goal.iterator-loop-reach g).can_next l.reach-iterator;
      ends : (goal.iterator-loop-reach g).is_finite l.reach-iterator;
      sum : l.found.sum + cut_sum near left ≡ cut_sum near all;
      count : l.found.crossing + crossing_count near left ≡ crossing_count near all;
    }
