use Rattle.std.proofs.Common.{ap, arith}
use Rattle.flow.specs.Cuts.{cut_sum}
use Rattle.flow.specs.Histories.{marked}
use Rattle.marking.proofs.Counting.{cut_sum_le, crossing_count_le}
use Rattle.marking.proofs.crossing.across.Goals as goal

-- no sum leaves its type: what was found, with the reach at hand and those behind it, makes all
pub overflow_add-found : goal.overflow_add-found
overflow_add-found g c =
    let n = g.N.Network.meaning c.args.net.now in
    let near = marked c.args.marks.now in
    let left = ap (cut_sum near) c.in-Some.ensures.steps in
    let crossing = c.crosses.ensures in
    omega (
      arith,
      c.loop-reach.invariant.sum,
      cut_sum_le n near (g.N.Network.sound c.args.net.now).shaped,
      c.from.ensures,
      c.in-Some.reach.bounded,
    )

pub overflow_add-found-then-crosses : goal.overflow_add-found-then-crosses
overflow_add-found-then-crosses g c =
    let n = g.N.Network.meaning c.args.net.now in
    let near = marked c.args.marks.now in
    omega (arith, c.loop-reach.invariant.count, crossing_count_le n near (g.N.Network.sound c.args.net.now).shaped)
