use Rattle.std.proofs.Common.{◌∙◌, ◌<◌, ◌≤◌, length, ap, arith, rules}
use Rattle.flow.proofs.Walks.{ends_in}
use Rattle.marking.proofs.Spreading.{spread_start, spread_near, leaving_room, leaving_more}
use Rattle.marking.proofs.near.near_marks.Goals as goal

pub queue-init : goal.queue-init
queue-init g c =
    let n = g.N.Network.meaning c.args.net.now in
    let shaped = (g.N.Network.sound c.args.net.now).shaped in
    search (rules, spread_start n shaped)

pub bounds-marks-place : goal.bounds-marks-place
bounds-marks-place g c =
    let n = g.N.Network.meaning c.args.net.now in
    let shaped = (g.N.Network.sound c.args.net.now).shaped in
    let i = c.leaving.invariant in
    let first = rw (i.net, i.junction, i.end) at c.in-Some-step.ensures.steps.first in
    let ends = ends_in n.junctions n.reaches c.in-Some-step.step.number shaped.joined first.1.opens in
    omega (arith, c.from-place.ensures, first.0.finish, ends.1, shaped.few)

pub bounds-marks-place-then-marks-place-eq-FAR : goal.bounds-marks-place-then-marks-place-eq-FAR
bounds-marks-place-then-marks-place-eq-FAR g c =
    let n = g.N.Network.meaning c.args.net.now in
    let shaped = (g.N.Network.sound c.args.net.now).shaped in
    let i = c.leaving.invariant in
    let first = rw (i.net, i.junction, i.end) at c.in-Some-step.ensures.steps.first in
    let ends = ends_in n.junctions n.reaches c.in-Some-step.step.number shaped.joined first.1.opens in
    omega (arith, c.from-place.ensures, first.0.finish, ends.1, shaped.few)

pub push-requires-then-marks-place-eq-FAR : goal.push-requires-then-marks-place-eq-FAR
push-requires-then-marks-place-eq-FAR g c =
    let n = g.N.Network.meaning c.args.net.now in
    let shaped = (g.N.Network.sound c.args.net.now).shaped in
    let i = c.leaving.invariant in
    let next = c.in-Some-step.ensures.steps in
    let first = rw (i.net, i.junction, i.end) at next.first in
    let passed = rw (i.net, i.junction, i.end) at next.passed in
    let ends = ends_in n.junctions n.reaches c.in-Some-step.step.number shaped.joined first.1.opens in
    let low : c.from-place.result < 512 = omega (arith, c.from-place.ensures, first.0.finish, ends.1, shaped.few) in
    let few : length c.leaving.queue.items < 512 =
    leaving_room n c.leaving.marks c.leaving.queue.items c.queue.next c.in-Some.at c.leaving.step-iterator.next i.here
    c.next.new.self.next c.in-Some-step.step.number c.from-place.result first.1 (c.from-place.ensures ∙ first.0.finish) passed
    c.if-marks-place-eq-FAR.true low in
    (omega arith, few)

pub leaving-preserved-then-marks-place-eq-FAR : goal.leaving-preserved-then-marks-place-eq-FAR
leaving-preserved-then-marks-place-eq-FAR g c =
    let n = g.N.Network.meaning c.args.net.now in
    let shaped = (g.N.Network.sound c.args.net.now).shaped in
    let i = c.leaving.invariant in
    let next = c.in-Some-step.ensures.steps in
    let first = rw (i.net, i.junction, i.end) at next.first in
    let passed = rw (i.net, i.junction, i.end) at next.passed in
    let ends = ends_in n.junctions n.reaches c.in-Some-step.step.number shaped.joined first.1.opens in
    let low : c.from-place.result < 512 = omega (arith, c.from-place.ensures, first.0.finish, ends.1, shaped.few) in
    record {
      can = tt;
      ends = tt;
      net = ap (λ r. r.now) next.net ∙ i.net;
      junction = next.junction ∙ i.junction;
      end = next.end ∙ i.end;
      here = leaving_more n c.leaving.marks c.leaving.queue.items c.queue.next c.in-Some.at c.leaving.step-iterator.next i.here
          c.next.new.self.next c.in-Some-step.step.number c.from-place.result first.1
          (c.from-place.ensures ∙ first.0.finish) passed c.if-marks-place-eq-FAR.true low _
          (rw c.from-place.ensures c.push-then-marks-place-eq-FAR.ensures.items);
    }

pub returns-clause-near : goal.returns-clause-near
returns-clause-near g c =
    let n = g.N.Network.meaning c.args.net.now in
    let end : length c.queue.queue.items ≤ c.queue.next = search rules in
    spread_near n c.queue.marks c.queue.queue.items c.queue.next c.queue.invariant end
