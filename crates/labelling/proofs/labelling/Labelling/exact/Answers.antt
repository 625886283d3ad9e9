use Rattle.std.proofs.Common.{◌∙◌, ℕ, ◌<◌, ◌≤◌, length, sym, ap, subst, arith, rules, length-set}
use Rattle.std.specs.Prelude.{slice_index}
use Rattle.flow.specs.Labels.{ExactLabels}
use Rattle.flow.proofs.Walks.{ends_in}
use Rattle.network.specs.declared.size.Size.{Size}
use Rattle.labelling.proofs.Sets.{relabelled_from_set}
use Rattle.labelling.proofs.Spreading.{spread_exact, short, entering_known, entering_room, entering_more}
use Rattle.labelling.proofs.labelling.Labelling.exact.Goals as goal

pub bounds-labels-place : goal.bounds-labels-place
bounds-labels-place g c =
    let n = g.N.Network.meaning c.args.net.now in
    let shaped = (g.N.Network.sound c.args.net.now).shaped in
    let i = c.entering.invariant in
    let first = rw (i.net, i.junction, i.end) at c.in-Some-step.ensures.steps.first in
    let ends = ends_in n.junctions n.reaches c.in-Some-step.step.number shaped.joined first.1.opens in
    omega (arith, c.from-place.ensures, first.0.begin, ends.0, shaped.few)

pub push-requires-then-labels-place : goal.push-requires-then-labels-place
push-requires-then-labels-place g c =
    let n = g.N.Network.meaning c.args.net.now in
    let shaped = (g.N.Network.sound c.args.net.now).shaped in
    let i = c.entering.invariant in
    let next = c.in-Some-step.ensures.steps in
    let first = rw (i.net, i.junction, i.end) at next.first in
    let passed = rw (i.net, i.junction, i.end) at next.passed in
    let blank = c.if-labels-place.true ∙ ap (λ (s : Size). s.junctions) c.size-size.ensures in
    let room = entering_room n shaped (slice_index c.entering.labels) c.entering.queue.items c.queue.next c.in-Some.at _
    c.entering.step-iterator.next i.here c.next.new.self.next c.in-Some-step.step.number c.from-place.result first.1
    (c.from-place.ensures ∙ first.0.begin) passed blank in
    let few : length c.entering.queue.items < 512 = omega (arith, shaped.few, room) in
    (omega arith, few)

pub entering-preserved-then-labels-place : goal.entering-preserved-then-labels-place
entering-preserved-then-labels-place g c =
    let n = g.N.Network.meaning c.args.net.now in
    let shaped = (g.N.Network.sound c.args.net.now).shaped in
    let i = c.entering.invariant in
    let next = c.in-Some-step.ensures.steps in
    let first = rw (i.net, i.junction, i.end) at next.first in
    let passed = rw (i.net, i.junction, i.end) at next.passed in
    let blank = c.if-labels-place.true ∙ ap (λ (s : Size). s.junctions) c.size-size.ensures in
    let ends = ends_in n.junctions n.reaches c.in-Some-step.step.number shaped.joined first.1.opens in
    let low : c.from-place.result < length c.entering.labels =
    omega (arith, c.from-place.ensures, first.0.begin, ends.0, shaped.few, i.long) in
    record {
      can = tt;
      ends = tt;
      net = ap (λ r. r.now) next.net ∙ i.net;
      junction = next.junction ∙ i.junction;
      end = next.end ∙ i.end;
      long = length-set c.entering.labels c.from-place.result _ ∙ i.long;
      here = entering_more n shaped (slice_index c.entering.labels) c.entering.queue.items c.queue.next c.in-Some.at _
          c.entering.step-iterator.next i.here c.next.new.self.next c.in-Some-step.step.number c.from-place.result first.1
          (c.from-place.ensures ∙ first.0.begin) passed blank _ _
          (relabelled_from_set c.entering.labels c.from-place.result _ low)
          (rw c.from-place.ensures c.push-then-labels-place.ensures.items);
    }

pub entering-preserved : goal.entering-preserved
entering-preserved g c =
    let n = g.N.Network.meaning c.args.net.now in
    let shaped = (g.N.Network.sound c.args.net.now).shaped in
    let i = c.entering.invariant in
    let next = c.in-Some-step.ensures.steps in
    let first = rw (i.net, i.junction, i.end) at next.first in
    let passed = rw (i.net, i.junction, i.end) at next.passed in
    let count = ap (λ (s : Size). s.junctions) c.size-size.ensures in
    record {
      can = tt;
      ends = tt;
      net = ap (λ r. r.now) next.net ∙ i.net;
      junction = next.junction ∙ i.junction;
      end = next.end ∙ i.end;
      long = i.long;
      here = entering_known n shaped (slice_index c.entering.labels) c.entering.queue.items c.queue.next c.in-Some.at _
          c.entering.step-iterator.next i.here c.next.new.self.next c.in-Some-step.step.number c.from-place.result first.1
          (c.from-place.ensures ∙ first.0.begin) passed (λ same. c.if-labels-place.false (same ∙ sym count));
    }

pub queue-smaller : goal.queue-smaller
queue-smaller g c =
    let n = g.N.Network.meaning c.args.net.now in
    let shaped = (g.N.Network.sound c.args.net.now).shaped in
    let h = c.entering.invariant.here in
    omega (arith, short n shaped (slice_index c.entering.labels) c.entering.queue.items c.queue.next h.spread, h.within)

pub returns-clause-exact : goal.returns-clause-exact
returns-clause-exact g c =
    let n = g.N.Network.meaning c.args.net.now in
    let shaped = (g.N.Network.sound c.args.net.now).shaped in
    let end : length c.queue.queue.items ≤ c.queue.next = search rules in
    subst (ExactLabels n) (sym c.beginning.ensures.labels)
    (spread_exact n shaped (slice_index c.queue.labels) c.queue.queue.items c.queue.next c.queue.invariant.spread end)

pub returns-clause-most : goal.returns-clause-most
returns-clause-most g c = λ v. omega (arith, ap (λ (f : ℕ → ℕ). f v) c.beginning.ensures.labels, c.queue.invariant.spread.most v)
