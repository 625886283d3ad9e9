use Rattle.std.proofs.Common.{arith}
use Rattle.routes.proofs.Stepping.{passed_now, first_given, none_left}
use Rattle.routes.proofs.step.OpenStepsIterator.next.Goals as goal

pub returns-in-Some-clause-steps : goal.returns-in-Some-clause-steps
returns-in-Some-clause-steps g c =
    let was = c.args.self.now in
    let i = c.loop-k.invariant in
    let net = g.N.Network.meaning was.net.now in
    let joined = (g.N.Network.sound was.net.now).shaped.joined in
    let touched = rw (i.net, i.junction) at c.in-Some.ensures in
    let is = rw (i.net, i.junction, i.end) at c.in-Some-open_step.ensures in
    let k = c.in-Some.k in
    let step = c.in-Some-open_step.step in
    let first = c.loop-k.self.next in
    record {
      net = i.net;
      junction = i.junction;
      end = i.end;
      first = first_given net.junctions net.reaches joined was.end was.junction was.next first k i.passed touched step is i.onward
          (omega (arith, c.from.ensures));
      passed = passed_now net.junctions net.reaches joined was.end was.junction was.next first k i.passed touched step is i.onward;
    }

pub returns-clause-steps : goal.returns-clause-steps
returns-clause-steps g c =
    let was = c.args.self.now in
    let i = c.loop-k.invariant in
    let net = g.N.Network.meaning was.net.now in
    let touched = rw (i.net, i.junction) at c.in_default.ensures in
    let none = none_left net.junctions net.reaches (g.N.Network.sound was.net.now).shaped.joined was.end was.junction was.next
    c.loop-k.self.next i.passed touched in
    record {
      net = i.net;
      junction = i.junction;
      end = i.end;
      first = none;
      passed = λ u o. omega (arith, none u o, i.onward);
    }
