use Rattle.std.proofs.Common.{◌≡◌, ◌∙◌, ap, arith}
use Rattle.flow.specs.Steps.{begins}
use Rattle.flow.proofs.Walks.{ends_in}
use Rattle.routes.specs.declared.step.StepEnd.TheVariants.{Finish}
use Rattle.routes.proofs.Passing.{more_passed}
use Rattle.labelling.specs.Keeping.{current_of}
use Rattle.searches.specs.Waiting.{IsPending}
use Rattle.searches.proofs.dd2.BegunDd2.add_followers.Goals as goal

pub loop-step-preserved-then-current-step : goal.loop-step-preserved-then-current-step
loop-step-preserved-then-current-step g c =
    let n = g.N.Network.meaning c.args.net.now in
    let shaped = (g.N.Network.sound c.args.net.now).shaped in
    let i = c.loop-step.invariant in
    let next = c.in-Some.ensures.steps in
    let first = rw (i.net, i.junction, i.end) at next.first in
    let passed = rw (i.net, i.junction, i.end) at next.passed in
    let s = c.in-Some.step.number in
    let ends = ends_in n.junctions n.reaches s shaped.joined first.1.opens in
    let e = c.add-then-current-step.ensures in
    let here = rw first.0.begin at (e.told.here (omega (arith, first.0.begin, ends.0, shaped.few))) in
    record {
      can = tt;
      ends = tt;
      net = ap (λ r. r.now) next.net ∙ i.net;
      junction = next.junction ∙ i.junction;
      end = next.end ∙ i.end;
      kept = i.kept;
      grows = λ u p. e.told.kept u (i.grows u p);
      here = λ low. e.told.kept c.args.at (i.here low);
      few = e.few;
      passed = more_passed Finish n.reaches c.args.at
          (λ s. current_of c.args.self.now.kept (begins n.reaches s) ≡ s → IsPending c.add-then-current-step.new.self (begins n.reaches s))
          c.loop-step.step-iterator.next c.next.new.self.next s passed (λ u o b cur. e.told.kept (begins n.reaches u) (i.passed u o b cur))
          (λ cur. here);
    }
