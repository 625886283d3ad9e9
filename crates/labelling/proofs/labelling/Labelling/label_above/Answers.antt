use Rattle.std.proofs.Common.{◌∙◌, ap, rules}
use Rattle.labelling.proofs.Scans.{least_more}
use Rattle.labelling.specs.Keeping.{label_of}
use Rattle.labelling.proofs.labelling.Labelling.label_above.Goals as goal

pub loop-step-preserved : goal.loop-step-preserved
loop-step-preserved g c =
    let i = c.loop-step.invariant in
    let rs = (g.N.Network.meaning c.args.net.now).reaches in
    let label = label_of c.args.self.now in
    let step = c.in-Some.step in
    let next = c.in-Some.ensures.steps in
    let first = rw (i.net, i.junction, i.end) at next.first in
    let passed = rw (i.net, i.junction, i.end) at next.passed in
    record {
      can = tt;
      ends = tt;
      net = ap (λ r. r.now) next.net ∙ i.net;
      junction = next.junction ∙ i.junction;
      end = next.end ∙ i.end;
      least = least_more rs label c.args.junction c.loop-step.step-iterator.next c.next.new.self.next step.number first.1 passed
          c.loop-step.least c.map_or.result (search rules) i.least;
    }
