use Rattle.std.proofs.Common.{◌≡◌}
use Rattle.routes.specs.declared.step.StepEnd.TheVariants.{Begin}
use Rattle.labelling.specs.Keeping.{label_of}
use Rattle.labelling.proofs.Scans.{LeastPassed}
use Rattle.labelling.proofs.labelling.Labelling.label_above.Given as goal

-- the least label over the open steps that have been passed
abbrev pub invariant-loop-step : goal.invariant-loop-step
invariant-loop-step g l =
    let steps = l.step-iterator in
    record {
      can : (goal.iterator-loop-step g).can_next steps;
      ends : (goal.iterator-loop-step g).is_finite steps;
      net : steps.net.now ≡ l.net;
      junction : steps.junction ≡ l.junction;
      end : steps.end ≡ Begin;
      least : LeastPassed (g.N.Network.meaning l.net).reaches (label_of l.self) l.junction steps.next l.least;
    }
