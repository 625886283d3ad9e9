use Rattle.std.proofs.Common.{◌≡◌}
use Rattle.flow.specs.Routes.{GoesFirst}
use Rattle.flow.specs.Labels.{IsAdmissible}
use Rattle.routes.specs.declared.step.StepEnd.TheVariants.{Begin}
use Rattle.routes.proofs.Passing.{AllPassed}
use Rattle.labelling.specs.Keeping.{label_of, current_of}
use Rattle.labelling.proofs.labelling.Labelling.first_admissible.Given as goal

-- what has been passed is not admissible, or goes before the current step; and what does go before it has been passed
abbrev pub invariant-loop-step : goal.invariant-loop-step
invariant-loop-step g l =
    let rs = (g.N.Network.meaning l.net).reaches in
    let steps = l.step-iterator in
    let first = current_of l.self l.junction in
    record {
      can : (goal.iterator-loop-step g).can_next steps;
      ends : (goal.iterator-loop-step g).is_finite steps;
      net : steps.net.now ≡ l.net;
      junction : steps.junction ≡ l.junction;
      end : steps.end ≡ Begin;
      before : AllPassed Begin rs l.junction (λ u. GoesFirst u steps.next) first;
      passed : AllPassed Begin rs l.junction (λ u. IsAdmissible (label_of l.self) rs u → GoesFirst u first) steps.next;
    }
