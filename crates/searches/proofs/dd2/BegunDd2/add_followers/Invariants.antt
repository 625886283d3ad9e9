use Rattle.std.proofs.Common.{◌≡◌, ℕ, ◌<◌, ◌≤◌}
use Rattle.flow.specs.Bounds.{most_junctions}
use Rattle.flow.specs.Steps.{begins}
use Rattle.routes.specs.declared.step.StepEnd.TheVariants.{Finish}
use Rattle.routes.proofs.Passing.{AllPassed}
use Rattle.labelling.specs.Keeping.{current_of}
use Rattle.searches.specs.Waiting.{IsPending, pending_count}
use Rattle.searches.proofs.dd2.BegunDd2.add_followers.Given as goal

-- of the steps to the junction that have been passed, those that are current have their begins pending
abbrev pub invariant-loop-step : goal.invariant-loop-step
invariant-loop-step g l =
    let steps = l.step-iterator in
    let rs = (g.N.Network.meaning l.net).reaches in
    let was = l.fn.self in
    record {
      can : (goal.iterator-loop-step g).can_next steps;
      ends : (goal.iterator-loop-step g).is_finite steps;
      net : steps.net.now ≡ l.net;
      junction : steps.junction ≡ l.at;
      end : steps.end ≡ Finish;
      kept : l.self.kept ≡ was.kept;
      grows : (u : ℕ) → IsPending was.pending u → IsPending l.self.pending u;
      here : l.at < most_junctions → IsPending l.self.pending l.at;
      few : pending_count l.self.pending ≤ 512;
      passed : AllPassed Finish rs l.at
          (λ s. current_of was.kept (begins rs s) ≡ s → IsPending l.self.pending (begins rs s)) steps.next;
    }
