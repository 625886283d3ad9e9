use Rattle.std.proofs.Common.{◌≡◌, ◌-◌, length}
use Rattle.std.specs.Prelude.{slice_index}
use Rattle.routes.specs.declared.step.StepEnd.TheVariants.{Finish}
use Rattle.labelling.proofs.Spreading.{Spread, Entering}
use Rattle.labelling.proofs.labelling.Labelling.exact.Given as goal

-- the junctions before place `next` of the queue have been looked at
abbrev pub invariant-queue : goal.invariant-queue
invariant-queue g l = record {
  long : length l.labels ≡ 512;
  spread : Spread (g.N.Network.meaning l.net) (slice_index l.labels) l.queue.items l.next;
}

-- and of the open steps to the junction at that place, those that have been passed
abbrev pub invariant-entering : goal.invariant-entering
invariant-entering g l =
    let steps = l.step-iterator in
    record {
      can : (goal.iterator-entering g).can_next steps;
      ends : (goal.iterator-entering g).is_finite steps;
      net : steps.net.now ≡ l.net;
      junction : steps.junction ≡ l.at;
      end : steps.end ≡ Finish;
      long : length l.labels ≡ 512;
      here : Entering (g.N.Network.meaning l.net) (slice_index l.labels) l.queue.items l.next l.at l.above steps.next;
    }

abbrev pub decreases-queue : goal.decreases-queue
decreases-queue g l = (g.N.Network.meaning l.net).junctions - l.next
