use Rattle.std.proofs.Common.{◌≡◌, ◌-◌}
use Rattle.routes.specs.declared.step.StepEnd.TheVariants.{Begin}
use Rattle.marking.proofs.Spreading.{Spread, Leaving}
use Rattle.marking.proofs.near.near_marks.Given as goal

-- the junctions before place `next` of the queue have been looked at
abbrev pub invariant-queue : goal.invariant-queue
invariant-queue g l = Spread (g.N.Network.meaning l.net) l.marks l.queue.items l.next

-- and of the open steps from the junction at that place, those that have been passed
abbrev pub invariant-leaving : goal.invariant-leaving
invariant-leaving g l =
    let steps = l.step-iterator in
    record {
      can : (goal.iterator-leaving g).can_next steps;
      ends : (goal.iterator-leaving g).is_finite steps;
      net : steps.net.now ≡ l.net;
      junction : steps.junction ≡ l.at;
      end : steps.end ≡ Begin;
      here : Leaving (g.N.Network.meaning l.net) l.marks l.queue.items l.next l.at steps.next;
    }

abbrev pub decreases-queue : goal.decreases-queue
decreases-queue g l = 512 - l.next
