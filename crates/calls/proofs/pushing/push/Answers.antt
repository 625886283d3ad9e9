use Rattle.std.proofs.Common.{◌<◌, length, sym, ap, ◌∙◌}
use Rattle.flow.specs.Changes.{with_reaches}
use Rattle.flow.proofs.Pushing.{can_take}
use Rattle.flow.proofs.Machining.{shortest_apart}
use Rattle.routes.specs.Routing.{steps_of}
use Rattle.calls.proofs.Shifting.{along_more, can_shift}
use Rattle.calls.proofs.pushing.push.Goals as goal

pub shift-requires-clause-open : goal.shift-requires-clause-open
shift-requires-clause-open g c =
    let n = g.N.Network.meaning c.args.net.now in
    let ss = steps_of c.args.route.now in
    let at = c.loop-step.step-index in
    let low : at < length ss = rw (← c.steps-step-items.ensures) c.loop-step-test.true in
    let can = can_take n ss c.requires.shortest.route (shortest_apart n ss c.requires.shortest) in
    rw (c.loop-step.invariant.done, c.steps-step-items.ensures, c.least_on-litres.ensures.value)
    (can_shift _ n.reaches n.intake ss n.outfall at can low).0

pub shift-requires-clause-room : goal.shift-requires-clause-room
shift-requires-clause-room g c =
    let n = g.N.Network.meaning c.args.net.now in
    let ss = steps_of c.args.route.now in
    let at = c.loop-step.step-index in
    let low : at < length ss = rw (← c.steps-step-items.ensures) c.loop-step-test.true in
    let can = can_take n ss c.requires.shortest.route (shortest_apart n ss c.requires.shortest) in
    rw (c.loop-step.invariant.done, c.steps-step-items.ensures, c.least_on-litres.ensures.value)
    (can_shift _ n.reaches n.intake ss n.outfall at can low).1

pub loop-step-preserved : goal.loop-step-preserved
loop-step-preserved g c =
    let n = g.N.Network.meaning c.args.net.now in
    let ss = steps_of c.args.route.now in
    let at = c.loop-step.step-index in
    let low : at < length ss = rw (← c.steps-step-items.ensures) c.loop-step-test.true in
    let i = c.loop-step.invariant in
    let done = rw (i.done, c.steps-step-items.ensures) at c.shift.ensures.done in
    record {
      done = done ∙ ap (with_reaches n) (sym (along_more c.least_on-litres.result n.reaches ss at low));
      giver = λ j. c.shift.ensures.giver j ∙ i.giver j;
    }
