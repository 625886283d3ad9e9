use Rattle.std.proofs.Common.{◌<◌, length, take, get_or, Some, sym, subst, rules}
use Rattle.std.proofs.lemmas.List.{take_more}
use Rattle.routes.specs.Routing.{steps_of}
use Rattle.calls.proofs.Shifting.{LeastOf, least_of_more}
use Rattle.calls.proofs.pushing.least_on.Goals as goal

pub loop-step-preserved : goal.loop-step-preserved
loop-step-preserved g c =
    let rs = (g.N.Network.meaning c.args.net.now).reaches in
    let ss = steps_of c.args.route.now in
    let at = c.loop-step.step-index in
    let low : at < length ss = rw (← c.steps-step-items.ensures) c.loop-step-test.true in
    let i = c.loop-step.invariant in
    let value = rw c.steps-step-items.ensures at c.headroom_of-room.ensures.value in
    let more = least_of_more rs (take at ss) (get_or ss at 0) c.loop-step.least c.map_or.result i.least (search rules) in
    record {
      least = subst (λ ts. LeastOf rs ts (Some c.map_or.result)) (sym (take_more ss at 0 low)) more;
      few = search rules;
    }
