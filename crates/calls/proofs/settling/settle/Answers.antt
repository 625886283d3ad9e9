use Rattle.std.proofs.Common.{◌∙◌, true, refl, sym, subst, arith}
use Rattle.flow.specs.Routes.{Finished}
use Rattle.routes.specs.Routing.{steps_of}
use Rattle.calls.specs.declared.settling.Settled.{Settled}
use Rattle.calls.proofs.Sofar.{one_more, at_budget, at_end, one_settled}
use Rattle.calls.proofs.settling.settle.Goals as goal

pub pushing-preserved : goal.pushing-preserved
pushing-preserved g c =
    let i = c.pushing.invariant in
    let was = g.N.Network.meaning c.args.net.now in
    let now = g.N.Network.meaning c.pushing.net in
    let after = g.N.Network.meaning c.push.new.net in
    let told = c.in-Some.ensures i.in_step in
    let e = c.push.ensures in
    record {
      so_far = one_more was now after c.pushing.settled.routes c.pushing.settled.litres c.from.result
          (steps_of c.in-Some.route) i.so_far told.0 (c.from.ensures ∙ e.litres) e.done;
      in_step = subst (g.S.Begun.Begun.in_step c.route.new.self) (sym e.done) told.2;
      budget = let ne = c.if-settled-budget.false in omega arith;
      few = omega (arith, i.few, e.few, c.from.ensures);
      not_yet = i.not_yet;
      giver = λ j. e.giver j ∙ i.giver j;
    }

pub returns-then-settled-budget-clause-one : goal.returns-then-settled-budget-clause-one
returns-then-settled-budget-clause-one g c =
    let i = c.pushing.invariant in
    let was = g.N.Network.meaning c.args.net.now in
    let now = g.N.Network.meaning c.pushing.net in
    let told = c.in-Some.ensures i.in_step in
    let s = c.pushing.settled in
    let left : ¬ Finished now = λ none. none (steps_of c.in-Some.route) told.0.shortest.route in
    one_settled was now c.args.budget s (g.N.Network.sound c.args.net.now).shaped
    (at_budget was now c.args.budget s i.so_far c.if-settled-budget.true i.not_yet left)

pub returns-clause-one : goal.returns-clause-one
returns-clause-one g c =
    let i = c.pushing.invariant in
    let was = g.N.Network.meaning c.args.net.now in
    let now = g.N.Network.meaning c.pushing.net in
    let s : Settled = record { routes = c.pushing.settled.routes; litres = c.pushing.settled.litres; finished = true } in
    let none = (c.in_default.ensures i.in_step).0 in
    one_settled was now c.args.budget s (g.N.Network.sound c.args.net.now).shaped
    (at_end was now c.args.budget s i.so_far i.budget refl none)
