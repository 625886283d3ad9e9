use Rattle.std.proofs.Common.{◌≤◌, ℕ, sym, ap, ◌∙◌, subst, arith}
use Rattle.std.specs.List.{All}
use Rattle.flow.specs.Labels.{IsAdmissible, ExactLabels}
use Rattle.flow.proofs.Finding.{high_finished}
use Rattle.network.specs.declared.size.Size.{Size}
use Rattle.routes.specs.Routing.{steps_of}
use Rattle.labelling.specs.Keeping.{label_of}
use Rattle.labelling.proofs.Walking.{walking_admissible}
use Rattle.labelling.proofs.Stands.{label_falls, fits_on, only_on, stands_answer, stands_room, stands_on, stands_exact}
use Rattle.labelling.proofs.labelling.Labelling.follow.Goals as goal

pub returns-then-label-size-clause-found : goal.returns-then-label-size-clause-found
returns-then-label-size-clause-found g c = λ fits exact.
    let n = g.N.Network.meaning c.args.net.now in
    let label = label_of c.args.self.now in
    let intake = ap (λ (s : Size). label s.intake) c.size-size.ensures in
    let count = ap (λ (s : Size). s.junctions) c.size-size.ensures in
    let high : n.junctions ≤ label n.intake = omega (arith, c.if-label-size.true, c.label.ensures.value) in
    high_finished n label (g.N.Network.sound c.args.net.now).shaped exact.labels high

pub returns-in_err-step-clause-found : goal.returns-in_err-step-clause-found
returns-in_err-step-clause-found g c = λ fits exact.
    let n = g.N.Network.meaning c.args.net.now in
    let i = c.following.invariant in
    let out = ap (λ (s : Size). s.outfall) c.size-size.ensures in
    absurd (stands_exact n (g.N.Network.sound c.args.net.now).shaped c.following.self (steps_of c.following.route) c.following.at
    (i.stands fits) i.below c.advance.new.self c.advance.new.self c.in_err-step.ensures.told
    (λ same. c.following-test.true (same ∙ sym out)) (subst (ExactLabels n) (sym i.only.labels) exact))

pub returns-in_err-push-clause-only : goal.returns-in_err-push-clause-only
returns-in_err-push-clause-only g c =
    only_on (g.N.Network.meaning c.args.net.now) c.following.self c.advance.new.self c.following.at c.in_ok-step.step
    c.in_ok-step.ensures.told c.args.self.now c.following.invariant.only

pub returns-in_err-push-clause-fits : goal.returns-in_err-push-clause-fits
returns-in_err-push-clause-fits g c = λ fits.
    fits_on (g.N.Network.meaning c.args.net.now) c.following.self c.advance.new.self c.following.at c.in_ok-step.step
    c.in_ok-step.ensures.told (c.following.invariant.stands fits).fits

pub returns-in_err-push-clause-found : goal.returns-in_err-push-clause-found
returns-in_err-push-clause-found g c = λ fits exact.
    let i = c.following.invariant in
    let room = stands_room (g.N.Network.meaning c.args.net.now) (g.N.Network.sound c.args.net.now).shaped c.following.self
    (steps_of c.following.route) c.following.at (i.stands fits) i.below in
    absurd (let full = c.in_err-push.ensures.0 in omega arith)

pub following-smaller : goal.following-smaller
following-smaller g c =
    let falls = label_falls (g.N.Network.meaning c.args.net.now) c.following.self c.advance.new.self c.following.at
    c.in_ok-step.step c.in_ok-step.ensures.told in
    omega (arith, falls)

pub following-preserved : goal.following-preserved
following-preserved g c =
    let n = g.N.Network.meaning c.args.net.now in
    let i = c.following.invariant in
    let told = c.in_ok-step.ensures.told in
    record {
      only = only_on n c.following.self c.advance.new.self c.following.at c.in_ok-step.step told c.args.self.now i.only;
      below = omega (arith, ap (λ (f : ℕ → ℕ). f n.intake) told.1.0, i.below);
      stands = λ fits. stands_on n (g.N.Network.sound c.args.net.now).shaped c.following.self (steps_of c.following.route)
          c.following.at (i.stands fits) i.below c.advance.new.self c.in_ok-step.step (steps_of c.push.new.self) told
          c.in_ok-push.ensures.1;
    }

pub returns-clause-found : goal.returns-clause-found
returns-clause-found g c = λ fits exact.
    let n = g.N.Network.meaning c.args.net.now in
    let i = c.following.invariant in
    let steps = steps_of c.following.route in
    let out = ap (λ (s : Size). s.outfall) c.size-size.ensures in
    let h = i.stands fits in
    let answer = stands_answer n (g.N.Network.sound c.args.net.now).shaped c.following.self steps c.following.at h
    (c.following-test.false ∙ out) in
    let all = walking_admissible n (label_of c.following.self) steps c.following.at h.walking in
    (answer.0, subst (λ (f : ℕ → ℕ). All (IsAdmissible f n.reaches) steps) i.only.labels all)
