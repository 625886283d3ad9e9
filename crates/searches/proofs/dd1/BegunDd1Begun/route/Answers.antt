use Rattle.std.proofs.Common.{◌≤◌, ℕ, sym, ap, ◌∙◌, arith}
use Rattle.flow.proofs.Finding.{high_finished}
use Rattle.network.specs.declared.size.Size.{Size}
use Rattle.routes.specs.Routing.{steps_of}
use Rattle.labelling.specs.Keeping.{label_of}
use Rattle.labelling.proofs.Stands.{label_falls, stands_answer, stands_room, stands_on, stands_raised, stands_back, stands_last, stands_still}
use Rattle.searches.proofs.dd1.BegunDd1Begun.route.Goals as goal

pub returns-in_err-lift : goal.returns-in_err-lift
returns-in_err-lift g c = λ fits.
    let n = g.N.Network.meaning c.args.net.now in
    let shaped = (g.N.Network.sound c.args.net.now).shaped in
    let i = c.advance.invariant in
    let out = ap (λ (s : Size). s.outfall) c.size-size.ensures in
    absurd (stands_raised n shaped c.advance.self.kept (steps_of c.advance.route) c.advance.at (i.stands fits) i.below
    c.advance-in-advance.new.self c.lift.new.self c.in_default.ensures.told (λ same. c.advance-test.true (same ∙ sym out))
    c.in_err-lift.ensures.told)

pub returns-in_err-at : goal.returns-in_err-at
returns-in_err-at g c = λ fits.
    let n = g.N.Network.meaning c.args.net.now in
    let shaped = (g.N.Network.sound c.args.net.now).shaped in
    let i = c.advance.invariant in
    let out = ap (λ (s : Size). s.outfall) c.size-size.ensures in
    absurd (stands_last n shaped c.advance.self.kept (steps_of c.advance.route) c.advance.at (i.stands fits) i.below
    c.advance-in-advance.new.self c.in_ok-lift.ensures.told.0 c.in_default.ensures.told (λ same. c.advance-test.true (same ∙ sym out))
    c.in-Some-pop.last (steps_of c.pop.new.self) c.in-Some-pop.ensures c.in_err-at.ensures)

pub search-preserved-in_ok-at : goal.search-preserved-in_ok-at
search-preserved-in_ok-at g c = λ fits.
    let n = g.N.Network.meaning c.args.net.now in
    let shaped = (g.N.Network.sound c.args.net.now).shaped in
    let i = c.advance.invariant in
    let out = ap (λ (s : Size). s.outfall) c.size-size.ensures in
    stands_back n shaped c.advance.self.kept (steps_of c.advance.route) c.advance.at (i.stands fits) i.below
    c.advance-in-advance.new.self c.in_ok-lift.ensures.told.0 c.in_default.ensures.told (λ same. c.advance-test.true (same ∙ sym out))
    c.lift.new.self c.in-Some-pop.last c.in_ok-at.at (steps_of c.pop.new.self) c.in_ok-lift.ensures.told.1 c.in_ok-lift.ensures.told.2
    c.in-Some-pop.ensures c.in_ok-at.ensures

pub search-preserved : goal.search-preserved
search-preserved g c = λ fits.
    let n = g.N.Network.meaning c.args.net.now in
    let shaped = (g.N.Network.sound c.args.net.now).shaped in
    let i = c.advance.invariant in
    let out = ap (λ (s : Size). s.outfall) c.size-size.ensures in
    stands_still n shaped c.advance.self.kept (steps_of c.advance.route) c.advance.at (i.stands fits) i.below
    c.advance-in-advance.new.self c.in_ok-lift.ensures.told.0 c.in_default.ensures.told (λ same. c.advance-test.true (same ∙ sym out))
    c.lift.new.self (steps_of c.pop.new.self) c.in_ok-lift.ensures.told.1 c.in_ok-lift.ensures.told.2 c.in_default-pop.ensures

pub returns-in_err-push : goal.returns-in_err-push
returns-in_err-push g c = λ fits.
    let n = g.N.Network.meaning c.args.net.now in
    let shaped = (g.N.Network.sound c.args.net.now).shaped in
    let i = c.advance.invariant in
    let room = stands_room n shaped c.advance.self.kept (steps_of c.advance.route) c.advance.at (i.stands fits) i.below in
    absurd (let full = c.in_err-push.ensures.0 in omega arith)

pub advance-smaller : goal.advance-smaller
advance-smaller g c =
    let n = g.N.Network.meaning c.args.net.now in
    let falls = label_falls n c.advance.self.kept c.advance-in-advance.new.self c.advance.at c.in-Some.step c.in-Some.ensures.told in
    omega (arith, falls)

pub advance-preserved : goal.advance-preserved
advance-preserved g c =
    let n = g.N.Network.meaning c.args.net.now in
    let shaped = (g.N.Network.sound c.args.net.now).shaped in
    let i = c.advance.invariant in
    let told = c.in-Some.ensures.told in
    record {
      level = c.in-Some.ensures.level ∙ i.level;
      below = omega (arith, ap (λ (f : ℕ → ℕ). f n.intake) told.1.0, i.below);
      stands = λ fits. stands_on n shaped c.advance.self.kept (steps_of c.advance.route) c.advance.at (i.stands fits) i.below
          c.advance-in-advance.new.self c.in-Some.step (steps_of c.push.new.self) told c.in_ok-push.ensures.1;
    }

pub returns-in-search : goal.returns-in-search
returns-in-search g c = λ fits.
    let n = g.N.Network.meaning c.args.net.now in
    let shaped = (g.N.Network.sound c.args.net.now).shaped in
    let i = c.advance.invariant in
    let out = ap (λ (s : Size). s.outfall) c.size-size.ensures in
    stands_answer n shaped c.advance.self.kept (steps_of c.advance.route) c.advance.at (i.stands fits) (c.advance-test.false ∙ out)

pub returns : goal.returns
returns g c = λ fits.
    let n = g.N.Network.meaning c.args.net.now in
    let shaped = (g.N.Network.sound c.args.net.now).shaped in
    let h = c.search.invariant fits in
    let label = label_of c.search.self.kept in
    let intake = ap (λ (s : Size). label s.intake) c.size-size.ensures in
    let count = ap (λ (s : Size). s.junctions) c.size-size.ensures in
    let high : n.junctions ≤ label n.intake = omega (arith, c.search-test.false, c.label.ensures.value) in
    (high_finished n label shaped h.fits.labels high, h.fits)
