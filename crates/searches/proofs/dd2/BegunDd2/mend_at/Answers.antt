use Rattle.std.proofs.Common.{ℕ, sym, ap, ◌∙◌, subst}
use Rattle.flow.specs.Steps.{begins}
use Rattle.network.specs.declared.size.Size.{Size}
use Rattle.labelling.specs.declared.labelling.Labelling.{Labelling}
use Rattle.labelling.specs.Moving.{Raised}
use Rattle.labelling.specs.Keeping.{label_of}
use Rattle.labelling.proofs.Closing.{fits_closed}
use Rattle.labelling.proofs.Stands.{fits_on}
use Rattle.searches.specs.Waiting.{IsPending}
use Rattle.searches.proofs.Mends.{fits_but, steps_found, steps_raised, steps_closed, mends_raised}
use Rattle.searches.proofs.dd2.BegunDd2.mend_at.Goals as goal

pub returns-in_default-clause-mends : goal.returns-in_default-clause-mends
returns-in_default-clause-mends g c = λ h.
    let n = g.N.Network.meaning c.args.net.now in
    let x = c.args.self.now in
    let y = c.advance.new.self in
    let step = c.in_default.field-0 in
    let told = c.in_default.ensures.told in
    record {
      fits = fits_on n x.kept y c.args.at step told h.fits;
      steps = steps_found n x.kept c.args.at (IsPending x.pending) h.steps y step told;
    }

pub returns-clause-mends : goal.returns-clause-mends
returns-clause-mends g c = λ h.
    let n = g.N.Network.meaning c.args.net.now in
    let shaped = (g.N.Network.sound c.args.net.now).shaped in
    let x = c.args.self.now in
    let told = c.in_ok-lift.ensures.told in
    let z = told.0 in
    let closed = told.2 in
    let w = c.lift.new.self in
    let after = c.add_followers.new.self in
    let e = c.add_followers.ensures in
    let raised = subst (λ (y : Labelling). Raised n y c.args.at z) c.in-None.ensures.told.1 told.1 in
    let out = ap (λ (s : Size). s.outfall) c.size-size.ensures in
    let raised_fits = mends_raised n shaped x.kept z c.args.at h.fits (λ same. c.if-at-size.false (same ∙ sym out)) raised in
    let gap = label_of c.advance.new.self c.args.at in
    let steps = steps_raised n x.kept c.args.at (IsPending x.pending) h.steps z raised (IsPending after.pending) e.grows
    (e.here c.requires) (λ s o cur. e.followers s o (ap (λ (f : ℕ → ℕ). f (begins n.reaches s)) closed.current ∙ cur)) in
    fits_but n after w (sym e.kept) (fits_closed n shaped gap z w closed raised_fits)
    (steps_closed n shaped gap z w closed (IsPending after.pending) steps)
