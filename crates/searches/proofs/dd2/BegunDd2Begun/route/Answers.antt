use Rattle.std.proofs.Common.{ℕ, sym, subst}
use Rattle.std.specs.List.{All}
use Rattle.flow.specs.Steps.{begins}
use Rattle.flow.specs.Labels.{IsAdmissible}
use Rattle.flow.specs.Pushes.{pushed}
use Rattle.routes.specs.Routing.{steps_of}
use Rattle.labelling.specs.Keeping.{label_of, current_of}
use Rattle.labelling.proofs.Fitting.{fits_pushed}
use Rattle.searches.specs.Waiting.{IsPending}
use Rattle.searches.proofs.Mends.{fits_but, steps_less, steps_exact, steps_followed, steps_pushed}
use Rattle.searches.proofs.dd2.BegunDd2Begun.route.Goals as goal

pub returns-in_err-route : goal.returns-in_err-route
returns-in_err-route g c = λ h. rw c.from_residual-in_err-route.ensures (
    let n = g.N.Network.meaning c.args.net.now in
    let x = c.mend.new.self in
    let y = c.follow.new.self in
    let mended = c.in_ok-mend.ensures in
    let then = mended.0 h in
    let Out = IsPending x.pending in
    let exact = steps_exact n (label_of x.kept) (current_of x.kept) Out mended.1 then.fits then.steps in (
      c.in_err-route.ensures.found then.fits exact,
      record { fits = c.in_err-route.ensures.fits then.fits; steps = steps_followed n x.kept y Out c.in_err-route.ensures.only then.steps },
    ))

pub returns : goal.returns
returns g c = λ h.
    let n = g.N.Network.meaning c.args.net.now in
    let x = c.mend.new.self in
    let y = c.follow.new.self in
    let after = c.add_begins.new.self in
    let mended = c.in_ok-mend.ensures in
    let then = mended.0 h in
    let Out = IsPending x.pending in
    let Now = IsPending after.pending in
    let exact = steps_exact n (label_of x.kept) (current_of x.kept) Out mended.1 then.fits then.steps in
    let e = c.in_ok-route.ensures in
    let a = c.add_begins.ensures in
    let ss = steps_of c.in_ok-route.route in
    let found = e.found then.fits exact in
    let fits = e.fits then.fits in
    let steps = steps_less n (label_of y) (current_of y) Out Now a.grows
    (steps_followed n x.kept y Out e.only then.steps) in
    let all = subst (λ (f : ℕ → ℕ). All (IsAdmissible f n.reaches) ss) (sym e.only.labels) found.1 in
    let begun : All (λ s. Now (begins n.reaches s)) ss = λ i d low. a.begins i d low (found.1 i d low).opens in
    let route = found.0.shortest.route in
    let kept = sym a.kept in (
      found.0,
      fits_but n after y kept fits steps,
      fits_but (pushed ss n) after y kept (fits_pushed n (label_of y) (current_of y) fits ss route all)
          (steps_pushed n (label_of y) (current_of y) Now ss route all begun steps),
    )
