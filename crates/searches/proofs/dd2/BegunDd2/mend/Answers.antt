use Rattle.labelling.specs.Keeping.{label_of, current_of}
use Rattle.searches.specs.Waiting.{IsPending}
use Rattle.searches.proofs.Mends.{steps_taken}
use Rattle.searches.proofs.dd2.BegunDd2.mend.Goals as goal

pub mending-preserved : goal.mending-preserved
mending-preserved g c = λ fits.
    let n = g.N.Network.meaning c.args.net.now in
    let was = c.mending.self in
    let h = c.mending.invariant fits in
    let taken = c.in-Some.ensures in
    c.in_ok-mend_at.ensures.mends (record {
      fits = h.fits;
      steps = steps_taken n (label_of was.kept) (current_of was.kept) (IsPending was.pending) (IsPending c.take.new.self)
          c.in-Some.at taken.3 h.steps;
    })

pub returns-in_err-mend_at : goal.returns-in_err-mend_at
returns-in_err-mend_at g c = rw c.from_residual.ensures (λ fits.
    let n = g.N.Network.meaning c.args.net.now in
    let was = c.mending.self in
    let h = c.mending.invariant fits in
    let taken = c.in-Some.ensures in
    c.in_err-mend_at.ensures.mends (record {
      fits = h.fits;
      steps = steps_taken n (label_of was.kept) (current_of was.kept) (IsPending was.pending) (IsPending c.take.new.self)
          c.in-Some.at taken.3 h.steps;
    }))
