-- Mending one junction: its first admissible step is found, or its label is raised.
use Rattle.std.proofs.Common.{◌≡◌, ℕ, ◌<◌, ◌≤◌, ◌≢◌, ◌⊎◌, ◌↔◌, List, Some, sym, ap, ◌∙◌, subst, inl, inr, ⊎_elim, arith}
use Rattle.std.specs.List.{All}
use Rattle.std.proofs.lemmas.Bool.{cases_eq}
use Rattle.flow.specs.Net.{Net, Shaped}
use Rattle.flow.specs.Steps.{begins, finishes}
use Rattle.flow.specs.Routes.{IsRoute}
use Rattle.flow.specs.Pushes.{least_headroom, pushed}
use Rattle.flow.specs.Labels.{IsAdmissible, relabelled, ExactLabels}
use Rattle.flow.proofs.Likeness.{begins-alike}
use Rattle.flow.proofs.Pushing.{bare-along}
use Rattle.flow.proofs.Labelling.{relabelled_here, relabelled_there, descent_from_admissible, others_pushed}
use Rattle.routes.specs.declared.step.StepEnd.TheVariants.{Finish}
use Rattle.routes.specs.declared.step.OpenStep.{OpenStep}
use Rattle.routes.specs.Ends.{OpensAt}
use Rattle.routes.specs.Going.{first_step}
use Rattle.labelling.specs.declared.labelling.Labelling.{Labelling}
use Rattle.labelling.specs.Keeping.{label_of, current_of}
use Rattle.labelling.specs.Scanning.{AdmissibleAt}
use Rattle.labelling.specs.Moving.{Advanced, Raised}
use Rattle.labelling.specs.Standing.{Fits}
use Rattle.labelling.specs.Following.{OnlyAdvanced}
use Rattle.labelling.specs.Gaps.{GapClosed}
use Rattle.labelling.proofs.Fitting.{fits_raised}
use Rattle.labelling.proofs.Closing.{closed_below, closed_admissible}
use Rattle.labelling.proofs.Stands.{fits_told}
use Rattle.searches.specs.declared.dd2.BegunDd2.{BegunDd2}
use Rattle.searches.specs.Waiting.{IsPending}
use Rattle.searches.specs.Mending.{KeepsSteps, InStep}

-- what is kept, told by the labelling that it is
pub fits_but : (g : Net) (x : BegunDd2) (y : Labelling) → y ≡ x.kept → Fits g (label_of y) (current_of y) →
    KeepsSteps g (label_of y) (current_of y) (IsPending x.pending) → InStep x g
fits_but g x y same fits steps = record {
  fits = subst (λ (z : Labelling). Fits g (label_of z) (current_of z)) same fits;
  steps = subst (λ (z : Labelling). KeepsSteps g (label_of z) (current_of z) (IsPending x.pending)) same steps;
}

-- more junctions are left out
pub steps_less : (g : Net) (label current : ℕ → ℕ) (Out More : ℕ → Type 0) → ((v : ℕ) → Out v → More v) →
    KeepsSteps g label current Out → KeepsSteps g label current More
steps_less g label current Out More more steps = record { has = λ v low ne less not. steps.has v low ne less (λ o. not (more v o)) }

-- one junction less is pending, and is left out
pub steps_taken : (g : Net) (label current : ℕ → ℕ) (Out Rest : ℕ → Type 0) (v : ℕ) → ((u : ℕ) → Rest u ↔ Out u × (u ≢ v)) →
    KeepsSteps g label current Out → KeepsSteps g label current (λ u. Rest u ⊎ (u ≡ v))
steps_taken g label current Out Rest v rest =
    steps_less g label current Out (λ u. Rest u ⊎ (u ≡ v)) (λ u out. ⊎_elim (λ (same : u ≡ v). inr same)
    (λ (ne : u ≢ v). inl ((rest u).1 (out, ne))) (cases_eq u v))

-- where none is left out, labels are exact
pub steps_exact : (g : Net) (label current : ℕ → ℕ) (Out : ℕ → Type 0) → ((v : ℕ) → ¬ Out v) → Fits g label current →
    KeepsSteps g label current Out → ExactLabels g label
steps_exact g label current Out none fits steps = record {
  labels = fits.labels;
  next = λ v low ne less. let a = steps.has v low ne less (none v) in (current v, a.there, a.admissible);
}

module _ (g : Net) (x : Labelling) (v : ℕ) (Out : ℕ → Type 0)
    (steps : KeepsSteps g (label_of x) (current_of x) (λ u. Out u ⊎ (u ≡ v))) where
  not_out : (u : ℕ) → u ≢ v → ¬ Out u → ¬ (Out u ⊎ (u ≡ v))
  not_out u ne not o = ⊎_elim (λ (out : Out u). not out) (λ (same : u ≡ v). ne same) o

  -- its first admissible step is found
  pub steps_found : (y : Labelling) (s : OpenStep) → Advanced g.reaches x v (Some s) y →
      KeepsSteps g (label_of y) (current_of y) Out
  steps_found y s told = record {
    has = λ u low ne less not.
        let l = ap (λ (f : ℕ → ℕ). f u) told.1.0 in
        ⊎_elim
        (λ (here : u ≡ v).
        let now = ap (λ (f : ℕ → ℕ). f u) told.1.1 ∙ relabelled_here (current_of x) v s.number u here in
        rw (now, told.1.0, here) told.0.1)
        (λ (other : u ≢ v).
        let now = ap (λ (f : ℕ → ℕ). f u) told.1.1 ∙ relabelled_there (current_of x) v s.number u other in
        rw (now, told.1.0) (steps.has u low ne (omega (arith, less, l)) (not_out u other not)))
        (cases_eq u v);
  }

  -- its label is raised, and it is left out, as those are whose current step leads to it
  pub steps_raised : (z : Labelling) → Raised g x v z → (More : ℕ → Type 0) → ((u : ℕ) → Out u → More u) → More v →
      ((s : ℕ) → OpensAt Finish g.reaches v s → current_of z (begins g.reaches s) ≡ s → More (begins g.reaches s)) →
      KeepsSteps g (label_of z) (current_of z) More
  steps_raised z r More more here followers = record { has = has }
    where
      has : (u : ℕ) → u < g.junctions → u ≢ g.outfall → label_of z u < g.junctions → ¬ More u →
          AdmissibleAt (label_of z) g.reaches u (current_of z u)
      has u low ne less not =
          let there = ap (λ (f : ℕ → ℕ). f u) r.labels ∙ relabelled_there (label_of x) v r.label u other in
          let now = ap (λ (f : ℕ → ℕ). f u) r.again ∙ relabelled_there (current_of x) v first_step u other in
          let a = steps.has u low ne (omega (arith, less, there)) (not_out u other (λ out. not (more u out))) in
          let s : ℕ = current_of x u in
          let start = ap (λ (f : ℕ → ℕ). f (begins g.reaches s)) r.labels
          ∙ relabelled_there (label_of x) v r.label (begins g.reaches s) (λ same. other (sym a.there ∙ same)) in
          let end = ap (λ (f : ℕ → ℕ). f (finishes g.reaches s)) r.labels
          ∙ relabelled_there (label_of x) v r.label (finishes g.reaches s) (λ same. leads s a now same) in
          rw now (record {
            there = a.there;
            admissible = record { opens = a.admissible.opens; falls = omega (arith, a.admissible.falls, start, end) };
          })
        where
          other : u ≢ v
          other same = not (subst More (sym same) here)

          -- the current step does not lead to v
          leads : (s : ℕ) → AdmissibleAt (label_of x) g.reaches u s → current_of z u ≡ s → ¬ (finishes g.reaches s ≡ v)
          leads s a now to =
              let o : OpensAt Finish g.reaches v s = record { opens = a.admissible.opens; there = to } in
              not (subst More a.there (followers s o (ap (current_of z) a.there ∙ now)))

-- where a gap is closed behind it, each junction whose label is below n keeps its step
pub steps_closed : (g : Net) (shaped : Shaped g) (gap : ℕ) (z w : Labelling) → GapClosed g.junctions gap z w →
    (Out : ℕ → Type 0) → KeepsSteps g (label_of z) (current_of z) Out → KeepsSteps g (label_of w) (current_of w) Out
steps_closed g shaped gap z w closed Out steps = record {
  has = λ v low ne less not.
      let below = closed_below g shaped gap z w closed v less in
      let a = steps.has v low ne (omega (arith, below, less)) not in
      subst (λ (f : ℕ → ℕ). AdmissibleAt (label_of w) g.reaches v (f v)) (sym closed.current) (record {
        there = a.there;
        admissible = closed_admissible g shaped gap z w closed (current_of z v) (omega (arith, ap (label_of w) a.there, less))
            a.admissible;
      });
}

pub mends_raised : (g : Net) (shaped : Shaped g) (x z : Labelling) (v : ℕ) → Fits g (label_of x) (current_of x) →
    v ≢ g.outfall → Raised g x v z → Fits g (label_of z) (current_of z)
mends_raised g shaped x z v fits ne r =
    let then = fits_raised g (label_of x) (current_of x) fits v r.label r.relabel shaped ne r.higher in
    fits_told g (relabelled v r.label (label_of x)) (label_of z) (relabelled v first_step (current_of x)) (current_of z)
    r.labels r.again then

-- following admissible steps leaves every junction with one
pub steps_followed : (g : Net) (x y : Labelling) (Out : ℕ → Type 0) → OnlyAdvanced g.reaches x y →
    KeepsSteps g (label_of x) (current_of x) Out → KeepsSteps g (label_of y) (current_of y) Out
steps_followed g x y Out only steps = record {
  has = λ v low ne less not.
      let l = ap (λ (f : ℕ → ℕ). f v) only.labels in
      ⊎_elim
      (λ (same : current_of y v ≡ current_of x v). rw (same, only.labels) (steps.has v low ne (omega (arith, less, l)) not))
      (λ (a : AdmissibleAt (label_of x) g.reaches v (current_of y v)). rw only.labels a) (only.current v);
}

-- after a route of admissible steps is pushed, only the junctions at which its steps begin may have lost theirs
pub steps_pushed : (g : Net) (label current : ℕ → ℕ) (Out : ℕ → Type 0) (ss : List ℕ) → IsRoute g ss →
    All (IsAdmissible label g.reaches) ss → All (λ s. Out (begins g.reaches s)) ss →
    KeepsSteps g label current Out → KeepsSteps (pushed ss g) label current Out
steps_pushed g label current Out ss route all begun steps = record {
  has = λ v low ne less not.
      let a = steps.has v low ne less not in
      let down = descent_from_admissible label g.reaches g.intake ss g.outfall route all in
      let none : All (λ s. s ≢ current v) ss = λ i d l same. not (subst Out (ap (begins g.reaches) same ∙ a.there) (begun i d l)) in
      record {
        there = sym (begins-alike g.reaches (pushed ss g).reaches (bare-along (least_headroom g.reaches ss) g.reaches ss) (current v))
            ∙ a.there;
        admissible = others_pushed g label ss down (current v) none a.admissible;
      };
}
