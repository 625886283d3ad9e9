-- Labels and current steps that fit a network: at the start, after each move at a junction, and after a push.
use Rattle.std.proofs.Common.{◌≡◌, ℕ, ◌+◌, ◌<◌, ◌≤◌, ◌≢◌, List, Some, sym, ap, subst, ⊎_elim, arith}
use Rattle.std.specs.List.{All}
use Rattle.std.proofs.lemmas.Bool.{cases_eq, cases_lt}
use Rattle.flow.specs.Net.{Net, Shaped}
use Rattle.flow.specs.Steps.{begins, finishes, IsOpen}
use Rattle.flow.specs.Routes.{IsRoute, GoesFirst}
use Rattle.flow.specs.Pushes.{least_headroom, pushed}
use Rattle.flow.specs.Labels.{IsAdmissible, relabelled, ExactLabels}
use Rattle.flow.proofs.Likeness.{begins-alike}
use Rattle.flow.proofs.Pushing.{bare-along}
use Rattle.flow.proofs.Labelling.{IsDescent, relabelled_here, relabelled_there, labels_relabelled, still_elsewhere, labels_pushed, still_pushed, descent_from_admissible}
use Rattle.routes.specs.declared.step.OpenStep.{OpenStep}
use Rattle.routes.specs.Going.{first_step, FirstFrom}
use Rattle.labelling.specs.Scanning.{AdmissibleAt, OneAbove, NoneOpen, IsRelabel}
use Rattle.labelling.specs.Standing.{Fits}

module _ (g : Net) (label current : ℕ → ℕ) (h : Fits g label current) where
  -- the first admissible step from the current one on is the new current step
  pub fits_advanced : (v : ℕ) (x : OpenStep) →
      FirstFrom (AdmissibleAt label g.reaches v) g.reaches (current v) (Some x) →
      Fits g label (relabelled v x.number current)
  fits_advanced v x found = record {
    labels = h.labels;
    passed = λ s a b. ⊎_elim
        (λ (here : begins g.reaches s ≡ v).
        let before = subst (GoesFirst s) (relabelled_here current v x.number (begins g.reaches s) here) b in
        let was = found.3 s (record { there = here; admissible = a }) before in
        h.passed s a (subst (λ u. GoesFirst s (current u)) (sym here) was))
        (λ (ne : begins g.reaches s ≢ v).
        h.passed s a (subst (GoesFirst s) (relabelled_there current v x.number (begins g.reaches s) ne) b))
        (cases_eq (begins g.reaches s) v);
  }

  module _ (v c : ℕ) (r : IsRelabel g label v c) where
    least : (s : ℕ) → IsOpen g.reaches s → begins g.reaches s ≡ v → c ≤ label (finishes g.reaches s) + 1
    least s opens here = ⊎_elim (λ (one : OneAbove g.reaches label v c). one.least s (record { opens = opens; there = here }))
        (λ (none : NoneOpen g v c). absurd (none.none s (record { opens = opens; there = here }))) r

    -- a junction with no admissible step left gets a higher label
    pub raises : label v < g.junctions → ((s : ℕ) → AdmissibleAt label g.reaches v s → GoesFirst s (current v)) → label v < c
    raises below none = ⊎_elim one (λ (n : NoneOpen g v c). omega (arith, n.count)) r
      where
        one : OneAbove g.reaches label v c → label v < c
        one o =
            let up = h.labels.falls o.step o.opens.opens in
            let start = ap label o.opens.there in
            ⊎_elim (λ (low : label v < c). low) (λ (high : c ≤ label v).
            let a : IsAdmissible label g.reaches o.step =
            record { opens = o.opens.opens; falls = omega (arith, up, start, o.above, high) } in
            let b = none o.step (record { there = o.opens.there; admissible = a }) in
            absurd (h.passed o.step a (subst (λ u. GoesFirst o.step (current u)) (sym o.opens.there) b)))
            (cases_lt (label v) c)

    -- and its steps begin from the first again
    pub fits_raised : Shaped g → v ≢ g.outfall → label v < c → Fits g (relabelled v c label) (relabelled v first_step current)
    fits_raised shaped ne up = record {
      labels = labels_relabelled g label v c shaped h.labels ne (omega arith) least;
      passed = λ s a b. ⊎_elim
          (λ (here : begins g.reaches s ≡ v).
          let none : GoesFirst s first_step = subst (GoesFirst s) (relabelled_here current v first_step (begins g.reaches s) here) b in
          absurd (omega arith))
          (λ (other : begins g.reaches s ≢ v).
          let was = subst (GoesFirst s) (relabelled_there current v first_step (begins g.reaches s) other) b in
          still_elsewhere g label v c h.labels (omega arith) s other (λ old. h.passed s old was) a)
          (cases_eq (begins g.reaches s) v);
    }

  -- after a route of admissible steps is pushed
  pub fits_pushed : (ss : List ℕ) → IsRoute g ss → All (IsAdmissible label g.reaches) ss → Fits (pushed ss g) label current
  fits_pushed ss route all = record {
    labels = labels_pushed g label ss down.falls h.labels;
    passed = λ s a b.
        let same : begins (pushed ss g).reaches s ≡ begins g.reaches s =
        sym (begins-alike g.reaches (pushed ss g).reaches (bare-along (least_headroom g.reaches ss) g.reaches ss) s) in
        still_pushed g label ss down s (λ old. h.passed s old (subst (λ u. GoesFirst s (current u)) same b)) a;
  }
    where
      down : IsDescent label g.reaches g.intake ss g.outfall
      down = descent_from_admissible label g.reaches g.intake ss g.outfall route all
