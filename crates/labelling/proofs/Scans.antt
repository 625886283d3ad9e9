-- Going over the open steps that begin at a junction.
use Rattle.std.proofs.Common.{◌≡◌, ℕ, ◌+◌, ◌<◌, ◌≤◌, ◌⊎◌, ◌↔◌, min, List, Some, None, Option, MatchOption, ap, ◌∙◌, inl, inr, ⊎_elim, arith}
use Rattle.std.proofs.lemmas.Bool.{cases_lt}
use Rattle.flow.specs.Net.{Arc, Net}
use Rattle.flow.specs.Steps.{finishes}
use Rattle.flow.specs.Routes.{GoesFirst}
use Rattle.routes.specs.declared.step.StepEnd.TheVariants.{Begin}
use Rattle.routes.specs.Ends.{OpensAt}
use Rattle.routes.proofs.Passing.{AllPassed, more_passed, all_passed}
use Rattle.labelling.specs.Scanning.{AdmissibleAt, IsRelabel}

-- the least of the labels to which the steps lead that go before c; nothing where there is none of them
abbrev pub LeastPassed : List Arc → (ℕ → ℕ) → ℕ → ℕ → Option ℕ → Type 0
LeastPassed rs label v c None = AllPassed Begin rs v (λ u. ⊥) c
LeastPassed rs label v c (Some least) =
    ((s : ℕ) × OpensAt Begin rs v s × (least ≡ label (finishes rs s)))
    × AllPassed Begin rs v (λ u. least ≤ label (finishes rs u)) c

module _ (rs : List Arc) (label : ℕ → ℕ) (v c next x : ℕ) (o : OpensAt Begin rs v x)
    (now : (u : ℕ) → OpensAt Begin rs v u → (GoesFirst u next ↔ GoesFirst u c ⊎ (u ≡ x))) where
  -- the label to which a step leads
  abbrev far : ℕ → ℕ
  far s = label (finishes rs s)

  pub least_more : (least : Option ℕ) (y : ℕ) →
      MatchOption least (y ≡ label (finishes rs x)) (λ l. y ≡ min l (label (finishes rs x))) →
      LeastPassed rs label v c least → LeastPassed rs label v next (Some y)
  least_more None y is h =
      ((x, o, is), more_passed Begin rs v (λ u. y ≤ far u) c next x now (λ u p b. absurd (h u p b)) (omega (arith, is)))
  least_more (Some l) y is h = (
    ⊎_elim (λ (low : l < far x). (h.0.0, h.0.1, omega (arith, is, h.0.2))) (λ (high : far x ≤ l). (x, o, omega (arith, is)))
        (cases_lt l (far x)),
    more_passed Begin rs v (λ u. y ≤ far u) c next x now (λ u p b. omega (arith, is, h.1 u p b)) (omega (arith, is)),
  )
