-- What holds of all the open steps at a junction that have been passed.
use Rattle.std.proofs.Common.{◌≡◌, ℕ, ◌⊎◌, ◌↔◌, List, subst, sym, ⊎_elim}
use Rattle.flow.specs.Net.{Arc}
use Rattle.flow.specs.Routes.{GoesFirst}
use Rattle.routes.specs.declared.step.StepEnd.{StepEnd}
use Rattle.routes.specs.Ends.{OpensAt}

-- the steps that go before c have the property
abbrev pub AllPassed : StepEnd → List Arc → ℕ → (ℕ → Type 0) → ℕ → Type 0
AllPassed e rs v P c = (u : ℕ) → OpensAt e rs v u → GoesFirst u c → P u

module _ (e : StepEnd) (rs : List Arc) (v : ℕ) (P : ℕ → Type 0) where
  -- one more
  pub more_passed : (c next x : ℕ) → ((u : ℕ) → OpensAt e rs v u → (GoesFirst u next ↔ GoesFirst u c ⊎ (u ≡ x))) →
      AllPassed e rs v P c → P x → AllPassed e rs v P next
  more_passed c next x now old here u o b =
      ⊎_elim (λ (before : GoesFirst u c). old u o before) (λ (same : u ≡ x). subst P (sym same) here) ((now u o).0 b)

  -- none is left
  pub all_passed : (c : ℕ) → ((u : ℕ) → OpensAt e rs v u → GoesFirst u c) → AllPassed e rs v P c →
      (u : ℕ) → OpensAt e rs v u → P u
  all_passed c none old u o = old u o (none u o)
