-- The open steps at a junction go along the reaches that touch it, and along each reach there is at most one.
use Rattle.std.proofs.Common.{◌≡◌, ℕ, ◌+◌, ◌*◌, ◌/◌, ◌<◌, ◌≤◌, ◌≢◌, ◌⊎◌, ◌↔◌, Bool, true, false, List, Some, None, refl, sym, ap, ◌∙◌, subst, inl, inr, ⊎_elim, arith}
use Rattle.std.specs.List.{All}
use Rattle.std.proofs.lemmas.List.Elements.{All-get_or}
use Rattle.std.proofs.lemmas.Bool.{cases_eq, cases_lt}
use Rattle.std.proofs.lemmas.Bool.Decides.{nat_tests}
use Rattle.flow.specs.Net.{Arc, no_arc, arc_at, Joined}
use Rattle.flow.specs.Steps.{along_reach, goes_back, arc_of}
use Rattle.flow.specs.Routes.{GoesFirst}
use Rattle.flow.proofs.Walks.{open_in}
use Rattle.network.specs.Touching.{Touches, Touched}
use Rattle.routes.specs.declared.step.StepEnd.{StepEnd}
use Rattle.routes.specs.declared.step.StepEnd.TheVariants.{Begin, Finish}
use Rattle.routes.specs.declared.step.OpenStep.{OpenStep}
use Rattle.routes.specs.Ends.{end_at_way, OpensAt}
use Rattle.routes.specs.Going.{TheOpen, FirstFrom}

-- a reach touches the ends of its steps
end_touches : (e : StepEnd) (back : Bool) (r : Arc) → Touches (end_at_way e back r) r
end_touches Begin true r = inr refl
end_touches Begin false r = inl refl
end_touches Finish true r = inl refl
end_touches Finish false r = inr refl

-- the two ways along a reach have different ends at a junction
ends_apart : (e : StepEnd) (b c : Bool) (r : Arc) → r.tail ≢ r.head → end_at_way e b r ≡ end_at_way e c r → b ≡ c
ends_apart e true true r ne same = refl
ends_apart e false false r ne same = refl
ends_apart Begin true false r ne same = absurd (ne (sym same))
ends_apart Begin false true r ne same = absurd (ne same)
ends_apart Finish true false r ne same = absurd (ne same)
ends_apart Finish false true r ne same = absurd (ne (sym same))

module _ (n : ℕ) (rs : List Arc) (joined : All (Joined n) rs) (e : StepEnd) (v : ℕ) where
  opens_touches : (s : ℕ) → OpensAt e rs v s → Touches v (arc_of rs s)
  opens_touches s o = subst (λ u. Touches u (arc_of rs s)) o.there (end_touches e (goes_back s) (arc_of rs s))

  pub one_open : (s t : ℕ) → OpensAt e rs v s → OpensAt e rs v t → along_reach s ≡ along_reach t → s ≡ t
  one_open s t o p same =
      let j = All-get_or (Joined n) rs (along_reach s) no_arc (open_in rs s o.opens) joined in
      let there : end_at_way e (goes_back t) (arc_of rs s) ≡ v =
      ap (λ k. end_at_way e (goes_back t) (arc_at rs k)) same ∙ p.there in
      let way : goes_back s ≡ goes_back t =
      ends_apart e (goes_back s) (goes_back t) (arc_of rs s) j.2 (o.there ∙ sym there) in
      grind (arith, nat_tests)

  -- of the steps from `first` on, that along the next reach that touches the junction
  module _ (c first k : ℕ) (passed : (t : ℕ) → OpensAt e rs v t → GoesFirst t first → GoesFirst t c)
      (touched : Touched v rs (first / 2) (Some k)) where
    before : (u : ℕ) → OpensAt e rs v u → along_reach u < k → GoesFirst u c
    before u o low = ⊎_elim (λ (behind : along_reach u < first / 2). passed u o (omega arith))
        (λ (from : first / 2 ≤ along_reach u). absurd (touched.3 (along_reach u) from low (opens_touches u o)))
        (cases_lt (along_reach u) (first / 2))

    module _ (x : OpenStep) (is : TheOpen rs e v k (Some x)) where
      just_passed : (u : ℕ) → OpensAt e rs v u → GoesFirst u (2 * k + 2) → GoesFirst u c ⊎ (u ≡ x.number)
      just_passed u o low = ⊎_elim (λ (here : along_reach u ≡ k). inr (one_open u x.number o is.1 (here ∙ sym is.2)))
          (λ (ne : along_reach u ≢ k). inl (before u o (omega arith))) (cases_eq (along_reach u) k)

      pub passed_now : c ≤ first → (u : ℕ) → OpensAt e rs v u →
          (GoesFirst u (2 * k + 2) ↔ GoesFirst u c ⊎ (u ≡ x.number))
      passed_now onward u o = (
        just_passed u o,
        λ h. ⊎_elim (λ (b : GoesFirst u c). let f = touched.0 in omega arith)
            (λ (same : u ≡ x.number). let there : x.number / 2 ≡ k = is.2 in omega arith) h,
      )

      pub first_given : c ≤ first → first ≤ x.number → FirstFrom (OpensAt e rs v) rs c (Some x)
      first_given onward from = (
        is.0,
        is.1,
        λ b. omega arith,
        λ u o b. ⊎_elim (λ (low : GoesFirst u c). low) (λ (same : u ≡ x.number). absurd (omega arith))
            (just_passed u o (let there : x.number / 2 ≡ k = is.2 in omega arith)),
      )

  -- and where no other reach touches it, there is no other step
  pub none_left : (c first : ℕ) → ((t : ℕ) → OpensAt e rs v t → GoesFirst t first → GoesFirst t c) →
      Touched v rs (first / 2) None → (t : ℕ) → OpensAt e rs v t → GoesFirst t c
  none_left c first passed none t o = ⊎_elim (λ (behind : along_reach t < first / 2). passed t o (omega arith))
      (λ (from : first / 2 ≤ along_reach t). absurd (none (along_reach t) from (open_in rs t o.opens) (opens_touches t o)))
      (cases_lt (along_reach t) (first / 2))
