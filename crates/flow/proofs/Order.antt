-- The order in which of two steps one goes first. Other proofs rest on what is proved here of it, and not on its text.
use Rattle.std.proofs.Common.{◌≡◌, ℕ, zero, suc, ◌<◌, ◌⊎◌, Bool, true, false, List, [], ◌∷◌, length, refl, ap₂, inl, inr, ⊎_elim, arith}
use Rattle.std.proofs.lemmas.Bool.{cases_order, cases_eq, cases_Bool, both_ways}
use Rattle.std.specs.Bool.{Decides}
use Rattle.std.specs.Prelude.{nat_lt}
use Rattle.std.proofs.lemmas.Bool.Decides.{Decides-ltb}
use Rattle.flow.specs.Routes.{GoesFirst, IsNoLater}

pub GoesFirst-cases : (s t : ℕ) → (s ≡ t) ⊎ (GoesFirst s t ⊎ GoesFirst t s)
GoesFirst-cases s t = either (cases_order s t)
  where
    either : (s ≡ t) ⊎ ((s < t) ⊎ (t < s)) → (s ≡ t) ⊎ (GoesFirst s t ⊎ GoesFirst t s)
    either (inl same) = inl same
    either (inr (inl below)) = inr (inl (omega arith))
    either (inr (inr above)) = inr (inr (omega arith))

pub GoesFirst-asym : (s t : ℕ) → GoesFirst s t → ¬ GoesFirst t s
GoesFirst-asym s t one other = omega arith

pub GoesFirst-trans : (s t u : ℕ) → GoesFirst s t → GoesFirst t u → GoesFirst s u
GoesFirst-trans s t u one other = omega arith

-- two lists of one length of which neither is later than the other are the same
pub IsNoLater-both : (ss ts : List ℕ) → length ss ≡ length ts → IsNoLater ss ts → IsNoLater ts ss → ss ≡ ts
IsNoLater-both [] [] same p q = refl
IsNoLater-both [] (t ∷ ts) same p q = absurd (omega arith)
IsNoLater-both (s ∷ ss) [] same p q = absurd p
IsNoLater-both (s ∷ ss) (t ∷ ts) same (inl p) (inl q) = absurd (GoesFirst-asym s t p q)
IsNoLater-both (s ∷ ss) (t ∷ ts) same (inl p) (inr q) = absurd (GoesFirst-asym s t p (rw q.0 (rw q.0 at p)))
IsNoLater-both (s ∷ ss) (t ∷ ts) same (inr p) (inl q) = absurd (GoesFirst-asym t s q (rw p.0 (rw p.0 at q)))
IsNoLater-both (s ∷ ss) (t ∷ ts) same (inr p) (inr q) = ap₂ ◌∷◌ p.0 (IsNoLater-both ss ts (omega arith) p.1 q.1)

-- none of the numbers below n that pass a test goes before s
abbrev NoneBefore : (ℕ → Bool) → ℕ → ℕ → Type 0
NoneBefore p n s = (t : ℕ) → t < n → p t ≡ true → ¬ GoesFirst t s

-- and s is one of them
pub record FirstBelow (p : ℕ → Bool) (n s : ℕ) : Type 0 where
  pub low : s < n
  pub passes : p s ≡ true
  pub first : NoneBefore p n s

-- what holds of n and of the numbers below n holds of those below n + 1
one_more : (P : ℕ → Type 0) (n : ℕ) → P n → ((t : ℕ) → t < n → P t) → (t : ℕ) → t < suc n → P t
one_more P n at below t low =
    ⊎_elim (λ (same : t ≡ n). rw same at) (λ (ne : t ≡ n → ⊥). below t (omega arith)) (cases_eq t n)

module _ (p : ℕ → Bool) (n : ℕ) where
  older : (s : ℕ) → FirstBelow p n s → (p n ≡ true → ¬ GoesFirst n s) → (s : ℕ) × FirstBelow p (suc n) s
  older s is not_n =
      let first = one_more (λ t. p t ≡ true → ¬ GoesFirst t s) n not_n is.first in
      (s, record { low = omega (arith, is.low); passes = is.passes; first = first })

  newest : p n ≡ true → NoneBefore p n n → (s : ℕ) × FirstBelow p (suc n) s
  newest here none =
      let first = one_more (λ t. p t ≡ true → ¬ GoesFirst t n) n (λ also b. GoesFirst-asym n n b b) none in
      (n, record { low = omega arith; passes = here; first = first })

-- either there is a first one, or none passes
pub first_below : (p : ℕ → Bool) (n : ℕ) → ((s : ℕ) × FirstBelow p n s) ⊎ ((t : ℕ) → t < n → p t ≡ false)
first_below p zero = inr (λ t low. absurd (omega arith))
first_below p (suc n) = either (first_below p n) (cases_Bool (p n))
  where
    ordered : (s : ℕ) → FirstBelow p n s → p n ≡ true → (n ≡ s) ⊎ (GoesFirst n s ⊎ GoesFirst s n) →
        (s : ℕ) × FirstBelow p (suc n) s
    ordered s is here (inl same) = absurd (omega (arith, is.low))
    ordered s is here (inr (inl before)) =
        newest p n here (λ t low also b. is.first t low also (GoesFirst-trans t n s b before))
    ordered s is here (inr (inr behind)) = older p n s is (λ also. GoesFirst-asym s n behind)

    either : ((s : ℕ) × FirstBelow p n s) ⊎ ((t : ℕ) → t < n → p t ≡ false) → (p n ≡ true) ⊎ (p n ≡ false) →
        ((s : ℕ) × FirstBelow p (suc n) s) ⊎ ((t : ℕ) → t < suc n → p t ≡ false)
    either (inl (s, is)) (inl here) = inl (ordered s is here (GoesFirst-cases n s))
    either (inl (s, is)) (inr fails) = inl (older p n s is (λ here b. both_ways (p n) fails here))
    either (inr none) (inl here) = inl (newest p n here (λ t low also b. both_ways (p t) (none t low) also))
    either (inr none) (inr fails) = inr (one_more (λ t. p t ≡ false) n fails none)

-- the order as a test
abbrev pub goes_first : ℕ → ℕ → Bool
goes_first s t = nat_lt s t

pub goes_first-decides : (s t : ℕ) → Decides (goes_first s t) (GoesFirst s t)
goes_first-decides s t = Decides-ltb s t
