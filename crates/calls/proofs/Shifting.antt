-- Pushing a route, step by step.
use Rattle.std.proofs.Common.{◌≡◌, ℕ, zero, suc, ◌+◌, ◌<◌, ◌≤◌, min, List, [], ◌∷◌, ◌++◌, length, take, get_or, Some, None, Option, MatchOption, refl, sym, ap, ◌∙◌, arith, add-one}
use Rattle.flow.specs.Net.{Arc}
use Rattle.flow.specs.Steps.{finishes, headroom, IsOpen}
use Rattle.flow.specs.Pushes.{least_headroom, shifted, shifted_along}
use Rattle.flow.proofs.Pushing.{CanTake, CanTake-rest}

-- the least headroom on steps, or nothing where there is no step
abbrev pub LeastOf : List Arc → List ℕ → Option ℕ → Type 0
LeastOf rs ss None = ss ≡ []
LeastOf rs ss (Some l) = (l ≡ least_headroom rs ss) × (0 < length ss)

-- one step more at the end
least_push : (rs : List Arc) (s : ℕ) (ss : List ℕ) (t : ℕ) →
    least_headroom rs ((s ∷ ss) ++ t ∷ []) ≡ min (least_headroom rs (s ∷ ss)) (headroom rs t)
least_push rs s [] t = refl
least_push rs s (u ∷ ss) t = let rest = least_push rs u ss t in omega arith

pub least_of_more : (rs : List Arc) (ss : List ℕ) (t : ℕ) (least : Option ℕ) (y : ℕ) → LeastOf rs ss least →
    MatchOption least (y ≡ headroom rs t) (λ l. y ≡ min l (headroom rs t)) → LeastOf rs (ss ++ t ∷ []) (Some y)
least_of_more rs [] t None y h is = (is, omega arith)
least_of_more rs (s ∷ ss) t None y h is = absurd (let z : length (s ∷ ss) ≡ 0 = ap length h in omega arith)
least_of_more rs [] t (Some l) y h is = absurd (omega (arith, h.1))
least_of_more rs (s ∷ ss) t (Some l) y h is = (is ∙ ap (λ m. min m (headroom rs t)) h.0 ∙ sym (least_push rs s ss t), omega arith)

module _ (d : ℕ) where
  -- one step more is shifted along
  along_suc : (rs : List Arc) (ss : List ℕ) (i : ℕ) → i < length ss →
      shifted_along d rs (take (suc i) ss) ≡ shifted d (shifted_along d rs (take i ss)) (get_or ss i 0)
  along_suc rs [] i low = absurd (omega arith)
  along_suc rs (s ∷ ss) zero low = refl
  along_suc rs (s ∷ ss) (suc i) low = along_suc (shifted d rs s) ss i (omega arith)

  pub along_more : (rs : List Arc) (ss : List ℕ) (i : ℕ) → i < length ss →
      shifted_along d rs (take (i + 1) ss) ≡ shifted d (shifted_along d rs (take i ss)) (get_or ss i 0)
  along_more rs ss i low = rw add-one (along_suc rs ss i low)

  -- and can be: it is open still, and has room for the litres
  pub can_shift : (rs : List Arc) (from : ℕ) (ss : List ℕ) (to i : ℕ) → CanTake d rs from ss to → i < length ss →
      IsOpen (shifted_along d rs (take i ss)) (get_or ss i 0) × (d ≤ headroom (shifted_along d rs (take i ss)) (get_or ss i 0))
  can_shift rs from [] to i can low = absurd (omega arith)
  can_shift rs from (s ∷ ss) to zero can low = (can.walk.1, can.roomy.0)
  can_shift rs from (s ∷ ss) to (suc i) can low =
      can_shift (shifted d rs s) (finishes rs s) ss to i (CanTake-rest d rs from s ss to can) (omega arith)
