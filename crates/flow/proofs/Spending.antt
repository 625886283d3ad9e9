-- Each push along which labels fall leaves one reach fewer with an admissible step.
use Rattle.std.proofs.Common.{◌≡◌, ℕ, ◌+◌, ◌<◌, ◌≤◌, ◌≢◌, ◌⊎◌, min, Bool, true, false, ◌&&◌, ◌||◌, List, [], ◌∷◌, length, ◌==◌, refl, ◌∙◌, subst, inl, inr, ⊎_elim, arith}
use Rattle.std.specs.Prelude.{nat_lt, slice_index_or}
use Rattle.std.proofs.lemmas.Bool.{cases_lt}
use Rattle.std.proofs.lemmas.Bool.Decides.{nat_tests}
use Rattle.flow.specs.Net.{Arc, Net}
use Rattle.flow.specs.Steps.{along_reach, goes_back, arc_of, begins_at, finishes_at, headroom_at, finishes, headroom, IsOpen}
use Rattle.flow.specs.Flows.{sum_of}
use Rattle.flow.specs.Changes.{carrying}
use Rattle.flow.specs.Pushes.{least_headroom, amount_after, shifted, shifted_along, pushed}
use Rattle.flow.proofs.Sums.{sum_of-le, sum_of-set, tick, tick-le}
use Rattle.flow.proofs.Walks.{open_in}
use Rattle.flow.proofs.Pushing.{Off, headroom-kept}
use Rattle.flow.proofs.Labelling.{FallsAt, Falls, IsDescent, descent_rest, apart_from_fall}

-- whether a step along a reach is admissible, by the way along it; whether either step along it is
abbrev pub admissible_at : (ℕ → ℕ) → Bool → Arc → Bool
admissible_at label back r = nat_lt 0 (headroom_at back r) && (label (begins_at back r) == label (finishes_at back r) + 1)

abbrev pub is_live : (ℕ → ℕ) → Arc → Bool
is_live label r = admissible_at label false r || admissible_at label true r

-- how many reaches have an admissible step
abbrev pub live_count : (ℕ → ℕ) → List Arc → ℕ
live_count label rs = sum_of (λ r. tick (is_live label r)) rs

pub live_count-le : (label : ℕ → ℕ) (rs : List Arc) → live_count label rs ≤ length rs
live_count-le label rs =
    let each = λ (k : ℕ) (d : Arc) (low : k < length rs). tick-le (is_live label (slice_index_or rs k d)) in
    omega (arith, sum_of-le (λ r. tick (is_live label r)) 1 rs each)

-- a reach with an admissible step is live
live_here : (label : ℕ → ℕ) (back : Bool) (r : Arc) → 0 < headroom_at back r → FallsAt label back r →
    tick (is_live label r) ≡ 1
live_here label true r opens falls = grind (arith, nat_tests)
live_here label false r opens falls = grind (arith, nat_tests)

-- and is so no more when all that the step can take is shifted along it
spent_here : (label : ℕ → ℕ) (back : Bool) (r : Arc) (d : ℕ) → headroom_at back r ≡ d → FallsAt label back r →
    tick (is_live label (carrying (amount_after d back r) r)) ≡ 0
spent_here label true r d all falls = grind (arith, nat_tests)
spent_here label false r d all falls = grind (arith, nat_tests)

-- one step: no more reaches are live, and fewer where all that it can take is shifted along it
live_shifted : (label : ℕ → ℕ) (d : ℕ) (rs : List Arc) (s : ℕ) → IsOpen rs s → Falls label rs s →
    live_count label (shifted d rs s) ≤ live_count label rs
live_shifted label d rs s opens falls =
    let r : Arc = carrying (amount_after d (goes_back s) (arc_of rs s)) (arc_of rs s) in
    let sums = sum_of-set (λ q. tick (is_live label q)) rs (along_reach s) r (open_in rs s opens) in
    omega (arith, sums, live_here label (goes_back s) (arc_of rs s) opens falls, tick-le (is_live label r))

live_spent : (label : ℕ → ℕ) (d : ℕ) (rs : List Arc) (s : ℕ) → IsOpen rs s → Falls label rs s → headroom rs s ≡ d →
    live_count label (shifted d rs s) < live_count label rs
live_spent label d rs s opens falls all =
    let r : Arc = carrying (amount_after d (goes_back s) (arc_of rs s)) (arc_of rs s) in
    let sums = sum_of-set (λ q. tick (is_live label q)) rs (along_reach s) r (open_in rs s opens) in
    let was = live_here label (goes_back s) (arc_of rs s) opens falls in
    let is = spent_here label (goes_back s) (arc_of rs s) d all falls in
    omega arith

-- the steps of a descent
live_along : (label : ℕ → ℕ) (d : ℕ) (rs : List Arc) (from : ℕ) (ss : List ℕ) (to : ℕ) → IsDescent label rs from ss to →
    live_count label (shifted_along d rs ss) ≤ live_count label rs
live_along label d rs from [] to down = omega arith
live_along label d rs from (s ∷ ss) to down =
    let rest = live_along label d (shifted d rs s) (finishes rs s) ss to (descent_rest d label rs from s ss to down) in
    omega (arith, live_shifted label d rs s down.walk.1 down.falls.0)

-- some step of a list can take d litres and no more
abbrev Takes : ℕ → List Arc → List ℕ → Type 0
Takes d rs [] = ⊥
Takes d rs (s ∷ ss) = (headroom rs s ≡ d) ⊎ Takes d rs ss

Takes-kept : (d : ℕ) (rs : List Arc) (s : ℕ) (ss : List ℕ) → Off s ss → Takes d rs ss → Takes d (shifted d rs s) ss
Takes-kept d rs s [] off takes = takes
Takes-kept d rs s (t ∷ ts) off (inl here) = inl (headroom-kept d rs s t off.0 ∙ here)
Takes-kept d rs s (t ∷ ts) off (inr there) = inr (Takes-kept d rs s ts off.1 there)

min_cases : (m n : ℕ) → (m ≡ min m n) ⊎ (n ≡ min m n)
min_cases m n = ⊎_elim (λ (low : m < n). inl (omega arith)) (λ (high : n ≤ m). inr (omega arith)) (cases_lt m n)

Takes-least : (rs : List Arc) (s : ℕ) (ss : List ℕ) → Takes (least_headroom rs (s ∷ ss)) rs (s ∷ ss)
Takes-least rs s [] = inl refl
Takes-least rs s (t ∷ ts) = either (min_cases (headroom rs s) least) (Takes-least rs t ts)
  where
    least : ℕ
    least = least_headroom rs (t ∷ ts)

    either : (headroom rs s ≡ min (headroom rs s) least) ⊎ (least ≡ min (headroom rs s) least) → Takes least rs (t ∷ ts) →
        Takes (min (headroom rs s) least) rs (s ∷ (t ∷ ts))
    either (inl here) rest = inl here
    either (inr there) rest = inr (subst (λ d. Takes d rs (t ∷ ts)) there rest)

spent_along : (label : ℕ → ℕ) (d : ℕ) (rs : List Arc) (from : ℕ) (ss : List ℕ) (to : ℕ) → IsDescent label rs from ss to →
    Takes d rs ss → live_count label (shifted_along d rs ss) < live_count label rs
spent_along label d rs from [] to down takes = absurd takes
spent_along label d rs from (s ∷ ss) to down (inl here) =
    let rest = live_along label d (shifted d rs s) (finishes rs s) ss to (descent_rest d label rs from s ss to down) in
    omega (arith, live_spent label d rs s down.walk.1 down.falls.0 here)
spent_along label d rs from (s ∷ ss) to down (inr there) =
    let apart = apart_from_fall label rs from (s ∷ ss) to down.walk down.falls in
    let rest = spent_along label d (shifted d rs s) (finishes rs s) ss to (descent_rest d label rs from s ss to down)
    (Takes-kept d rs s ss apart.0 there) in
    omega (arith, live_shifted label d rs s down.walk.1 down.falls.0)

pub spent_pushed : (g : Net) (label : ℕ → ℕ) (ss : List ℕ) → g.intake ≢ g.outfall →
    IsDescent label g.reaches g.intake ss g.outfall → live_count label (pushed ss g).reaches < live_count label g.reaches
spent_pushed g label [] differ down = absurd (differ down.walk)
spent_pushed g label (s ∷ ss) differ down =
    spent_along label (least_headroom g.reaches (s ∷ ss)) g.reaches g.intake (s ∷ ss) g.outfall down
    (Takes-least g.reaches s ss)
