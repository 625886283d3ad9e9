-- Sums over reaches.
use Rattle.std.proofs.Common.{◌≡◌, ℕ, zero, suc, ◌+◌, ◌*◌, ◌<◌, ◌≤◌, ◌≢◌, List, [], ◌∷◌, ◌++◌, map, length, set, Bool, true, false, cond, refl, ap, ⊎_elim, arith}
use Rattle.std.specs.List.{All}
use Rattle.std.proofs.lemmas.List.Elements.{All-nil, All-cons, All-head, All-tail, All-from_get_or}
use Rattle.std.proofs.lemmas.List.{set_past}
use Rattle.std.proofs.lemmas.Bool.{cases_lt}
use Rattle.std.proofs.lemmas.Bool.Decides.{nat_tests}
use Rattle.flow.specs.Net.{Arc, no_arc, arc_at}
use Rattle.flow.specs.Flows.{sum_of, out_of, into}

-- a sum of numbers that are at most c each
pub sum_of-le : (f : Arc → ℕ) (c : ℕ) (rs : List Arc) → All (λ r. f r ≤ c) rs → sum_of f rs ≤ c * length rs
sum_of-le f c [] h = omega arith
sum_of-le f c (r ∷ rs) h = omega (arith, h 0 no_arc (omega arith), sum_of-le f c rs (λ k d low. h (suc k) d (omega arith)))

-- what passes an end of a reach is at most what it carries
pub out_of-le : (v : ℕ) (r : Arc) → out_of v r ≤ r.carried
out_of-le v r = grind (arith, nat_tests)

pub into-le : (v : ℕ) (r : Arc) → into v r ≤ r.carried
into-le v r = grind (arith, nat_tests)

-- a sum of nothing
pub sum_of-none : (f : Arc → ℕ) (g : Arc → Arc) (rs : List Arc) → ((r : Arc) → f (g r) ≡ 0) → sum_of f (map g rs) ≡ 0
sum_of-none f g [] h = refl
sum_of-none f g (r ∷ rs) h = omega (arith, h r, sum_of-none f g rs h)

-- a sum over two lists
pub sum_of-append : (f : Arc → ℕ) (rs others : List Arc) → sum_of f (rs ++ others) ≡ sum_of f rs + sum_of f others
sum_of-append f [] others = omega arith
sum_of-append f (r ∷ rs) others = omega (arith, sum_of-append f rs others)

-- two sums of which each reach adds the same
pub sum_of-same : (f h : Arc → ℕ) (rs : List Arc) → All (λ r. f r ≡ h r) rs → sum_of f rs ≡ sum_of h rs
sum_of-same f h [] each = refl
sum_of-same f h (r ∷ rs) each =
    omega (arith, each 0 no_arc (omega arith), sum_of-same f h rs (λ k d low. each (suc k) d (omega arith)))

-- a sum to which no reach adds anything
pub sum_of-zero : (f : Arc → ℕ) (rs : List Arc) → All (λ r. f r ≡ 0) rs → sum_of f rs ≡ 0
sum_of-zero f [] each = refl
sum_of-zero f (r ∷ rs) each =
    omega (arith, each 0 no_arc (omega arith), sum_of-zero f rs (λ k d low. each (suc k) d (omega arith)))

-- a sum to which reach e alone adds something
pub sum_of-one : (f : Arc → ℕ) (rs : List Arc) (e : ℕ) → e < length rs →
    ((i : ℕ) → i < length rs → i ≢ e → f (arc_at rs i) ≡ 0) → sum_of f rs ≡ f (arc_at rs e)
sum_of-one f [] e low none = absurd (omega arith)
sum_of-one f (r ∷ rs) zero low none =
    let rest = sum_of-zero f rs (All-from_get_or (λ x. f x ≡ 0) rs no_arc (λ i less. none (suc i) (omega arith) (omega arith))) in
    omega (arith, rest)
sum_of-one f (r ∷ rs) (suc e) low none =
    let first = none 0 (omega arith) (omega arith) in
    omega (arith, first, sum_of-one f rs e (omega arith) (λ i less ne. none (suc i) (omega arith) (λ same. ne (omega arith))))

-- a sum when reach k of the list has become another
pub sum_of-set : (f : Arc → ℕ) (rs : List Arc) (k : ℕ) (r : Arc) → k < length rs →
    sum_of f (set rs k r) + f (arc_at rs k) ≡ sum_of f rs + f r
sum_of-set f [] k r low = absurd (omega arith)
sum_of-set f (q ∷ rs) zero r low = omega arith
sum_of-set f (q ∷ rs) (suc k) r low = omega (arith, sum_of-set f rs k r (omega arith))

-- a sum to which the new reach adds what the old one added
pub sum_of-set_same : (f : Arc → ℕ) (rs : List Arc) (k : ℕ) (r : Arc) → f r ≡ f (arc_at rs k) →
    sum_of f (set rs k r) ≡ sum_of f rs
sum_of-set_same f rs k r same = ⊎_elim
    (λ (low : k < length rs). omega (arith, sum_of-set f rs k r low))
    (λ (past : length rs ≤ k). ap (sum_of f) (set_past rs k r past)) (cases_lt k (length rs))

-- a sum of which each reach adds no more than to another
pub sum_of-below : (f h : Arc → ℕ) (P : Arc → Type 0) → ((r : Arc) → P r → f r ≤ h r) → (rs : List Arc) → All P rs →
    sum_of f rs ≤ sum_of h rs
sum_of-below f h P le [] all = omega arith
sum_of-below f h P le (r ∷ rs) all =
    omega (arith, le r (All-head P r rs all), sum_of-below f h P le rs (All-tail P r rs all))

-- a sum over other reaches, made one by one
pub sum_of-map : (f : Arc → ℕ) (g : Arc → Arc) (rs : List Arc) → sum_of f (map g rs) ≡ sum_of (λ r. f (g r)) rs
sum_of-map f g [] = refl
sum_of-map f g (r ∷ rs) = omega (arith, sum_of-map f g rs)

-- where the two sums are the same, each reach adds the same to both
pub sum_of-tight : (f h : Arc → ℕ) (P : Arc → Type 0) → ((r : Arc) → P r → f r ≤ h r) → (rs : List Arc) → All P rs →
    sum_of f rs ≡ sum_of h rs → All (λ r. f r ≡ h r) rs
sum_of-tight f h P le [] all same = All-nil (λ r. f r ≡ h r)
sum_of-tight f h P le (r ∷ rs) all same =
    let first = le r (All-head P r rs all) in
    let rest = sum_of-below f h P le rs (All-tail P r rs all) in
    All-cons (λ q. f q ≡ h q) r rs (omega arith) (sum_of-tight f h P le rs (All-tail P r rs all) (omega arith))

-- 1 for yes, 0 for no
abbrev pub tick : Bool → ℕ
tick b = cond b 1 0

pub tick-le : (b : Bool) → tick b ≤ 1
tick-le true = omega arith
tick-le false = omega arith
