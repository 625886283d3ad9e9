-- Sums over junctions.
use Rattle.std.proofs.Common.{◌≡◌, ℕ, zero, suc, ◌+◌, ◌*◌, ◌<◌, ◌≤◌, ◌≢◌, Bool, cond, List, [], ◌∷◌, ◌==◌, refl, ap, ⊎_elim, arith}
use Rattle.std.specs.List.{All}
use Rattle.std.proofs.lemmas.List.Elements.{All-head, All-tail}
use Rattle.std.proofs.lemmas.Bool.{cases_eq, cases_lt}
use Rattle.std.proofs.lemmas.Bool.Decides.{nat_tests}
use Rattle.flow.specs.Net.{Arc}
use Rattle.flow.specs.Flows.{sum_of}

-- a sum over the numbers below n
abbrev pub sum_below : (ℕ → ℕ) → ℕ → ℕ
sum_below f zero = 0
sum_below f (suc n) = f n + sum_below f n

pub sum_below-same : (f h : ℕ → ℕ) (n : ℕ) → ((v : ℕ) → v < n → f v ≡ h v) → sum_below f n ≡ sum_below h n
sum_below-same f h zero each = refl
sum_below-same f h (suc n) each =
    omega (arith, each n (omega arith), sum_below-same f h n (λ v low. each v (omega arith)))

pub sum_below-le : (f h : ℕ → ℕ) (n : ℕ) → ((v : ℕ) → v < n → f v ≤ h v) → sum_below f n ≤ sum_below h n
sum_below-le f h zero each = omega arith
sum_below-le f h (suc n) each = omega (arith, each n (omega arith), sum_below-le f h n (λ v low. each v (omega arith)))

pub sum_below-add : (f h : ℕ → ℕ) (n : ℕ) → sum_below (λ v. f v + h v) n ≡ sum_below f n + sum_below h n
sum_below-add f h zero = refl
sum_below-add f h (suc n) = omega (arith, sum_below-add f h n)

pub sum_below-const : (c n : ℕ) → sum_below (λ v. c) n ≡ c * n
sum_below-const c zero = omega arith
sum_below-const c (suc n) = omega (arith, sum_below-const c n)

pub sum_below-zero : (f : ℕ → ℕ) (n : ℕ) → ((v : ℕ) → v < n → f v ≡ 0) → sum_below f n ≡ 0
sum_below-zero f n each = omega (arith, sum_below-same f (λ v. 0) n each, sum_below-const 0 n)

-- two sums that agree but at s
pub sum_below-differ : (f h : ℕ → ℕ) (s n : ℕ) → s < n → ((v : ℕ) → v < n → v ≢ s → f v ≡ h v) →
    sum_below f n + h s ≡ sum_below h n + f s
sum_below-differ f h s zero low each = absurd (omega arith)
sum_below-differ f h s (suc n) low each = ⊎_elim
    (λ (here : n ≡ s).
    let rest = sum_below-same f h n (λ v less. each v (omega arith) (omega arith)) in
    omega (arith, rest, ap f here, ap h here))
    (λ (ne : n ≢ s). further ne (λ below. sum_below-differ f h s n below (λ v less. each v (omega arith))))
    (cases_eq n s)
  where
    further : n ≢ s → (s < n → sum_below f n + h s ≡ sum_below h n + f s) →
        sum_below f (suc n) + h s ≡ sum_below h (suc n) + f s
    further ne rest = omega (arith, rest (omega arith), each n (omega arith) ne)

-- a sum to which s alone adds something
pub sum_below-one : (f : ℕ → ℕ) (s n : ℕ) → s < n → ((v : ℕ) → v < n → v ≢ s → f v ≡ 0) → sum_below f n ≡ f s
sum_below-one f s n low none = omega (arith, sum_below-differ f (λ v. 0) s n low none, sum_below-const 0 n)

-- each number adds no more than all do
pub sum_below-has : (f : ℕ → ℕ) (v n : ℕ) → v < n → f v ≤ sum_below f n
sum_below-has f v zero low = absurd (omega arith)
sum_below-has f v (suc n) low = ⊎_elim
    (λ (here : v ≡ n). let same : f v ≡ f n = ap f here in omega arith)
    (λ (ne : v ≢ n). further ne (λ below. sum_below-has f v n below)) (cases_eq v n)
  where
    further : v ≢ n → (v < n → f v ≤ sum_below f n) → f v ≤ f n + sum_below f n
    further ne rest = omega (arith, rest (omega arith))

pub sum_below-swap : (f : ℕ → ℕ → ℕ) (m n : ℕ) →
    sum_below (λ i. sum_below (f i) n) m ≡ sum_below (λ v. sum_below (λ i. f i v) m) n
sum_below-swap f zero n = omega (arith, sum_below-const 0 n)
sum_below-swap f (suc m) n = omega (arith, sum_below-swap f m n, sum_below-add (f m) (λ v. sum_below (λ i. f i v) m) n)

-- 1 where two numbers are the same, else 0
abbrev pub one_at : ℕ → ℕ → ℕ
one_at x i = cond (x == i) 1 0

pub one_at-same : (x i : ℕ) → x ≡ i → one_at x i ≡ 1
one_at-same x i same = grind (arith, nat_tests)

pub one_at-other : (x i : ℕ) → x ≢ i → one_at x i ≡ 0
one_at-other x i ne = grind (arith, nat_tests)

-- a number is at most once among those below m
at_most_once : (x m : ℕ) → sum_below (one_at x) m ≤ 1
at_most_once x m = ⊎_elim
    (λ (low : x < m).
    omega (arith, sum_below-one (one_at x) x m low (λ v less ne. one_at-other x v (omega arith)), one_at-same x x refl))
    (λ (high : m ≤ x). omega (arith, sum_below-zero (one_at x) m (λ v less. one_at-other x v (omega arith)))) (cases_lt x m)

-- where each number below m is that of some of n junctions, m is at most n
pub pigeons : (f : ℕ → ℕ) (m n : ℕ) → ((i : ℕ) → i < m → (v : ℕ) × (v < n) × (f v ≡ i)) → m ≤ n
pigeons f m n has =
    let low : sum_below (λ i. 1) m ≤ sum_below (λ i. sum_below (λ v. one_at (f v) i) n) m = sum_below-le (λ i. 1) _ m each in
    let high : sum_below (λ v. sum_below (λ i. one_at (f v) i) m) n ≤ sum_below (λ v. 1) n =
    sum_below-le _ (λ v. 1) n (λ v less. at_most_once (f v) m) in
    omega (arith, low, high, sum_below-swap (λ i v. one_at (f v) i) m n, sum_below-const 1 m, sum_below-const 1 n)
  where
    each : (i : ℕ) → i < m → 1 ≤ sum_below (λ v. one_at (f v) i) n
    each i less =
        let x : (v : ℕ) × (v < n) × (f v ≡ i) = has i less in
        omega (arith, sum_below-has (λ v. one_at (f v) i) x.0 n x.1, one_at-same (f x.0) i x.2)

-- what the reaches with an end at v add, added up over the near junctions: what the reaches whose end is near add
pub by_junction : (end amount : Arc → ℕ) (near : ℕ → Bool) (n : ℕ) (rs : List Arc) → All (λ r. end r < n) rs →
    sum_below (λ v. cond (near v) (sum_of (λ r. cond (end r == v) (amount r) 0) rs) 0) n
    ≡ sum_of (λ r. cond (near (end r)) (amount r) 0) rs
by_junction end amount near n [] low = sum_below-zero _ n (λ v less. grind arith)
by_junction end amount near n (r ∷ rs) low =
    let here : ℕ → ℕ = λ v. cond (near v) (cond (end r == v) (amount r) 0) 0 in
    let rest : ℕ → ℕ = λ v. cond (near v) (sum_of (λ q. cond (end q == v) (amount q) 0) rs) 0 in
    let at : ℕ → ℕ = λ v. sum_of (λ q. cond (end q == v) (amount q) 0) rs in
    let both : ℕ → ℕ = λ v. cond (near v) (cond (end r == v) (amount r) 0 + at v) 0 in
    let split : sum_below both n ≡ sum_below (λ v. here v + rest v) n = sum_below-same both _ n (λ v less. grind arith) in
    let one : sum_below here n ≡ here (end r) =
    sum_below-one here (end r) n (All-head (λ q. end q < n) r rs low) (λ v less ne. grind (arith, nat_tests)) in
    let is : here (end r) ≡ cond (near (end r)) (amount r) 0 = grind (arith, nat_tests) in
    let tail = by_junction end amount near n rs (All-tail (λ q. end q < n) r rs low) in
    omega (arith, split, one, is, tail, sum_below-add here rest n)
