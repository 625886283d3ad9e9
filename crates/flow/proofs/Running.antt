-- How long routes are that are pushed one after another, and how many.
use Rattle.std.proofs.Common.{◌≡◌, ℕ, zero, suc, ◌+◌, ◌-◌, ◌*◌, ◌<◌, ◌≤◌, ◌≢◌, List, [], ◌∷◌, length, ◌==◌, refl, sym, ◌∙◌, subst, ⊎_elim, arith}
use Rattle.std.specs.List.{All, count_by}
use Rattle.std.specs.List.Sorted.{IsNonDecreasingBy}
use Rattle.std.proofs.lemmas.List.Elements.{All-nil, All-cons, All-head, All-tail, All-weaker}
use Rattle.std.proofs.lemmas.List.Recursion.{is_count_by}
use Rattle.std.proofs.lemmas.Bool.{cases_eq}
use Rattle.std.proofs.lemmas.Bool.Decides.{nat_tests}
use Rattle.flow.specs.Net.{Net, Shaped}
use Rattle.flow.specs.Routes.{IsRoute, IsShortest}
use Rattle.flow.specs.Pushes.{pushed, EachPushed}
use Rattle.flow.specs.Labels.{Labels}
use Rattle.flow.specs.RouteLaws.{IsBounded}
use Rattle.flow.proofs.Junctions.{sum_below, sum_below-le, sum_below-add, sum_below-zero, sum_below-const, sum_below-one, one_at, one_at-same, one_at-other}
use Rattle.flow.proofs.Likeness.{bare-alike, length-alike, Shaped-alike}
use Rattle.flow.proofs.Pushing.{Alike-pushed}
use Rattle.flow.proofs.Labelling.{IsDescent, labels_bound, descent_from_length, labels_pushed}
use Rattle.flow.proofs.Spending.{live_count, live_count-le, spent_pushed}
use Rattle.flow.proofs.Distances.{shortest_labels, shortest_length}

-- a route is at least as long as the label of the intake says, and falls at each step where it is just as long
module _ (g : Net) (label : ℕ → ℕ) (h : Labels g label) (ss : List ℕ) (r : IsRoute g ss) where
  no_shorter : label g.intake ≤ length ss
  no_shorter = omega (arith, labels_bound g label h g.intake ss g.outfall r, h.outfall)

  pub descent_along : label g.intake ≡ length ss → IsDescent label g.reaches g.intake ss g.outfall
  descent_along tight = descent_from_length g label h g.intake ss g.outfall r (omega (arith, tight, h.outfall))

-- labels as long as a route are labels still when it is pushed
still_labels : (g : Net) (label : ℕ → ℕ) (ss : List ℕ) → Labels g label → IsRoute g ss → label g.intake ≡ length ss →
    Labels (pushed ss g) label
still_labels g label ss h r tight = labels_pushed g label ss (descent_along g label h ss r tight).falls h

-- no route that is pushed later is shorter than the labels at the start say
none_shorter : (g : Net) (label : ℕ → ℕ) (routes : List (List ℕ)) → Labels g label → EachPushed IsShortest g routes →
    All (λ ss. label g.intake ≤ length ss) routes
none_shorter g label [] h each = All-nil (λ ss. label g.intake ≤ length ss)
none_shorter g label (ss ∷ more) h each =
    let x = shortest_labels g ss each.0 in
    let first = no_shorter g label h ss each.0.route in
    let rest = none_shorter (pushed ss g) x.0 more (still_labels g x.0 ss x.1 each.0.route x.2) each.1 in
    All-cons (λ ts. label g.intake ≤ length ts) ss more first
    (All-weaker (λ ts. x.0 g.intake ≤ length ts) (λ ts. label g.intake ≤ length ts) (λ ts le. omega (arith, x.2)) more rest)

-- nor shorter than a route pushed before
later_longer : (g : Net) (ss : List ℕ) (more : List (List ℕ)) → IsShortest g ss → EachPushed IsShortest (pushed ss g) more →
    All (λ ts. length ss ≤ length ts) more
later_longer g ss more is each =
    let x = shortest_labels g ss is in
    let rest = none_shorter (pushed ss g) x.0 more (still_labels g x.0 ss x.1 is.route x.2) each in
    All-weaker (λ ts. x.0 g.intake ≤ length ts) (λ ts. length ss ≤ length ts) (λ ts le. omega (arith, x.2)) more rest

rising : (g : Net) (routes : List (List ℕ)) → EachPushed IsShortest g routes → IsNonDecreasingBy length routes
rising g [] each i j d le low = absurd (omega arith)
rising g (ss ∷ more) each zero zero d le low = omega arith
rising g (ss ∷ more) each zero (suc j) d le low = later_longer g ss more each.0 each.1 j d (omega arith)
rising g (ss ∷ more) each (suc i) zero d le low = absurd (omega arith)
rising g (ss ∷ more) each (suc i) (suc j) d le low = rising (pushed ss g) more each.1 i j d (omega arith) (omega arith)

-- how many of the routes have the length l
abbrev sharing : ℕ → List (List ℕ) → ℕ
sharing l [] = 0
sharing l (ss ∷ more) = one_at (length ss) l + sharing l more

sharing-is : (l : ℕ) (routes : List (List ℕ)) → sharing l routes ≡ count_by (λ ss. length ss == l) routes
sharing-is l = is_count_by (sharing l) (λ ss. length ss == l) refl (λ ss more. grind (arith, nat_tests))

sharing-none : (l : ℕ) (routes : List (List ℕ)) → All (λ ss. l < length ss) routes → sharing l routes ≡ 0
sharing-none l [] longer = refl
sharing-none l (ss ∷ more) longer =
    let first = All-head (λ ts. l < length ts) ss more longer in
    let rest = sharing-none l more (All-tail (λ ts. l < length ts) ss more longer) in
    omega (arith, one_at-other (length ss) l (omega arith))

-- as many routes as have the length that the labels say, so many reaches at least have an admissible step: each of the
-- routes spends one
sharing-live : (g : Net) (label : ℕ → ℕ) (routes : List (List ℕ)) → g.intake ≢ g.outfall → Labels g label →
    EachPushed IsShortest g routes → sharing (label g.intake) routes ≤ live_count label g.reaches
sharing-live g label [] differ h each = omega arith
sharing-live g label (ss ∷ more) differ h each = ⊎_elim
    (λ (tight : label g.intake ≡ length ss).
    spent tight (sharing-live (pushed ss g) label more differ (still_labels g label ss h each.0.route tight) each.1))
    (λ (ne : label g.intake ≡ length ss → ⊥). longer ne) (cases_eq (label g.intake) (length ss))
  where
    l : ℕ
    l = label g.intake

    spent : l ≡ length ss → sharing l more ≤ live_count label (pushed ss g).reaches →
        sharing l (ss ∷ more) ≤ live_count label g.reaches
    spent tight rest =
        let fewer = spent_pushed g label ss differ (descent_along g label h ss each.0.route tight) in
        omega (arith, rest, one_at-same (length ss) l (sym tight))

    longer : l ≢ length ss → sharing l (ss ∷ more) ≤ live_count label g.reaches
    longer ne =
        let first = no_shorter g label h ss each.0.route in
        let after = All-weaker (λ ts. length ss ≤ length ts) (λ ts. l < length ts) (λ ts le. omega arith) more
        (later_longer g ss more each.0 each.1) in
        omega (arith, sharing-none l more after, one_at-other (length ss) l (λ same. ne (sym same)))

-- so at most as many share a length as there are reaches
sharing-le : (l : ℕ) (g : Net) (routes : List (List ℕ)) → g.intake ≢ g.outfall → EachPushed IsShortest g routes →
    sharing l routes ≤ length g.reaches
sharing-le l g [] differ each = omega arith
sharing-le l g (ss ∷ more) differ each = ⊎_elim first
    (λ (ne : length ss ≡ l → ⊥).
    let as_many = length-alike g.reaches (pushed ss g).reaches (bare-alike g (pushed ss g) (Alike-pushed ss g)) in
    omega (arith, sharing-le l (pushed ss g) more differ each.1, one_at-other (length ss) l ne)) (cases_eq (length ss) l)
  where
    first : length ss ≡ l → sharing l (ss ∷ more) ≤ length g.reaches
    first is =
        let x = shortest_labels g ss each.0 in
        let most = sharing-live g x.0 (ss ∷ more) differ x.1 each in
        let here : sharing l (ss ∷ more) ≤ live_count x.0 g.reaches =
        subst (λ (k : ℕ). sharing k (ss ∷ more) ≤ live_count x.0 g.reaches) (x.2 ∙ is) most in
        omega (arith, here, live_count-le x.0 g.reaches)

-- lengths lie from 1 to n − 1
abbrev IsShort : ℕ → List ℕ → Type 0
IsShort n ss = (1 ≤ length ss) × (length ss ≤ n)

short : (g : Net) (routes : List (List ℕ)) → Shaped g → EachPushed IsShortest g routes →
    All (IsShort (g.junctions - 1)) routes
short g [] shaped each = All-nil (IsShort (g.junctions - 1))
short g (ss ∷ more) shaped each =
    let rest = short (pushed ss g) more (Shaped-alike g (pushed ss g) (Alike-pushed ss g) shaped) each.1 in
    All-cons (IsShort (g.junctions - 1)) ss more (shortest_length g ss shaped each.0) rest

-- each route is counted once, under its length
sharing-all : (n : ℕ) (routes : List (List ℕ)) → All (IsShort n) routes →
    sum_below (λ i. sharing (i + 1) routes) n ≡ length routes
sharing-all n [] within = sum_below-zero (λ i. 0) n (λ i low. refl)
sharing-all n (ss ∷ more) within =
    let here : ℕ → ℕ = λ i. one_at (length ss) (i + 1) in
    let at : ℕ = length ss - 1 in
    let is_short = All-head (IsShort n) ss more within in
    let elsewhere = λ (i : ℕ) (low : i < n) (ne : i ≢ at). one_at-other (length ss) (i + 1) (omega arith) in
    let one : sum_below here n ≡ here at = sum_below-one here at n (omega arith) elsewhere in
    let counts : here at ≡ 1 = one_at-same (length ss) (at + 1) (omega arith) in
    let rest = sharing-all n more (All-tail (IsShort n) ss more within) in
    omega (arith, one, sum_below-add here (λ i. sharing (i + 1) more) n)

pub runs_bounded : (g : Net) (routes : List (List ℕ)) → Shaped g → EachPushed IsShortest g routes → IsBounded g routes
runs_bounded g routes shaped each = record {
  rising = rising g routes each;
  sharing = λ l. subst (λ (k : ℕ). k ≤ m) (sharing-is l routes) (sharing-le l g routes shaped.ends_differ each);
  short = short g routes shaped each;
  total = total;
}
  where
    m : ℕ
    m = length g.reaches

    n : ℕ
    n = g.junctions - 1

    total : length routes ≤ m * n
    total =
        let by_length = sharing-all n routes (short g routes shaped each) in
        let most = sum_below-le (λ i. sharing (i + 1) routes) (λ i. m) n
        (λ i low. sharing-le (i + 1) g routes shaped.ends_differ each) in
        omega (arith, by_length, most, sum_below-const m n)
