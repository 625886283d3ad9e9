-- The worked cases, by tests that compute.
use Rattle.std.proofs.Common.{◌≡◌, ℕ, zero, suc, ◌+◌, ◌*◌, ◌<◌, ◌≤◌, Bool, true, false, not, ◌&&◌, ◌||◌, List, [], ◌∷◌, length, ◌==◌, get_or, pos, refl, sym, ◌∙◌, inl, inr, ⊎_elim, arith}
use Rattle.std.specs.Prelude.{◌↔◌, IsTrue, nat_lt, nat_le, bytes_eq}
use Rattle.std.specs.Cmp.Lexicographic.{bytes_decides}
use Rattle.std.specs.List.{AllByRecursion}
use Rattle.std.proofs.lemmas.List.Elements.{All-from_recursion}
use Rattle.std.proofs.lemmas.Bool.{true≢false, both_ways, and_parts, or_cases, not-true, cases_Bool, ltb-true, lt-ltb, leb-true, eqb-true}
use Rattle.std.proofs.lemmas.Bool.Decides.{nat_tests, Decides-below_and}
use Rattle.std.proofs.lemmas.Int.{ints}
use Rattle.flow.specs.Bounds.{highest_limit}
use Rattle.flow.specs.Net.{Arc, Net, Joined}
use Rattle.flow.specs.Steps.{begins, finishes, headroom, IsOpen}
use Rattle.flow.specs.Flows.{leaving, entering}
use Rattle.flow.specs.Routes.{IsWalk, Finished, Reached, GoesFirst, IsFirst}
use Rattle.flow.specs.Pushes.{pushed, pushed_all, EachPushed, litres_of}
use Rattle.flow.specs.Cuts.{IsBottleneck}
use Rattle.flow.specs.Labels.{Labels, IsAdmissible, IsFirstAdmissible}
use Rattle.flow.specs.Histories.{Outcome, Event, refusal, bottleneck, tally, marked, IsSettling, IsMarked, CommissionedDry, IsIdle}
use Rattle.flow.specs.Cases.{Case, amounts_of, Holds, dry, five, five_settled, worked, WorkedCases, WorkedHistory}
use Rattle.flow.proofs.Walks.{open_in}
use Rattle.flow.proofs.Besting.{Closed, near_along}
use Rattle.flow.proofs.Order.{goes_first, goes_first-decides}
use Rattle.flow.proofs.Firsts.{first_from_labels}

-- a test that two Bools are the same
abbrev same_bool : Bool → Bool → Bool
same_bool true b = b
same_bool false b = not b

same_bool-true : (a b : Bool) → same_bool a b ≡ true → a ≡ b
same_bool-true true b pass = sym pass
same_bool-true false b pass = sym (not-true b pass)

-- a test that every number below n passes another
abbrev all_below : (ℕ → Bool) → ℕ → Bool
all_below p zero = true
all_below p (suc n) = p n && all_below p n

all_below_at : (p : ℕ → Bool) (n : ℕ) → all_below p n ≡ true → (k : ℕ) → k < n → p k ≡ true
all_below_at p n = (Decides-below_and p (λ k. p k ≡ true) (all_below p) (λ k. (λ e. e, λ e. e)) refl (λ m. refl) n).0

unless : (a b : Bool) → (not a || b) ≡ true → a ≡ true → b ≡ true
unless true b either a = either
unless false b either a = absurd (true≢false (sym a))

-- a test that every open step passes another
abbrev each_open : List Arc → (ℕ → Bool) → Bool
each_open rs p = all_below (λ s. not (nat_lt 0 (headroom rs s)) || p s) (2 * length rs)

each_open_at : (rs : List Arc) (p : ℕ → Bool) → each_open rs p ≡ true → (s : ℕ) → IsOpen rs s → p s ≡ true
each_open_at rs p all s opens =
    let low = open_in rs s opens in
    let here = all_below_at (λ t. not (nat_lt 0 (headroom rs t)) || p t) (2 * length rs) all s (omega arith) in
    unless (nat_lt 0 (headroom rs s)) (p s) here (lt-ltb 0 (headroom rs s) opens)

-- a test that numbers are labels
module _ (g : Net) (label : ℕ → ℕ) where
  abbrev falls_within : ℕ → Bool
  falls_within s = nat_le (label (begins g.reaches s)) (label (finishes g.reaches s) + 1)

  abbrev are_labels : Bool
  are_labels = (label g.outfall == 0) && each_open g.reaches falls_within

  labels_from : are_labels ≡ true → Labels g label
  labels_from pass =
      let x = and_parts (label g.outfall == 0) (each_open g.reaches falls_within) pass in
      record {
        outfall = eqb-true (label g.outfall) 0 x.0;
        falls = λ s opens. leb-true _ _ (each_open_at g.reaches falls_within x.1 s opens);
      }

-- a test that a step is admissible and begins at v, and a test that no such step from there goes before it
module _ (rs : List Arc) (label : ℕ → ℕ) (v s : ℕ) where
  abbrev is_admissible : Bool
  is_admissible = (begins rs s == v) && (nat_lt 0 (headroom rs s) && (label (begins rs s) == label (finishes rs s) + 1))

  admissible_from : is_admissible ≡ true → (begins rs s ≡ v) × IsAdmissible label rs s
  admissible_from pass =
      let x = and_parts (begins rs s == v) _ pass in
      let y = and_parts (nat_lt 0 (headroom rs s)) _ x.1 in
      (eqb-true _ _ x.0, record { opens = ltb-true _ _ y.0; falls = eqb-true _ _ y.1 })

  abbrev is_no_earlier : ℕ → Bool
  is_no_earlier t =
      not ((begins rs t == begins rs s) && ((label (begins rs t) == label (finishes rs t) + 1) && goes_first t s))

  first_from_test : each_open rs is_no_earlier ≡ true → (t : ℕ) → begins rs t ≡ begins rs s → IsAdmissible label rs t →
      ¬ GoesFirst t s
  first_from_test pass t same a before =
      let test : is_no_earlier t ≡ true = each_open_at rs is_no_earlier pass t a.opens in
      let order : goes_first t s ≡ true = (goes_first-decides t s).1 before in
      let falls : label (begins rs t) ≡ label (finishes rs t) + 1 = a.falls in
      grind (arith, nat_tests)

-- a test that a list of steps is a walk of admissible steps, each the first of its junction
abbrev leads : List Arc → (ℕ → ℕ) → ℕ → List ℕ → ℕ → Bool
leads rs label from [] to = from == to
leads rs label from (s ∷ ss) to =
    is_admissible rs label from s && (each_open rs (is_no_earlier rs label from s) && leads rs label (finishes rs s) ss to)

leads_from : (rs : List Arc) (label : ℕ → ℕ) (from : ℕ) (ss : List ℕ) (to : ℕ) → leads rs label from ss to ≡ true →
    IsWalk rs from ss to × AllByRecursion (IsFirstAdmissible label rs) ss
leads_from rs label from [] to pass = (eqb-true from to pass, tt)
leads_from rs label from (s ∷ ss) to pass =
    let x = and_parts (is_admissible rs label from s) _ pass in
    let y = and_parts (each_open rs (is_no_earlier rs label from s)) _ x.1 in
    let (start, here) = admissible_from rs label from s x.0 in
    let (walk, rest) = leads_from rs label (finishes rs s) ss to y.1 in
    let first : IsFirstAdmissible label rs s =
    record { admissible = here; first = first_from_test rs label from s y.0 } in
    ((start, here.opens, walk), (first, rest))

-- a test that a list of steps is the first shortest route, with labels to show it
module _ (g : Net) (labels ss : List ℕ) where
  abbrev label_in : ℕ → ℕ
  label_in v = get_or labels v 0

  abbrev is_first : Bool
  is_first = are_labels g label_in && leads g.reaches label_in g.intake ss g.outfall

  first_from : is_first ≡ true → IsFirst g ss
  first_from pass =
      let x = and_parts (are_labels g label_in) _ pass in
      let (walk, firsts) = leads_from g.reaches label_in g.intake ss g.outfall x.1 in
      let all = All-from_recursion (IsFirstAdmissible label_in g.reaches) ss firsts in
      first_from_labels g label_in ss (labels_from g label_in x.0) walk all

-- a test that each of the routes is so when it is pushed, with the labels of each
abbrev are_firsts : Net → List (List ℕ) → List (List ℕ) → Bool
are_firsts g labels [] = true
are_firsts g [] (ss ∷ more) = false
are_firsts g (ls ∷ labels) (ss ∷ more) = is_first g ls ss && are_firsts (pushed ss g) labels more

firsts_from : (g : Net) (labels routes : List (List ℕ)) → are_firsts g labels routes ≡ true →
    EachPushed IsFirst g routes
firsts_from g labels [] pass = tt
firsts_from g [] (ss ∷ more) pass = absurd (true≢false (sym pass))
firsts_from g (ls ∷ labels) (ss ∷ more) pass =
    let x = and_parts (is_first g ls ss) _ pass in (first_from g ls ss x.0, firsts_from (pushed ss g) labels more x.1)

-- a test that a list of steps is a walk
abbrev is_walk : List Arc → ℕ → List ℕ → ℕ → Bool
is_walk rs from [] to = from == to
is_walk rs from (s ∷ ss) to = (begins rs s == from) && (nat_lt 0 (headroom rs s) && is_walk rs (finishes rs s) ss to)

walk_from : (rs : List Arc) (from : ℕ) (ss : List ℕ) (to : ℕ) → is_walk rs from ss to ≡ true → IsWalk rs from ss to
walk_from rs from [] to pass = eqb-true from to pass
walk_from rs from (s ∷ ss) to pass =
    let x = and_parts (begins rs s == from) _ pass in
    let y = and_parts (nat_lt 0 (headroom rs s)) _ x.1 in
    (eqb-true _ _ x.0, ltb-true _ _ y.0, walk_from rs (finishes rs s) ss to y.1)

-- a test that marks are those of the bottleneck: a walk shows that a junction is reached, and no open step leaves the
-- marked junctions
module _ (g : Net) (walks : List (List ℕ)) (marks : List ℕ) where
  abbrev is_shown : ℕ → Bool
  is_shown v = not (marked marks v) || is_walk g.reaches g.intake (get_or walks v []) v

  abbrev stays_near : ℕ → Bool
  stays_near s = not (marked marks (begins g.reaches s)) || marked marks (finishes g.reaches s)

  abbrev are_marks : Bool
  are_marks = marked marks g.intake && (all_below is_shown g.junctions && each_open g.reaches stays_near)

  bottleneck_from : are_marks ≡ true → IsBottleneck g (marked marks)
  bottleneck_from pass v low = (reached, near)
    where
      start : (marked marks g.intake ≡ true) × ((all_below is_shown g.junctions && each_open g.reaches stays_near) ≡ true)
      start = and_parts (marked marks g.intake) _ pass

      tests : (all_below is_shown g.junctions ≡ true) × (each_open g.reaches stays_near ≡ true)
      tests = and_parts (all_below is_shown g.junctions) _ start.1

      reached : marked marks v ≡ true → Reached g v
      reached is =
          let shown = unless (marked marks v) _ (all_below_at is_shown g.junctions tests.0 v low) is in
          (get_or walks v [], walk_from g.reaches g.intake (get_or walks v []) v shown)

      closed : Closed (marked marks) g.reaches
      closed s opens from =
          unless (marked marks (begins g.reaches s)) _ (each_open_at g.reaches stays_near tests.1 s opens) from

      near : Reached g v → marked marks v ≡ true
      near r = near_along (marked marks) g.reaches closed g.intake r.0 v r.1 start.0

-- a test that the first n marks are 0 or 1
bits_from : (n : ℕ) (marks : List ℕ) → all_below (λ v. nat_le (get_or marks v 0) 1) n ≡ true →
    (v : ℕ) → v < n → get_or marks v 0 ≤ 1
bits_from n marks pass v low = leb-true _ _ (all_below_at (λ u. nat_le (get_or marks u 0) 1) n pass v low)

-- no route exists exactly where the outfall is not marked
finished_from : (g : Net) (marks : List ℕ) → g.outfall < g.junctions → IsBottleneck g (marked marks) →
    IsTrue (not (marked marks g.outfall)) ↔ Finished g
finished_from g marks low is = (none, far)
  where
    none : not (marked marks g.outfall) ≡ true → Finished g
    none not_near ss r = both_ways (marked marks g.outfall) (not-true _ not_near) ((is g.outfall low).1 (ss, r))

    far : Finished g → not (marked marks g.outfall) ≡ true
    far finished = ⊎_elim
        (λ (near : marked marks g.outfall ≡ true). let w = (is g.outfall low).0 near in absurd (finished w.0 w.1))
        (λ (not_near : marked marks g.outfall ≡ false). rw not_near refl) (cases_Bool (marked marks g.outfall))

-- what shows a case: labels for each route, and walks to the junctions that are reached
record Shown : Type 0 where
  labels : List (List ℕ)
  walks : List (List ℕ)

-- a test of a case
module _ (c : Case) (shown : Shown) where
  abbrev left : Net
  left = pushed_all c.routes c.net

  abbrev is_spent : Bool
  is_spent = nat_le (length c.routes) c.budget && (c.finished || (length c.routes == c.budget))

  abbrev adds_up : Bool
  adds_up = bytes_eq (amounts_of c.net c.routes) c.amounts && (litres_of c.net c.routes == c.litres)

  abbrev is_delivered : Bool
  is_delivered = leaving left.intake left.reaches == entering left.intake left.reaches + c.delivers

  abbrev is_told : Bool
  is_told = nat_lt left.outfall left.junctions && same_bool c.finished (not (marked c.marks left.outfall))

  abbrev holds : Bool
  holds = are_firsts c.net shown.labels c.routes
      && (is_spent && (adds_up && (is_delivered && (is_told && are_marks left shown.walks c.marks))))

  from_test : holds ≡ true → Holds c
  from_test pass =
      let firsts = and_parts (are_firsts c.net shown.labels c.routes) _ pass in
      let spending = and_parts is_spent _ firsts.1 in
      let adding = and_parts adds_up _ spending.1 in
      let delivering = and_parts is_delivered _ adding.1 in
      let telling = and_parts is_told _ delivering.1 in
      let spent = and_parts (nat_le (length c.routes) c.budget) _ spending.0 in
      let added = and_parts (bytes_eq (amounts_of c.net c.routes) c.amounts) _ adding.0 in
      let told = and_parts (nat_lt left.outfall left.junctions) _ telling.0 in
      let near = bottleneck_from left shown.walks c.marks telling.1 in
      let flag : c.finished ≡ not (marked c.marks left.outfall) = same_bool-true c.finished _ told.1 in
      let none = finished_from left c.marks (ltb-true _ _ told.0) near in
      let tells : IsTrue c.finished ↔ Finished left = (λ e. none.0 (sym flag ∙ e), λ fin. flag ∙ none.1 fin) in
      record {
        settles = record {
          firsts = firsts_from c.net shown.labels c.routes firsts.0;
          spent = omega (arith, leb-true _ _ spent.0);
          stops = ⊎_elim (λ (e : c.finished ≡ true). inl (tells.0 e))
              (λ (all : (length c.routes == c.budget) ≡ true). inr (omega (arith, eqb-true _ _ all)))
              (or_cases c.finished _ spent.1);
        };
        amounts = (bytes_decides (amounts_of c.net c.routes) c.amounts).0 added.0;
        litres = eqb-true _ _ added.1;
        finished = tells;
        delivers = let whole = eqb-true (leaving left.intake left.reaches) _ delivering.0 in omega (arith, ints);
        near = near;
      }

-- a test of a table
abbrev all_hold : List Case → List Shown → Bool
all_hold [] shown = true
all_hold (c ∷ cases) [] = false
all_hold (c ∷ cases) (x ∷ shown) = holds c x && all_hold cases shown

table_from : (cases : List Case) (shown : List Shown) → all_hold cases shown ≡ true → AllByRecursion Holds cases
table_from [] shown pass = tt
table_from (c ∷ cases) [] pass = absurd (true≢false (sym pass))
table_from (c ∷ cases) (x ∷ shown) pass =
    let y = and_parts (holds c x) _ pass in (from_test c x y.0, table_from cases shown y.1)

-- the labels of the three routes through the five reaches, and of the two through the seven
abbrev labels_five : List (List ℕ)
labels_five = (2 ∷ 1 ∷ 1 ∷ 0 ∷ []) ∷ (2 ∷ 2 ∷ 1 ∷ 0 ∷ []) ∷ (3 ∷ 2 ∷ 1 ∷ 0 ∷ []) ∷ []

abbrev labels_seven : List (List ℕ)
labels_seven = (3 ∷ 2 ∷ 1 ∷ 1 ∷ 2 ∷ 0 ∷ []) ∷ (5 ∷ 2 ∷ 3 ∷ 1 ∷ 4 ∷ 0 ∷ []) ∷ []

-- walks from the intake to each junction of the five reaches, when none and when two of the routes have been pushed
abbrev at_first : List (List ℕ)
at_first = [] ∷ (0 ∷ []) ∷ (2 ∷ []) ∷ (0 ∷ 6 ∷ []) ∷ []

abbrev after_two : List (List ℕ)
after_two = [] ∷ (0 ∷ []) ∷ (0 ∷ 4 ∷ []) ∷ (0 ∷ 4 ∷ 8 ∷ []) ∷ []

abbrev shown_worked : List Shown
shown_worked =
    record { labels = labels_five; walks = [] }
    ∷ record { labels = labels_five; walks = [] }
    ∷ record { labels = labels_five; walks = after_two }
    ∷ record { labels = []; walks = at_first }
    ∷ record { labels = labels_seven; walks = [] }
    ∷ record { labels = []; walks = [] }
    ∷ []

pub worked_cases : WorkedCases
worked_cases = All-from_recursion Holds worked (table_from worked shown_worked refl)

-- the calls on the network of five reaches
commissioned_five : CommissionedDry five
commissioned_five = record {
  shaped = record {
    two = omega arith;
    few = omega arith;
    listed = omega arith;
    intake_in = omega arith;
    outfall_in = omega arith;
    ends_differ = omega arith;
    joined =
        let a : Joined 4 (dry 0 1 3) = (omega arith, omega arith, omega arith) in
        let b : Joined 4 (dry 0 2 2) = (omega arith, omega arith, omega arith) in
        let c : Joined 4 (dry 1 2 1) = (omega arith, omega arith, omega arith) in
        let d : Joined 4 (dry 1 3 2) = (omega arith, omega arith, omega arith) in
        let e : Joined 4 (dry 2 3 3) = (omega arith, omega arith, omega arith) in
        All-from_recursion (Joined 4) five.reaches (a, (b, (c, (d, (e, tt)))));
    limits = All-from_recursion (λ r. r.limit ≤ highest_limit) five.reaches
        (omega arith, (omega arith, (omega arith, (omega arith, (omega arith, tt)))));
  };
  dry = All-from_recursion (λ r. r.carried ≡ 0) five.reaches (refl, (refl, (refl, (refl, (refl, tt)))));
}

pub worked_history : WorkedHistory
worked_history = record {
  commissioned = commissioned_five;
  history = (settled, (tt, (named, (first.delivers, tt))));
  stands = record {
    before = [];
    budget = 10;
    routes = five_settled.routes;
    answer = answer;
    later = later;
    are = refl;
    finished = refl;
    idle = All-from_recursion IsIdle later (tt, (tt, (tt, tt)));
  };
}
  where
    later : List Event
    later = refusal ∷ bottleneck five_settled.marks 5 2 ∷ tally (pos 5) ∷ []

    first : Holds five_settled
    first = worked_cases 0 five_settled (omega arith)

    answer : Outcome
    answer = record { routes = 3; litres = 5; finished = true }

    settled : IsSettling five 10 five_settled.routes answer
    settled = record { settles = first.settles; counts = refl; adds = sym first.litres; tells = first.finished }

    bits : (v : ℕ) → v < 4 → get_or five_settled.marks v 0 ≤ 1
    bits = bits_from 4 five_settled.marks refl

    named : IsMarked (pushed_all five_settled.routes five) five_settled.marks 5 2
    named = record {
      finished = first.finished.0 refl;
      long = omega arith;
      bits = bits;
      near = first.near;
      sums = refl;
      counts = refl;
    }
