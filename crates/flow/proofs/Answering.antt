-- What settlings and bottlenecks answer: one answer each.
use Rattle.std.proofs.Common.{◌≡◌, ℕ, ◌<◌, ◌≤◌, ◌⊎◌, Bool, true, false, List, [], ◌∷◌, ◌++◌, length, get_or, ◌==◌, refl, sym, ap, ◌∙◌, subst, inl, inr, arith, length-append}
use Rattle.std.proofs.Math.ListN.{get_or-append}
use Rattle.std.specs.Prelude.{IsTrue, ◌↔◌}
use Rattle.std.proofs.lemmas.List.FromFn.{length-map-range_with_len, get_or-map-range_with_len}
use Rattle.std.proofs.lemmas.Bool.{false≢true}
use Rattle.std.proofs.lemmas.Bool.Decides.{nat_tests, same_from_decides}
use Rattle.flow.specs.Net.{Net, Shaped}
use Rattle.flow.specs.Routes.{Finished, Reached, IsFirst}
use Rattle.flow.specs.Pushes.{pushed_all, litres_of}
use Rattle.flow.specs.Cuts.{Side, cut_sum, crossing_count, IsBottleneck}
use Rattle.flow.specs.Histories.{Outcome, IsSettling, marked, mark, marks_of, IsMarked}
use Rattle.flow.specs.HistoryLaws.{HistoryLaws}
use Rattle.flow.proofs.Likeness.{Shaped-alike}
use Rattle.flow.proofs.Besting.{cut_sum-same, crossing_count-same}
use Rattle.flow.proofs.Finding.{bottleneck_found, first_found}
use Rattle.flow.proofs.Machining.{Alike-pushed_all, settles_unique, settles_found}
use Rattle.flow.proofs.Lasting.{after_calls-append, IsHistory-append}

-- a settling has at most one answer
abbrev outcome : ℕ → ℕ → Bool → Outcome
outcome routes litres finished = record { routes = routes; litres = litres; finished = finished }

pub one_settling : (g : Net) (budget : ℕ) (routes others : List (List ℕ)) (answer another : Outcome) →
    IsSettling g budget routes answer → IsSettling g budget others another → (routes ≡ others) × (answer ≡ another)
one_settling g budget routes others answer another p q = (same, all_same)
  where
    same : routes ≡ others
    same = settles_unique g budget routes others p.settles q.settles

    count : answer.routes ≡ another.routes
    count = p.counts ∙ ap length same ∙ sym q.counts

    litres : answer.litres ≡ another.litres
    litres = p.adds ∙ ap (litres_of g) same ∙ sym q.adds

    finished : answer.finished ≡ another.finished
    finished =
        let P : Type 0 = Finished (pushed_all others g) in
        let here = subst (λ xs. IsTrue answer.finished ↔ Finished (pushed_all xs g)) same p.tells in
        same_from_decides {P = P} answer.finished another.finished (here.0, here.1) (q.tells.0, q.tells.1)

    all_same : answer ≡ another
    all_same =
        ap (λ (n : ℕ). outcome n answer.litres answer.finished) count
        ∙ ap (λ (n : ℕ). outcome another.routes n answer.finished) litres
        ∙ ap (outcome another.routes another.litres) finished

-- and it has one
told : (g : Net) (routes : List (List ℕ)) → Shaped (pushed_all routes g) →
    (finished : Bool) × (IsTrue finished ↔ Finished (pushed_all routes g))
told g routes shaped = either (first_found (pushed_all routes g) shaped)
  where
    either : ((ss : List ℕ) × IsFirst (pushed_all routes g) ss) ⊎ Finished (pushed_all routes g) →
        (finished : Bool) × (IsTrue finished ↔ Finished (pushed_all routes g))
    either (inl (ss, is)) = (false, (λ e. absurd (false≢true e), λ none. absurd (none ss is.shortest.route)))
    either (inr none) = (true, (λ e. none, λ e. refl))

pub settling_found : (g : Net) (budget : ℕ) → Shaped g →
    (routes : List (List ℕ)) × (answer : Outcome) × IsSettling g budget routes answer
settling_found g budget shaped =
    let (routes, settles) = settles_found g budget shaped in
    let then : Shaped (pushed_all routes g) = Shaped-alike g (pushed_all routes g) (Alike-pushed_all routes g) shaped in
    let (finished, tells) = told g routes then in (
      routes,
      outcome (length routes) (litres_of g routes) finished,
      record { settles = settles; counts = refl; adds = refl; tells = tells },
    )

-- marks of a side, with any marks behind them
pub marks_of-length : (near : Side) (n : ℕ) → length (marks_of near n) ≡ n
marks_of-length near n = length-map-range_with_len (λ u. mark (near u)) 0 n

marks_of-at : (near : Side) (n : ℕ) (later : List ℕ) (v : ℕ) → v < n → get_or (marks_of near n ++ later) v 0 ≡ mark (near v)
marks_of-at near n later v low =
    get_or-append (marks_of near n) later 0 v (omega (arith, marks_of-length near n))
    ∙ get_or-map-range_with_len (λ u. mark (near u)) 0 n v v 0 low (omega arith)

mark-le : (b : Bool) → mark b ≤ 1
mark-le true = omega arith
mark-le false = omega arith

mark-one : (b : Bool) → (mark b == 1) ≡ b
mark-one true = refl
mark-one false = refl

-- where no route exists, the marks of a side that is the bottleneck's tell it
module _ (g : Net) (near : Side) (later : List ℕ) (shaped : Shaped g) (is : IsBottleneck g near) where
  abbrev marks : List ℕ
  marks = marks_of near g.junctions ++ later

  side : (v : ℕ) → v < g.junctions → marked marks v ≡ near v
  side v low = ap (λ (x : ℕ). x == 1) (marks_of-at near g.junctions later v low) ∙ mark-one (near v)

  pub marks_tell : Finished g → IsMarked g (marks_of near g.junctions ++ later) (cut_sum near g.reaches)
      (crossing_count near g.reaches)
  marks_tell finished = record {
    finished = finished;
    long = omega (arith, length-append (marks_of near g.junctions) later, marks_of-length near g.junctions);
    bits = λ v low. omega (arith, marks_of-at near g.junctions later v low, mark-le (near v));
    near = λ v low. let same = side v low in (λ e. (is v low).0 (sym same ∙ e), λ r. same ∙ (is v low).1 r);
    sums = sym (cut_sum-same (marked marks) near g.junctions g.reaches shaped.joined side);
    counts = sym (crossing_count-same (marked marks) near g.junctions g.reaches shaped.joined side);
  }

marking_found : (g : Net) → Shaped g → Finished g →
    (marks : List ℕ) × (sum : ℕ) × (crossing : ℕ) × IsMarked g marks sum crossing
marking_found g shaped finished =
    let (near, is) = bottleneck_found g shaped in (
      marks_of near g.junctions ++ [],
      cut_sum near g.reaches,
      crossing_count near g.reaches,
      marks_tell g near [] shaped is finished,
    )

-- two answers of a bottleneck are the same
one_bit : (x y : ℕ) → x ≤ 1 → y ≤ 1 → (x == 1) ≡ (y == 1) → x ≡ y
one_bit x y low high same = grind (arith, nat_tests)

one_marking : (g : Net) (marks others : List ℕ) (sum another crossing other : ℕ) → Shaped g →
    IsMarked g marks sum crossing → IsMarked g others another other →
    ((v : ℕ) → v < g.junctions → get_or marks v 0 ≡ get_or others v 0) × (sum ≡ another) × (crossing ≡ other)
one_marking g marks others sum another crossing other shaped p q = (
  λ v low. one_bit (get_or marks v 0) (get_or others v 0) (p.bits v low) (q.bits v low) (sides v low),
  p.sums ∙ cut_sum-same (marked marks) (marked others) g.junctions g.reaches shaped.joined sides ∙ sym q.sums,
  p.counts ∙ crossing_count-same (marked marks) (marked others) g.junctions g.reaches shaped.joined sides ∙ sym q.counts,
)
  where
    sides : (v : ℕ) → v < g.junctions → marked marks v ≡ marked others v
    sides v low =
        same_from_decides {P = Reached g v} (marked marks v) (marked others v) ((p.near v low).0, (p.near v low).1)
        ((q.near v low).0, (q.near v low).1)

pub history_laws : HistoryLaws
history_laws = record {
  settling = one_settling;
  settled = settling_found;
  marking = one_marking;
  marked = marking_found;
  more = λ start events e h k. IsHistory-append events (e ∷ []) start h (k, tt);
  then = λ start events e. after_calls-append events (e ∷ []) start;
}
