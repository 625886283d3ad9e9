-- What histories keep of a network, and what their parts push.
use Rattle.std.proofs.Common.{◌≡◌, ℕ, ◌<◌, ◌≤◌, ◌≢◌, List, [], ◌∷◌, ◌++◌, length, refl, sym, ap, ◌∙◌, subst, arith, length-append, length-set}
use lib.ListN.{length-map}
use Rattle.std.specs.List.{All}
use Rattle.std.proofs.lemmas.List.Elements.{All-set, All-map, All-weaker, All-head, All-tail}
use Rattle.std.proofs.lemmas.Bool.Decides.{nat_tests}
use Rattle.flow.specs.Net.{Arc, Net, Shaped, Sound, arc_at}
use Rattle.flow.specs.Flows.{sum_of, out_of, into, leaving, entering, IsFlow}
use Rattle.flow.specs.Changes.{carrying, limiting, relimited, drained}
use Rattle.flow.specs.Routes.{Finished, IsFirst}
use Rattle.flow.specs.Pushes.{pushed_all, EachPushed}
use Rattle.flow.specs.Histories.{Event, settling, limit_change, draining, after_call, after_calls, Happens, IsHistory, CommissionedDry, Disturbs, IsIdle, StandsFinished, routes_counted}
use Rattle.flow.proofs.Sums.{sum_of-none, sum_of-zero, sum_of-set_same, out_of-le, into-le}
use Rattle.flow.proofs.Changing.{keeps_sound}
use Rattle.flow.proofs.Likeness.{bare-alike, length-alike, junctions-alike, Shaped-alike}
use Rattle.flow.proofs.Machining.{EachPushed-append, shortest_from_first, pushed_all-append, raised_all}

-- draining, and a limit no lower than what is carried, leave a flow
pub drained_flow : (g : Net) → IsFlow (drained g)
drained_flow g = record { within = All-map (λ r. r.carried ≤ r.limit) (carrying 0) g.reaches each; balanced = balanced }
  where
    each : All (λ r. 0 ≤ r.limit) g.reaches
    each k d low = omega arith

    balanced : (v : ℕ) → v < g.junctions → v ≢ g.intake → v ≢ g.outfall →
        leaving v (drained g).reaches ≡ entering v (drained g).reaches
    balanced v low a b =
        let out = sum_of-none (out_of v) (carrying 0) g.reaches (λ r. grind (arith, nat_tests)) in
        let in' = sum_of-none (into v) (carrying 0) g.reaches (λ r. grind (arith, nat_tests)) in
        out ∙ sym in'

pub limited_flow : (g : Net) (k q : ℕ) → IsFlow g → (arc_at g.reaches k).carried ≤ q → IsFlow (relimited k q g)
limited_flow g k q flow fits = record {
  within = All-set (λ r. r.carried ≤ r.limit) g.reaches k (limiting q (arc_at g.reaches k)) fits flow.within;
  balanced = λ v low a b.
      let out = sum_of-set_same (out_of v) g.reaches k (limiting q (arc_at g.reaches k)) refl in
      let in' = sum_of-set_same (into v) g.reaches k (limiting q (arc_at g.reaches k)) refl in
      out ∙ flow.balanced v low a b ∙ sym in';
}

-- in a network that carries nothing no sum of amounts is above 0; it carries a flow
pub dry_sum : (g : Net) → CommissionedDry g → (f : Arc → ℕ) → ((r : Arc) → f r ≤ r.carried) → sum_of f g.reaches ≡ 0
dry_sum g c f le = sum_of-zero f g.reaches
    (All-weaker (λ r. r.carried ≡ 0) (λ r. f r ≡ 0) (λ r dry. omega (arith, le r)) g.reaches c.dry)

pub dry_flow : (g : Net) → CommissionedDry g → IsFlow g
dry_flow g c = record {
  within = All-weaker (λ r. r.carried ≡ 0) (λ r. r.carried ≤ r.limit) (λ r dry. omega arith) g.reaches c.dry;
  balanced = λ v low a b. dry_sum g c (out_of v) (out_of-le v) ∙ sym (dry_sum g c (into v) (into-le v));
}

-- histories one after another
pub after_calls-append : (xs ys : List Event) (g : Net) → after_calls (xs ++ ys) g ≡ after_calls ys (after_calls xs g)
after_calls-append [] ys g = refl
after_calls-append (e ∷ xs) ys g = after_calls-append xs ys (after_call e g)

pub IsHistory-append : (xs ys : List Event) (g : Net) → IsHistory xs g → IsHistory ys (after_calls xs g) →
    IsHistory (xs ++ ys) g
IsHistory-append [] ys g h k = k
IsHistory-append (e ∷ xs) ys g h k = (h.0, IsHistory-append xs ys (after_call e g) h.1 k)

pub IsHistory-before : (xs ys : List Event) (g : Net) → IsHistory (xs ++ ys) g → IsHistory xs g
IsHistory-before [] ys g h = tt
IsHistory-before (e ∷ xs) ys g h = (h.0, IsHistory-before xs ys (after_call e g) h.1)

pub IsHistory-behind : (xs ys : List Event) (g : Net) → IsHistory (xs ++ ys) g → IsHistory ys (after_calls xs g)
IsHistory-behind [] ys g h = h
IsHistory-behind (e ∷ xs) ys g h = IsHistory-behind xs ys (after_call e g) h.1

-- what calls leave of a network with a flow: its shape, a flow, and as many junctions and reaches
pub record Lasting (g h : Net) : Type 0 where
  pub shaped : Shaped h
  pub flow : IsFlow h
  pub junctions : g.junctions ≡ h.junctions
  pub reaches : length g.reaches ≡ length h.reaches

pub lasting_call : (e : Event) (g : Net) → Shaped g → IsFlow g → Happens e g → Lasting g (after_call e g)
lasting_call (settling budget routes answer) g shaped flow h =
    let x = raised_all g routes shaped flow (shortest_from_first g routes h.settles.firsts) in
    record {
      shaped = Shaped-alike g (pushed_all routes g) x.alike shaped;
      flow = x.flow;
      junctions = junctions-alike g (pushed_all routes g) x.alike;
      reaches = length-alike g.reaches (pushed_all routes g).reaches (bare-alike g (pushed_all routes g) x.alike);
    }
lasting_call (limit_change k q) g shaped flow h = record {
  shaped =
      let sound : Sound g = record { shaped = shaped; within = flow.within } in
      (keeps_sound.limit g k q sound h.2 (omega (arith, h.1))).shaped;
  flow = limited_flow g k q flow h.2;
  junctions = refl;
  reaches = sym (length-set g.reaches k (limiting q (arc_at g.reaches k)));
}
lasting_call draining g shaped flow h = record {
  shaped = (keeps_sound.drain g (record { shaped = shaped; within = flow.within })).shaped;
  flow = drained_flow g;
  junctions = refl;
  reaches = sym (length-map g.reaches (carrying 0));
}
lasting_call e g shaped flow h = record { shaped = shaped; flow = flow; junctions = refl; reaches = refl }

lasting_calls : (es : List Event) (g : Net) → Shaped g → IsFlow g → IsHistory es g → Lasting g (after_calls es g)
lasting_calls [] g shaped flow h = record { shaped = shaped; flow = flow; junctions = refl; reaches = refl }
lasting_calls (e ∷ es) g shaped flow h =
    let x = lasting_call e g shaped flow h.0 in
    let y = lasting_calls es (after_call e g) x.shaped x.flow h.1 in
    record {
      shaped = y.shaped;
      flow = y.flow;
      junctions = x.junctions ∙ y.junctions;
      reaches = x.reaches ∙ y.reaches;
    }

pub lasting : (es : List Event) (start : Net) → CommissionedDry start → IsHistory es start →
    Lasting start (after_calls es start)
lasting es start c h = lasting_calls es start c.shaped (dry_flow start c) h

-- idle calls change nothing, so a network that stands finished is finished
idle_call : (e : Event) (g : Net) → IsIdle e → after_call e g ≡ g
idle_call (settling budget routes answer) g idle = absurd idle
idle_call (limit_change k q) g idle = absurd idle
idle_call draining g idle = absurd idle
idle_call e g idle = refl

idle_calls : (es : List Event) (g : Net) → All IsIdle es → after_calls es g ≡ g
idle_calls [] g idle = refl
idle_calls (e ∷ es) g idle =
    let here = idle_call e g (All-head IsIdle e es idle) in
    ap (after_calls es) here ∙ idle_calls es g (All-tail IsIdle e es idle)

pub stands_finished : (events : List Event) (start : Net) → IsHistory events start → StandsFinished events →
    Finished (after_calls events start)
stands_finished events start h f =
    let e : Event = settling f.budget f.routes f.answer in
    let at : Net = after_calls f.before start in
    let x = IsHistory-behind f.before (e ∷ f.later) start (subst (λ es. IsHistory es start) f.are h) in
    let leaves : after_calls events start ≡ after_calls f.later (pushed_all f.routes at) =
    ap (λ (es : List Event). after_calls es start) f.are ∙ after_calls-append f.before (e ∷ f.later) start in
    subst Finished (sym (leaves ∙ idle_calls f.later (pushed_all f.routes at) f.idle)) (x.0.tells.0 f.finished)

-- calls in a row with no accepted limit change and no draining among them push one run of first shortest routes
pub record IsRun (g h : Net) (part : List Event) (routes : List (List ℕ)) : Type 0 where
  pub firsts : EachPushed IsFirst g routes
  pub leaves : h ≡ pushed_all routes g
  pub counts : routes_counted part ≡ length routes

abbrev pub Calm : Event → Type 0
Calm e = ¬ Disturbs e

pub run_of : (part : List Event) (g : Net) → All Calm part → IsHistory part g →
    (routes : List (List ℕ)) × IsRun g (after_calls part g) part routes
run_of [] g calm h = ([], record { firsts = tt; leaves = refl; counts = refl })
run_of (settling budget routes answer ∷ es) g calm h =
    let rest = All-tail Calm (settling budget routes answer) es calm in
    let (more, is) = run_of es (pushed_all routes g) rest h.1 in
    let run : IsRun g (after_calls es (pushed_all routes g)) (settling budget routes answer ∷ es) (routes ++ more) =
    record {
      firsts = EachPushed-append IsFirst g routes more h.0.settles.firsts is.firsts;
      leaves = is.leaves ∙ sym (pushed_all-append routes more g);
      counts = omega (arith, is.counts, h.0.counts, length-append routes more);
    } in
    (routes ++ more, run)
run_of (limit_change k q ∷ es) g calm h = absurd (All-head Calm (limit_change k q) es calm tt)
run_of (draining ∷ es) g calm h = absurd (All-head Calm draining es calm tt)
run_of (e ∷ es) g calm h =
    let (routes, is) = run_of es g (All-tail Calm e es calm) h.1 in
    (routes, record { firsts = is.firsts; leaves = is.leaves; counts = omega (arith, is.counts) })
