-- Every history of a network that was commissioned and dry keeps the promise.
use Rattle.std.proofs.Common.{◌≡◌, ℕ, ◌-◌, ◌*◌, ◌≤◌, List, ◌∷◌, ◌++◌, length, pos, sym, ap, ◌∙◌, ap₂, subst, arith}
use Rattle.std.specs.List.{All}
use Rattle.std.specs.Prelude.{◌≤ℤ◌}
use Rattle.flow.specs.Net.{Net}
use Rattle.flow.specs.Flows.{delivered, IsFlow}
use Rattle.flow.specs.Changes.{Alike}
use Rattle.flow.specs.Routes.{IsShortest, IsFirst}
use Rattle.flow.specs.Pushes.{pushed_all}
use Rattle.flow.specs.Cuts.{Side, IsBottleneck, IsBest, Agree}
use Rattle.flow.specs.Histories.{Outcome, Event, settling, bottleneck, after_calls, marked, IsHistory, CommissionedDry, StandsFinished, routes_counted}
use Rattle.flow.specs.Promises.{PromiseKept}
use Rattle.flow.proofs.Besting.{best_cut, agreed}
use Rattle.flow.proofs.Finding.{bottleneck_found}
use Rattle.flow.proofs.Running.{runs_bounded}
use Rattle.flow.proofs.Machining.{EachPushed-at, shortest_from_first}
use Rattle.flow.proofs.Lasting.{IsHistory-before, IsHistory-behind, Lasting, lasting, dry_flow, stands_finished, Calm, run_of}
use Rattle.flow.proofs.Adding.{adds_up, dry_delivers}

-- the promise
module _ (start : Net) (events : List Event) (commissioned : CommissionedDry start) (history : IsHistory events start) where
  abbrev end : Net
  end = after_calls events start

  at_end : Lasting start (after_calls events start)
  at_end = lasting events start commissioned history

  -- at a moment, and what came from there on
  at_moment : (before behind : List Event) → events ≡ before ++ behind → Lasting start (after_calls before start)
  at_moment before behind are = lasting before start commissioned
      (IsHistory-before before behind start (subst (λ es. IsHistory es start) are history))

  from_moment : (before behind : List Event) → events ≡ before ++ behind → IsHistory behind (after_calls before start)
  from_moment before behind are =
      IsHistory-behind before behind start (subst (λ es. IsHistory es start) are history)

  counted : (before part behind : List Event) → events ≡ before ++ (part ++ behind) → All Calm part →
      routes_counted part ≤ length end.reaches * (end.junctions - 1)
  counted before part behind are calm =
      let at : Net = after_calls before start in
      let x = at_moment before (part ++ behind) are in
      let here = IsHistory-before part behind at (from_moment before (part ++ behind) are) in
      let (routes, run) = run_of part at calm here in
      let most = (runs_bounded at routes x.shaped (shortest_from_first at routes run.firsts)).total in
      let n : at.junctions ≡ end.junctions = sym x.junctions ∙ at_end.junctions in
      let m : length at.reaches ≡ length end.reaches = sym x.reaches ∙ at_end.reaches in
      let same : length at.reaches * (at.junctions - 1) ≡ length end.reaches * (end.junctions - 1) =
      ap₂ (λ (a b : ℕ). a * (b - 1)) m n in
      omega (arith, run.counts)

  shortest : (before behind : List Event) (budget : ℕ) (first : List (List ℕ)) (ss : List ℕ) (later : List (List ℕ))
      (answer : Outcome) → events ≡ before ++ settling budget (first ++ ss ∷ later) answer ∷ behind →
      IsShortest (pushed_all first (after_calls before start)) ss
  shortest before behind budget first ss later answer are =
      let x = from_moment before (settling budget (first ++ ss ∷ later) answer ∷ behind) are in
      (EachPushed-at IsFirst (after_calls before start) first ss later x.0.settles.firsts).shortest

  answered : (before behind : List Event) (marks : List ℕ) (sum crossing : ℕ) →
      events ≡ before ++ bottleneck marks sum crossing ∷ behind →
      IsBest (after_calls before start) (marked marks) × (delivered (after_calls before start) ≡ pos sum)
  answered before behind marks sum crossing are =
      let x = at_moment before (bottleneck marks sum crossing ∷ behind) are in
      let named = (from_moment before (bottleneck marks sum crossing ∷ behind) are).0 in
      let best = best_cut (after_calls before start) (marked marks) x.shaped x.flow named.finished named.near in
      (best, best.tight ∙ ap pos (sym named.sums))

  pub best_at_end : StandsFinished events → (near : Side) → IsBottleneck end near → IsBest end near
  best_at_end f = λ near. best_cut end near at_end.shaped at_end.flow (stands_finished events start history f)

  most : StandsFinished events → (other : Net) → Alike end other → IsFlow other → delivered other ≤ℤ delivered end
  most f = let (near, is) = bottleneck_found end at_end.shaped in (best_at_end f near is).most

-- two networks that stand finished
same_for_all : (start : Net) (events : List Event) (c : CommissionedDry start) (h : IsHistory events start)
    (f : StandsFinished events) (begun : Net) (calls : List Event) (c' : CommissionedDry begun) (h' : IsHistory calls begun)
    (f' : StandsFinished calls) → Alike (after_calls events start) (after_calls calls begun) → (near other : Side) →
    IsBottleneck (after_calls events start) near → IsBottleneck (after_calls calls begun) other →
    Agree (after_calls events start) (after_calls calls begun) near other
same_for_all start events c h f begun calls c' h' f' a near other is is' =
    let x = lasting events start c h in
    let y = lasting calls begun c' h' in
    agreed (after_calls events start) (after_calls calls begun) near other x.shaped a x.flow y.flow
    (best_at_end start events c h f near is) (best_at_end begun calls c' h' f' other is')

pub promise_kept : PromiseKept
promise_kept start events c h = record {
  flow = (lasting events start c h).flow;
  adds = adds_up events start 0 c.shaped (dry_flow start c) (dry_delivers start c) h;
  most = most start events c h;
  found = bottleneck_found (after_calls events start) (lasting events start c h).shaped;
  cut = λ f near is. (best_at_end start events c h f near is).cut;
  tight = λ f near is. (best_at_end start events c h f near is).tight;
  least = λ f near is. (best_at_end start events c h f near is).least;
  nearest = λ f near is. (best_at_end start events c h f near is).nearest;
  same = same_for_all start events c h;
  bounded = counted start events c h;
  shortest = shortest start events c h;
  answered = answered start events c h;
}
