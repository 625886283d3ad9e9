-- The bottleneck of a network in which no route exists is the best cut.
use Rattle.std.proofs.Common.{◌≡◌, ℕ, ◌+◌, ◌-◌, ◌*◌, ◌<◌, ◌≤◌, Bool, true, false, cond, List, [], ◌∷◌, ◌++◌, pos, refl, sym, ap, ◌∙◌, subst, ⊎_elim, arith}
use Rattle.std.specs.List.{All}
use Rattle.std.specs.Prelude.{◌≤ℤ◌, IsTrue}
use Rattle.std.proofs.lemmas.List.Elements.{All-weaker, All-get_or, All-from_get_or}
use Rattle.std.proofs.lemmas.Bool.{cases_Bool}
use Rattle.std.proofs.lemmas.Bool.Decides.{same_from_decides}
use Rattle.std.proofs.lemmas.Int.{ints}
use Rattle.flow.specs.Net.{Arc, Net, no_arc, arc_at, Joined, Shaped}
use Rattle.flow.specs.Steps.{along_reach, goes_back, arc_of, begins_at, finishes_at, headroom_at, begins, finishes, IsOpen}
use Rattle.flow.specs.Flows.{sum_of, delivered, IsFlow}
use Rattle.flow.specs.Changes.{Alike}
use Rattle.flow.specs.Routes.{IsWalk, Finished}
use Rattle.flow.specs.Cuts.{Side, IsCut, crosses, limit_across, cut_sum, crossing_count, IsBottleneck, IsBest, Agree}
use Rattle.flow.specs.CutLaws.{amount_across, carried_across, exchanged}
use Rattle.flow.proofs.Sums.{sum_of-same, sum_of-zero, sum_of-tight}
use Rattle.flow.proofs.Walks.{open_in, ends_in, headroom-forth, headroom-back, IsWalk-append}
use Rattle.flow.proofs.Changing.{two_steps}
use Rattle.flow.proofs.Likeness.{bare-alike, Shaped-alike, junctions-alike, cut_sum-alike, crossing_count-alike, IsCut-alike}
use Rattle.flow.proofs.Cutting.{cut_balance, amount_across-le, carried_across-le}

-- no open step leaves the near side
abbrev pub Closed : Side → List Arc → Type 0
Closed near rs = (s : ℕ) → IsOpen rs s → IsTrue (near (begins rs s)) → IsTrue (near (finishes rs s))

-- where a reach crosses, it is full; where it crosses back, it carries nothing
pub record IsShut (near : Side) (r : Arc) : Type 0 where
  pub full : amount_across near r ≡ limit_across near r
  pub dry : amount_across (exchanged near) r ≡ 0

-- the near side is closed exactly when every reach is shut
shut_from_closed : (near : Side) (rs : List Arc) → All (λ r. r.carried ≤ r.limit) rs → Closed near rs →
    All (IsShut near) rs
shut_from_closed near rs within closed =
    All-from_get_or (IsShut near) rs no_arc (λ k low. shut k (All-get_or (λ r. r.carried ≤ r.limit) rs k no_arc low within))
  where
    forth : (k : ℕ) → 0 < (arc_at rs k).limit - (arc_at rs k).carried →
        near (arc_at rs k).tail ≡ true → near (arc_at rs k).head ≡ true
    forth k = rw (headroom-forth rs k, (two_steps.forth rs k).0, (two_steps.forth rs k).1) at (closed (2 * k))

    back : (k : ℕ) → 0 < (arc_at rs k).carried → near (arc_at rs k).head ≡ true → near (arc_at rs k).tail ≡ true
    back k = rw (headroom-back rs k, (two_steps.back rs k).0, (two_steps.back rs k).1) at (closed (2 * k + 1))

    shut : (k : ℕ) → (arc_at rs k).carried ≤ (arc_at rs k).limit → IsShut near (arc_at rs k)
    shut k fits = record { full = grind (arith, forth k); dry = grind (arith, back k) }

closed_from_shut : (near : Side) (rs : List Arc) → All (IsShut near) rs → Closed near rs
closed_from_shut near rs shut s opens =
    either (goes_back s) (All-get_or (IsShut near) rs (along_reach s) no_arc (open_in rs s opens) shut) opens
  where
    either : (back : Bool) → IsShut near (arc_of rs s) → 0 < headroom_at back (arc_of rs s) →
        near (begins_at back (arc_of rs s)) ≡ true → near (finishes_at back (arc_of rs s)) ≡ true
    either true is opens from = grind (arith, is.dry)
    either false is opens from = grind (arith, is.full)

-- and then what crosses is the sum of the cut, and nothing crosses back
full_sum : (near : Side) (rs : List Arc) → All (IsShut near) rs → carried_across near rs ≡ cut_sum near rs
full_sum near rs shut = sum_of-same (amount_across near) (limit_across near) rs
    (All-weaker (IsShut near) (λ r. amount_across near r ≡ limit_across near r) (λ r is. is.full) rs shut)

dry_sum : (near : Side) (rs : List Arc) → All (IsShut near) rs → carried_across (exchanged near) rs ≡ 0
dry_sum near rs shut = sum_of-zero (amount_across (exchanged near)) rs
    (All-weaker (IsShut near) (λ r. amount_across (exchanged near) r ≡ 0) (λ r is. is.dry) rs shut)

shut_from_sums : (near : Side) (rs : List Arc) → All (λ r. r.carried ≤ r.limit) rs →
    carried_across near rs ≡ cut_sum near rs → carried_across (exchanged near) rs ≡ 0 → All (IsShut near) rs
shut_from_sums near rs within across back k d low = record {
  full = sum_of-tight (amount_across near) (limit_across near) (λ r. r.carried ≤ r.limit) (amount_across-le near) rs within
      across k d low;
  dry = sym (sum_of-tight (λ r. 0) (amount_across (exchanged near)) (λ r. r.carried ≤ r.limit) (λ r fits. omega arith)
      rs within (sum_of-zero (λ r. 0) rs (λ i e less. refl) ∙ sym back) k d low);
}

-- a walk from a near junction stays near
pub near_along : (near : Side) (rs : List Arc) → Closed near rs → (from : ℕ) (ss : List ℕ) (to : ℕ) →
    IsWalk rs from ss to → IsTrue (near from) → IsTrue (near to)
near_along near rs closed from [] to w start = subst (λ v. near v ≡ true) w start
near_along near rs closed from (s ∷ ss) to w start =
    near_along near rs closed (finishes rs s) ss to w.2 (closed s w.1 (ap near w.0 ∙ start))

module _ (g : Net) (near : Side) (shaped : Shaped g) (flow : IsFlow g) (finished : Finished g)
    (is : IsBottleneck g near) where
  bottleneck_cut : IsCut g near
  bottleneck_cut = record {
    intake_near = (is g.intake shaped.intake_in).1 ([], refl);
    outfall_far = ⊎_elim reached (λ (far : near g.outfall ≡ false). far) (cases_Bool (near g.outfall));
  }
    where
      reached : near g.outfall ≡ true → near g.outfall ≡ false
      reached there = let w = (is g.outfall shaped.outfall_in).0 there in absurd (finished w.0 w.1)

  bottleneck_closed : Closed near g.reaches
  bottleneck_closed s opens from =
      let ends = ends_in g.junctions g.reaches s shaped.joined opens in
      let w = (is (begins g.reaches s) ends.0).0 from in
      let more = IsWalk-append g.reaches g.intake w.0 (begins g.reaches s) (s ∷ []) (finishes g.reaches s) w.1 in
      (is (finishes g.reaches s) ends.1).1 (w.0 ++ s ∷ [], more (refl, opens, refl))

  bottleneck_tight : delivered g ≡ pos (cut_sum near g.reaches)
  bottleneck_tight =
      let shut = shut_from_closed near g.reaches flow.within bottleneck_closed in
      let balance = cut_balance g near shaped flow bottleneck_cut in
      omega (arith, ints, full_sum near g.reaches shut, dry_sum near g.reaches shut)

  bottleneck_most : (h : Net) → Alike g h → IsFlow h → delivered h ≤ℤ delivered g
  bottleneck_most h a fits =
      let balance = cut_balance h near (Shaped-alike g h a shaped) fits (IsCut-alike near g h a bottleneck_cut) in
      let same = cut_sum-alike near g.reaches h.reaches (bare-alike g h a) in
      omega (arith, ints, bottleneck_tight, carried_across-le near h.reaches fits.within)

  bottleneck_least : (other : Side) → IsCut g other → cut_sum near g.reaches ≤ cut_sum other g.reaches
  bottleneck_least other c =
      let balance = cut_balance g other shaped flow c in
      omega (arith, ints, bottleneck_tight, carried_across-le other g.reaches flow.within)

  bottleneck_nearest : (other : Side) → IsCut g other → cut_sum other g.reaches ≡ cut_sum near g.reaches →
      (v : ℕ) → v < g.junctions → IsTrue (near v) → IsTrue (other v)
  bottleneck_nearest other c same v low there =
      let most = carried_across-le other g.reaches flow.within in
      let balance = cut_balance g other shaped flow c in
      let back : carried_across (exchanged other) g.reaches ≡ 0 = omega (arith, ints, bottleneck_tight) in
      let across : carried_across other g.reaches ≡ cut_sum other g.reaches = omega (arith, ints, bottleneck_tight) in
      let closed = closed_from_shut other g.reaches (shut_from_sums other g.reaches flow.within across back) in
      let w = (is v low).0 there in
      near_along other g.reaches closed g.intake w.0 v w.1 c.intake_near

  pub best_cut : IsBest g near
  best_cut = record {
    cut = bottleneck_cut;
    tight = bottleneck_tight;
    most = bottleneck_most;
    least = bottleneck_least;
    nearest = bottleneck_nearest;
  }

-- two sides that agree at every junction are crossed by the same reaches, so what these add up to is the same
pub crossing-same : (near other : Side) (n : ℕ) (r : Arc) → Joined n r → ((v : ℕ) → v < n → near v ≡ other v) →
    crosses near r ≡ crosses other r
crossing-same near other n r j same =
    let tails : near r.tail ≡ other r.tail = same r.tail j.0 in
    let heads : near r.head ≡ other r.head = same r.head j.1 in
    cc

module _ (near other : Side) (n : ℕ) (rs : List Arc) (joined : All (Joined n) rs)
    (same : (v : ℕ) → v < n → near v ≡ other v) where
  crossing_sum-same : (f : Bool → Arc → ℕ) → sum_of (λ r. f (crosses near r) r) rs ≡ sum_of (λ r. f (crosses other r) r) rs
  crossing_sum-same f = sum_of-same _ _ rs
      (All-weaker (Joined n) (λ r. f (crosses near r) r ≡ f (crosses other r) r)
      (λ r j. ap (λ (b : Bool). f b r) (crossing-same near other n r j same)) rs joined)

  pub cut_sum-same : cut_sum near rs ≡ cut_sum other rs
  cut_sum-same = crossing_sum-same (λ b r. cond b r.limit 0)

  pub crossing_count-same : crossing_count near rs ≡ crossing_count other rs
  crossing_count-same = crossing_sum-same (λ b r. cond b 1 0)

-- two finished networks that are alike
module _ (g h : Net) (near other : Side) (a : Alike g h) (flow : IsFlow g) (flow' : IsFlow h) (best : IsBest g near)
    (best' : IsBest h other) where
  same_delivered : delivered g ≡ delivered h
  same_delivered = omega (arith, ints, best.most h a flow', best'.most g (sym a) flow)

  same_sum : cut_sum near g.reaches ≡ cut_sum other h.reaches
  same_sum = omega (arith, ints, same_delivered, best.tight, best'.tight)

  contained : (v : ℕ) → v < g.junctions → IsTrue (other v) → IsTrue (near v)
  contained v low there =
      let equal : cut_sum near h.reaches ≡ cut_sum other h.reaches =
      sym (cut_sum-alike near g.reaches h.reaches (bare-alike g h a)) ∙ same_sum in
      best'.nearest near (IsCut-alike near g h a best.cut) equal v (omega (arith, junctions-alike g h a)) there

pub agreed : (g h : Net) (near other : Side) → Shaped g → Alike g h → IsFlow g → IsFlow h → IsBest g near → IsBest h other →
    Agree g h near other
agreed g h near other shaped a flow flow' best best' = record {
  delivers = same_delivered g h near other a flow flow' best best';
  sides = sides;
  sums = same_sum g h near other a flow flow' best best';
  counts = crossing_count-same near other g.junctions g.reaches shaped.joined sides
      ∙ crossing_count-alike other g.reaches h.reaches (bare-alike g h a);
}
  where
    sides : (v : ℕ) → v < g.junctions → near v ≡ other v
    sides v low = same_from_decides {P = IsTrue (near v)} (near v) (other v) (λ e. e, λ e. e) (
      contained g h near other a flow flow' best best' v low,
      contained h g other near (sym a) flow' flow best' best v (omega (arith, junctions-alike g h a)),
    )
