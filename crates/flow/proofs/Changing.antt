-- What changes of a network keep, and the other laws of specs/Laws.antt.
use Rattle.std.proofs.Common.{◌≡◌, ℕ, ◌+◌, ◌*◌, ◌/◌, ◌<◌, ◌≤◌, List, map, length, set, pos, ◌-ℤ◌, sym, ap, ◌∙◌, subst, ⊎_elim, arith, length-set}
use lib.ListN.{length-map}
use Rattle.std.specs.List.{All}
use Rattle.std.proofs.lemmas.List.Elements.{All-set, All-weaker, All-map, All-get_or, All-from_get_or}
use Rattle.std.proofs.lemmas.List.{get_or-map, get_or_past, set_past}
use Rattle.std.proofs.lemmas.Bool.{cases_lt}
use Rattle.std.proofs.lemmas.Bool.Decides.{nat_tests}
use Rattle.flow.specs.Bounds.{most_reaches, highest_limit}
use Rattle.flow.specs.Net.{Arc, Net, no_arc, arc_at, FairArc, Sound}
use Rattle.flow.specs.Steps.{begins, finishes, headroom}
use Rattle.flow.specs.Flows.{sum_of, out_of, into, leaving, entering}
use Rattle.flow.specs.Changes.{carrying, limiting, with_reaches, reach_changed, drained}
use Rattle.flow.specs.Laws.{KeepsSound, DrainedIsDry, TwoSteps, AmountsBounded}
use Rattle.flow.proofs.Fairness.{fair_at, fair_all, sound_from_fair}
use Rattle.flow.proofs.Sums.{sum_of-le, out_of-le, into-le, sum_of-none}

-- what holds of every reach and of the reach past the end holds of reach k, wherever k is
pub arc_has : (P : Arc → Type 0) (rs : List Arc) (k : ℕ) → All P rs → P no_arc → P (arc_at rs k)
arc_has P rs k h past =
    ⊎_elim (λ (low : k < length rs). All-get_or P rs k no_arc low h)
    (λ (high : length rs ≤ k). subst_past high) (cases_lt k (length rs))
  where
    subst_past : length rs ≤ k → P (arc_at rs k)
    subst_past high = rw (get_or_past rs k no_arc high) past

-- other reaches, as many of them and all fair, leave a network sound
resound : (g : Net) (rs : List Arc) → Sound g → length rs ≡ length g.reaches → All (FairArc g.junctions) rs → Sound (with_reaches g rs)
resound g rs s same fair =
    sound_from_fair (with_reaches g rs) s.shaped.two s.shaped.few (omega (arith, s.shaped.listed)) s.shaped.intake_in
    s.shaped.outfall_in s.shaped.ends_differ fair

-- a change of a reach that keeps it fair keeps the network sound; past the end of the list nothing changes
sound_changed : (f : Arc → Arc) (k : ℕ) (g : Net) → Sound g →
    (FairArc g.junctions (arc_at g.reaches k) → FairArc g.junctions (f (arc_at g.reaches k))) → Sound (reach_changed f k g)
sound_changed f k g s keeps = ⊎_elim inside past (cases_lt k (length g.reaches))
  where
    inside : k < length g.reaches → Sound (reach_changed f k g)
    inside low = resound g (set g.reaches k (f (arc_at g.reaches k))) s (length-set g.reaches k _)
        (All-set (FairArc g.junctions) g.reaches k _ (keeps (fair_at g s k low)) (fair_all g s))

    past : length g.reaches ≤ k → Sound (reach_changed f k g)
    past high = subst (λ (rs : List Arc). Sound (with_reaches g rs)) (sym (set_past g.reaches k _ high)) s

pub keeps_sound : KeepsSound
keeps_sound = record {
  carry = λ g k a s fits. sound_changed (carrying a) k g s (λ fair. (fair.0, fits, fair.2));
  limit = λ g k q s over under. sound_changed (limiting q) k g s (λ fair. (fair.0, over, under));
  drain = λ g s. resound g (map (carrying 0) g.reaches) s (length-map g.reaches (carrying 0))
      (All-map (FairArc g.junctions) (carrying 0) g.reaches
      (All-weaker (FairArc g.junctions) (λ r. FairArc g.junctions (carrying 0 r)) (λ r h. (h.0, omega arith, h.2)) g.reaches
      (fair_all g s)));
}

-- reach k of drained reaches, wherever k is
pub drained_at : (rs : List Arc) (k : ℕ) → arc_at (map (carrying 0) rs) k ≡ carrying 0 (arc_at rs k)
drained_at rs k = ⊎_elim
    (λ (low : k < length rs). get_or-map (carrying 0) rs k no_arc no_arc low)
    (λ (high : length rs ≤ k).
    get_or_past (map (carrying 0) rs) k no_arc (simp length-map high) ∙ ap (carrying 0) (sym (get_or_past rs k no_arc high)))
    (cases_lt k (length rs))

pub drained_is_dry : DrainedIsDry
drained_is_dry = record {
  nothing = λ g.
      let out : leaving g.intake (drained g).reaches ≡ 0 =
      sum_of-none (out_of g.intake) (carrying 0) g.reaches (λ r. grind (arith, nat_tests)) in
      let back : entering g.intake (drained g).reaches ≡ 0 =
      sum_of-none (into g.intake) (carrying 0) g.reaches (λ r. grind (arith, nat_tests)) in
      ap (λ (x : ℕ). pos x -ℤ pos (entering g.intake (drained g).reaches)) out ∙ ap (λ (x : ℕ). pos 0 -ℤ pos x) back;
  each = λ g k. drained_at g.reaches k;
}

-- the halves of an even and of an odd step
fill : (g : Net) (k : ℕ) → Sound g →
    headroom g.reaches (2 * k) + headroom g.reaches (2 * k + 1) ≡ (arc_at g.reaches k).limit
fill g k s =
    let within : (arc_at g.reaches k).carried ≤ (arc_at g.reaches k).limit =
    arc_has (λ r. r.carried ≤ r.limit) g.reaches k s.within (omega arith) in
    let even : 2 * k / 2 ≡ k = omega arith in
    let odd : (2 * k + 1) / 2 ≡ k = omega arith in
    rw (even, odd) (grind (arith, nat_tests))

forth : (rs : List Arc) (k : ℕ) → (begins rs (2 * k) ≡ (arc_at rs k).tail) × (finishes rs (2 * k) ≡ (arc_at rs k).head)
forth rs k = let even : 2 * k / 2 ≡ k = omega arith in rw even (grind (arith, nat_tests))

back : (rs : List Arc) (k : ℕ) → (begins rs (2 * k + 1) ≡ (arc_at rs k).head) × (finishes rs (2 * k + 1) ≡ (arc_at rs k).tail)
back rs k = let odd : (2 * k + 1) / 2 ≡ k = omega arith in rw odd (grind (arith, nat_tests))

pub two_steps : TwoSteps
two_steps = record { forth = forth; back = back; fill = fill }

bounded : (f : Arc → ℕ) (g : Net) → Sound g → ((r : Arc) → f r ≤ r.carried) → sum_of f g.reaches ≤ highest_limit * most_reaches
bounded f g s small =
    let each : All (λ r. f r ≤ highest_limit) g.reaches = All-from_get_or (λ r. f r ≤ highest_limit) g.reaches no_arc
    (λ k low. omega (arith, small (arc_at g.reaches k), (fair_at g s k low).1, (fair_at g s k low).2)) in
    omega (arith, sum_of-le f highest_limit g.reaches each, s.shaped.listed)

pub amounts_bounded : AmountsBounded
amounts_bounded g v s = (bounded (out_of v) g s (out_of-le v), bounded (into v) g s (into-le v))
