-- How many open steps lead from one junction to another. The distances to the outfall are labels.
use Rattle.std.proofs.Common.{◌≡◌, ℕ, zero, suc, ◌+◌, ◌-◌, ◌*◌, ◌<◌, ◌≤◌, ◌⊎◌, Bool, true, false, cond, ◌&&◌, List, [], ◌∷◌, length, ◌==◌, refl, ap, inl, inr, ⊎_elim, arith}
use Rattle.std.specs.Bool.{Decides}
use Rattle.std.specs.Prelude.{nat_lt}
use Rattle.std.specs.List.{All}
use Rattle.std.proofs.lemmas.Bool.{cases_eq, cases_lt, cases_Bool, both_ways, or_cases, or_left, or_right}
use Rattle.std.proofs.lemmas.Bool.Decides.{nat_tests, Decides-and, Decides-ltb, Decides-eqb, Decides-below_or}
use Rattle.flow.specs.Net.{Arc, Net, Joined, Shaped}
use Rattle.flow.specs.Steps.{begins, finishes, headroom, IsOpen}
use Rattle.flow.specs.Routes.{IsWalk, IsRoute, IsShortest}
use Rattle.flow.specs.Labels.{Labels}
use Rattle.flow.specs.Bottlenecks.{any_below, leads_within}
use Rattle.flow.proofs.Junctions.{sum_below, sum_below-le, sum_below-zero, sum_below-const, pigeons}
use Rattle.flow.proofs.Walks.{open_in, ends_in}

-- a walk of at most k steps
pub record WalkWithin (rs : List Arc) (from to k : ℕ) : Type 0 where
  pub steps : List ℕ
  pub walk : IsWalk rs from steps to
  pub short : length steps ≤ k

module _ (rs : List Arc) (to k v : ℕ) where
  abbrev leads_on : ℕ → Bool
  leads_on s = nat_lt 0 (headroom rs s) && ((begins rs s == v) && leads_within rs to k (finishes rs s))

  abbrev LeadsOn : ℕ → Type 0
  LeadsOn s = IsOpen rs s × ((begins rs s ≡ v) × (leads_within rs to k (finishes rs s) ≡ true))

  some_leads_on : Decides (any_below leads_on (2 * length rs)) ((s : ℕ) × (s < 2 * length rs) × LeadsOn s)
  some_leads_on = Decides-below_or leads_on LeadsOn (any_below leads_on)
      (λ s. Decides-and _ _ (Decides-ltb 0 (headroom rs s)) (Decides-and _ _ (Decides-eqb (begins rs s) v) (λ e. e, λ e. e)))
      refl (λ n. refl) (2 * length rs)

pub walk_from_near : (rs : List Arc) (to k v : ℕ) → leads_within rs to k v ≡ true → WalkWithin rs v to k
walk_from_near rs to zero v near = record { steps = []; walk = grind (arith, nat_tests); short = omega arith }
walk_from_near rs to (suc k) v near = ⊎_elim
    (λ (closer : leads_within rs to k v ≡ true).
    let x = walk_from_near rs to k v closer in record { steps = x.steps; walk = x.walk; short = omega (arith, x.short) })
    (λ further. onward ((some_leads_on rs to k v).0 further) (λ u there. walk_from_near rs to k u there))
    (or_cases (leads_within rs to k v) _ near)
  where
    onward : (s : ℕ) × (s < 2 * length rs) × LeadsOn rs to k v s →
        ((u : ℕ) → leads_within rs to k u ≡ true → WalkWithin rs u to k) → WalkWithin rs v to (suc k)
    onward (s, low, leads) rest =
        let x = rest (finishes rs s) leads.1.1 in
        record { steps = s ∷ x.steps; walk = (leads.1.0, leads.0, x.walk); short = omega (arith, x.short) }

pub near_from_walk : (rs : List Arc) (to k v : ℕ) (ss : List ℕ) → IsWalk rs v ss to → length ss ≤ k → leads_within rs to k v ≡ true
near_from_walk rs to zero v [] w short = grind (arith, nat_tests)
near_from_walk rs to zero v (s ∷ ss) w short = absurd (omega arith)
near_from_walk rs to (suc k) v [] w short = or_left (leads_within rs to k v) _ (near_from_walk rs to k v [] w (omega arith))
near_from_walk rs to (suc k) v (s ∷ ss) w short =
    let rest = near_from_walk rs to k (finishes rs s) ss w.2 (omega arith) in
    let low = open_in rs s w.1 in
    or_right (leads_within rs to k v) _ ((some_leads_on rs to k v).1 (s, omega arith, (w.1, (w.0, rest))))

-- how many steps the shortest walk has; m, where none of fewer than m steps leads there
abbrev far : List Arc → ℕ → ℕ → ℕ → ℕ
far rs to v k = cond (leads_within rs to k v) 0 1

abbrev pub distance : List Arc → ℕ → ℕ → ℕ → ℕ
distance rs to m v = sum_below (far rs to v) m

far_le : (near : Bool) → cond near 0 1 ≤ 1
far_le true = omega arith
far_le false = omega arith

pub distance_le : (rs : List Arc) (to m v : ℕ) → distance rs to m v ≤ m
distance_le rs to m v =
    let each = sum_below-le (far rs to v) (λ k. 1) m (λ k low. far_le (leads_within rs to k v)) in
    omega (arith, sum_below-const 1 m)

-- where the distance is below m, a walk has no more steps
pub walk_within : (rs : List Arc) (to m v : ℕ) → distance rs to m v < m → WalkWithin rs v to (distance rs to m v)
walk_within rs to zero v low = absurd (omega arith)
walk_within rs to (suc m) v low =
    ⊎_elim (near (walk_within rs to m v)) (apart (walk_within rs to m v)) (cases_Bool (leads_within rs to m v))
  where
    d : ℕ
    d = distance rs to m v

    near : (d < m → WalkWithin rs v to d) → leads_within rs to m v ≡ true → WalkWithin rs v to (distance rs to (suc m) v)
    near shorter is = ⊎_elim
        (λ (less : d < m).
        let x = shorter less in record { steps = x.steps; walk = x.walk; short = omega (arith, x.short) })
        (λ (all : m ≤ d).
        let x = walk_from_near rs to m v is in record { steps = x.steps; walk = x.walk; short = omega (arith, x.short) })
        (cases_lt d m)

    apart : (d < m → WalkWithin rs v to d) → leads_within rs to m v ≡ false → WalkWithin rs v to (distance rs to (suc m) v)
    apart shorter not =
        let one : far rs to v m ≡ 1 = rw not refl in
        let x = shorter (omega arith) in
        absurd (both_ways (leads_within rs to m v) not (near_from_walk rs to m v x.steps x.walk (omega (arith, x.short))))

-- distances are labels
shifted_sum : (f h : ℕ → ℕ) → f 0 ≤ 1 → ((k : ℕ) → f (suc k) ≤ h k) → (m : ℕ) → f m + sum_below f m ≤ sum_below h m + 1
shifted_sum f h first next zero = omega arith
shifted_sum f h first next (suc m) = omega (arith, shifted_sum f h first next m, next m)

far_here : (rs : List Arc) (to k : ℕ) → far rs to to k ≡ 0
far_here rs to k = let here : leads_within rs to k to ≡ true = near_from_walk rs to k to [] refl (omega arith) in rw here refl

far_step : (rs : List Arc) (to k s : ℕ) → IsOpen rs s → far rs to (begins rs s) (suc k) ≤ far rs to (finishes rs s) k
far_step rs to k s opens = ⊎_elim
    (λ (near : leads_within rs to k (finishes rs s) ≡ true).
    let x = walk_from_near rs to k (finishes rs s) near in
    let here : leads_within rs to (suc k) (begins rs s) ≡ true =
    near_from_walk rs to (suc k) (begins rs s) (s ∷ x.steps) (refl, opens, x.walk) (omega (arith, x.short)) in
    let none : far rs to (begins rs s) (suc k) ≡ 0 = rw here refl in
    omega arith)
    (λ (not : leads_within rs to k (finishes rs s) ≡ false).
    let one : far rs to (finishes rs s) k ≡ 1 = rw not refl in
    omega (arith, far_le (leads_within rs to (suc k) (begins rs s))))
    (cases_Bool (leads_within rs to k (finishes rs s)))

pub distance_labels : (g : Net) (m : ℕ) → Labels g (distance g.reaches g.outfall m)
distance_labels g m = record {
  outfall = sum_below-zero (far g.reaches g.outfall g.outfall) m (λ k low. far_here g.reaches g.outfall k);
  falls = λ s opens.
      let from = far g.reaches g.outfall (begins g.reaches s) in
      let to = far g.reaches g.outfall (finishes g.reaches s) in
      let first = far_le (leads_within g.reaches g.outfall 0 (begins g.reaches s)) in
      omega (arith, shifted_sum from to first (λ k. far_step g.reaches g.outfall k s opens) m);
}

-- each number from the label at the end of a walk to that at its start is the label of some junction on it
levels : (g : Net) (label : ℕ → ℕ) → All (Joined g.junctions) g.reaches → Labels g label →
    (from : ℕ) (ss : List ℕ) (to : ℕ) → from < g.junctions → IsWalk g.reaches from ss to →
    (i : ℕ) → i ≤ label from → label to ≤ i → (v : ℕ) × (v < g.junctions) × (label v ≡ i)
levels g label joined h from [] to low w i below above = (from, low, omega (arith, ap label w))
levels g label joined h from (s ∷ ss) to low w i below above = ⊎_elim (λ (same : label from ≡ i). (from, low, same))
    (λ (ne : label from ≡ i → ⊥).
    let next = (ends_in g.junctions g.reaches s joined w.1).1 in
    let one = h.falls s w.1 in
    levels g label joined h (finishes g.reaches s) ss to next w.2 i (omega (arith, ap label w.0)) above)
    (cases_eq (label from) i)

-- so a junction from which steps lead to another is fewer than n steps away from it
pub distance_below : (g : Net) → All (Joined g.junctions) g.reaches → (from to : ℕ) (ss : List ℕ) → from < g.junctions →
    IsWalk g.reaches from ss to → distance g.reaches to g.junctions from < g.junctions
distance_below g joined from to ss low w =
    ⊎_elim (λ (less : label from < g.junctions). less) (λ all. absurd (too_many all)) (cases_lt (label from) g.junctions)
  where
    label : ℕ → ℕ
    label = distance g.reaches to g.junctions

    -- the network with the other junction for its outfall
    towards : Net
    towards = record { junctions = g.junctions; intake = g.intake; outfall = to; reaches = g.reaches }

    too_many : g.junctions ≤ label from → ⊥
    too_many all =
        let h = distance_labels towards g.junctions in
        let each = λ (i : ℕ) (less : i < g.junctions + 1).
        levels towards label joined h from ss to low w i (omega arith) (omega (arith, h.outfall)) in
        omega (arith, pigeons label (g.junctions + 1) g.junctions each)

-- a shortest route has from 1 to n − 1 steps
pub shortest_length : (g : Net) (ss : List ℕ) → Shaped g → IsShortest g ss →
    (1 ≤ length ss) × (length ss ≤ g.junctions - 1)
shortest_length g ss shaped is = (some ss is.route, few)
  where
    some : (ts : List ℕ) → IsRoute g ts → 1 ≤ length ts
    some [] r = absurd (shaped.ends_differ r)
    some (t ∷ ts) r = omega arith

    few : length ss ≤ g.junctions - 1
    few =
        let below = distance_below g shaped.joined g.intake g.outfall ss shaped.intake_in is.route in
        let x = walk_within g.reaches g.outfall g.junctions g.intake below in
        omega (arith, is.least x.steps x.walk, x.short)

-- there are labels whose intake has the length of a shortest route
pub shortest_labels : (g : Net) (ss : List ℕ) → IsShortest g ss →
    (label : ℕ → ℕ) × Labels g label × (label g.intake ≡ length ss)
shortest_labels g ss is = (label, distance_labels g (length ss), tight (cases_lt (label g.intake) (length ss)))
  where
    label : ℕ → ℕ
    label = distance g.reaches g.outfall (length ss)

    tight : (label g.intake < length ss) ⊎ (length ss ≤ label g.intake) → label g.intake ≡ length ss
    tight (inl less) =
        let x = walk_within g.reaches g.outfall (length ss) g.intake less in
        absurd (omega (arith, is.least x.steps x.walk, x.short))
    tight (inr more) = omega (arith, distance_le g.reaches g.outfall (length ss) g.intake)
