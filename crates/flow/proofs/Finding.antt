-- What can be found in every network: the bottleneck, exact labels, and the first shortest route or that there is none.
use Rattle.std.proofs.Common.{◌≡◌, ℕ, zero, suc, ◌+◌, ◌*◌, ◌<◌, ◌≤◌, ◌≢◌, ◌⊎◌, Bool, true, false, ◌&&◌, List, [], ◌∷◌, length, ◌==◌, refl, ap, ◌∙◌, inl, inr, ⊎_elim, arith}
use Rattle.std.specs.Bool.{Decides}
use Rattle.std.specs.Prelude.{nat_lt}
use Rattle.std.specs.List.{AllByRecursion}
use Rattle.std.proofs.lemmas.List.Elements.{All-from_recursion}
use Rattle.std.proofs.lemmas.Bool.{cases_eq, cases_lt, both_ways, ltb-true, lt-ltb}
use Rattle.std.proofs.lemmas.Bool.Decides.{Decides-and, Decides-ltb, Decides-eqb}
use Rattle.flow.specs.Net.{Arc, Net, Shaped}
use Rattle.flow.specs.Steps.{begins, finishes, headroom, IsOpen}
use Rattle.flow.specs.Routes.{IsWalk, Finished, Reached, IsFirst}
use Rattle.flow.specs.Cuts.{Side, IsBottleneck}
use Rattle.flow.specs.Labels.{Labels, IsAdmissible, IsFirstAdmissible, ExactLabels}
use Rattle.flow.proofs.Walks.{open_in, ends_in}
use Rattle.flow.proofs.Order.{FirstBelow, first_below}
use Rattle.flow.proofs.Labelling.{labels_bound}
use Rattle.flow.proofs.Firsts.{first_from_labels}
use Rattle.flow.proofs.Distances.{distance, distance_le, walk_within, distance_labels, distance_below}

-- every network has a bottleneck: the junctions that are fewer than n steps from the intake
pub bottleneck_found : (g : Net) → Shaped g → (near : Side) × IsBottleneck g near
bottleneck_found g shaped = (λ v. nat_lt (away v) g.junctions, λ v low. (reached v, near v))
  where
    away : ℕ → ℕ
    away v = distance g.reaches v g.junctions g.intake

    reached : (v : ℕ) → nat_lt (away v) g.junctions ≡ true → Reached g v
    reached v is = let x = walk_within g.reaches v g.junctions g.intake (ltb-true _ _ is) in (x.steps, x.walk)

    near : (v : ℕ) → Reached g v → nat_lt (away v) g.junctions ≡ true
    near v r = lt-ltb _ _ (distance_below g shaped.joined g.intake v r.0 shaped.intake_in r.1)

-- from a junction labelled n or more no walk leads to the outfall
pub no_walk : (g : Net) (label : ℕ → ℕ) (v : ℕ) → Shaped g → Labels g label → v < g.junctions → g.junctions ≤ label v →
    (ss : List ℕ) → ¬ IsWalk g.reaches v ss g.outfall
no_walk g label v shaped h low high ss w =
    let below = distance_below g shaped.joined v g.outfall ss low w in
    let x = walk_within g.reaches g.outfall g.junctions v below in
    omega (arith, labels_bound g label h v x.steps g.outfall x.walk, h.outfall, x.short)

pub high_finished : (g : Net) (label : ℕ → ℕ) → Shaped g → Labels g label → g.junctions ≤ label g.intake → Finished g
high_finished g label shaped h high = no_walk g label g.intake shaped h shaped.intake_in high

-- distances up to n are exact labels
pub exact_found : (g : Net) → Shaped g → (label : ℕ → ℕ) × ExactLabels g label × ((v : ℕ) → label v ≤ g.junctions)
exact_found g shaped =
    (label, record { labels = distance_labels g g.junctions; next = next }, distance_le g.reaches g.outfall g.junctions)
  where
    label : ℕ → ℕ
    label = distance g.reaches g.outfall g.junctions

    first_step : (v : ℕ) (ss : List ℕ) → v ≢ g.outfall → IsWalk g.reaches v ss g.outfall → length ss ≤ label v →
        (s : ℕ) × (begins g.reaches s ≡ v) × IsAdmissible label g.reaches s
    first_step v [] ne w short = absurd (ne w)
    first_step v (s ∷ ss) ne w short =
        let h = distance_labels g g.junctions in
        let rest = labels_bound g label h (finishes g.reaches s) ss g.outfall w.2 in
        (s, w.0, record { opens = w.1; falls = omega (arith, rest, h.outfall, h.falls s w.1, short, ap label w.0) })

    next : (v : ℕ) → v < g.junctions → v ≢ g.outfall → label v < g.junctions →
        (s : ℕ) × (begins g.reaches s ≡ v) × IsAdmissible label g.reaches s
    next v low ne less =
        let x = walk_within g.reaches g.outfall g.junctions v less in first_step v x.steps ne x.walk x.short

-- where a junction has an admissible step, it has a first one
module _ (label : ℕ → ℕ) (rs : List Arc) (v : ℕ) where
  abbrev passes : ℕ → Bool
  passes t = nat_lt 0 (headroom rs t) && ((begins rs t == v) && (label (begins rs t) == label (finishes rs t) + 1))

  abbrev Passes : ℕ → Type 0
  Passes t = IsOpen rs t × ((begins rs t ≡ v) × (label (begins rs t) ≡ label (finishes rs t) + 1))

  decided : (t : ℕ) → Decides (passes t) (Passes t)
  decided t =
      let falls = Decides-eqb (label (begins rs t)) (label (finishes rs t) + 1) in
      Decides-and _ _ (Decides-ltb 0 (headroom rs t)) (Decides-and _ _ (Decides-eqb (begins rs t) v) falls)

  first_admissible : (s : ℕ) → begins rs s ≡ v → IsAdmissible label rs s →
      (t : ℕ) × (begins rs t ≡ v) × IsFirstAdmissible label rs t
  first_admissible s at is = either (first_below passes (2 * length rs))
    where
      either : ((t : ℕ) × FirstBelow passes (2 * length rs) t) ⊎ ((t : ℕ) → t < 2 * length rs → passes t ≡ false) →
          (t : ℕ) × (begins rs t ≡ v) × IsFirstAdmissible label rs t
      either (inl (t, f)) =
          let x = (decided t).0 f.passes in
          let test = λ (u : ℕ) (there : begins rs u ≡ begins rs t) (a : IsAdmissible label rs u).
          (decided u).1 (a.opens, (there ∙ x.1.0, a.falls)) in (
            t,
            x.1.0,
            record {
              admissible = record { opens = x.0; falls = x.1.1 };
              first = λ u there a. f.first u (omega (arith, open_in rs u a.opens)) (test u there a);
            },
          )
      either (inr none) =
          let low = open_in rs s is.opens in
          absurd (both_ways (passes s) (none s (omega arith)) ((decided s).1 (is.opens, (at, is.falls))))

-- exact labels lead to the outfall along first admissible steps
pub record FirstWalk (g : Net) (label : ℕ → ℕ) (v : ℕ) : Type 0 where
  pub steps : List ℕ
  pub walk : IsWalk g.reaches v steps g.outfall
  pub firsts : AllByRecursion (IsFirstAdmissible label g.reaches) steps
  pub long : length steps ≡ label v

walk_from_exact : (g : Net) (label : ℕ → ℕ) → Shaped g → ExactLabels g label → (m v : ℕ) → label v ≡ m →
    v < g.junctions → label v < g.junctions → FirstWalk g label v
walk_from_exact g label shaped exact zero v is low less = ⊎_elim
    (λ (there : v ≡ g.outfall). record { steps = []; walk = there; firsts = tt; long = omega arith })
    (λ (ne : v ≢ g.outfall). let x = exact.next v low ne less in absurd (omega (arith, x.2.falls, ap label x.1)))
    (cases_eq v g.outfall)
walk_from_exact g label shaped exact (suc m) v is low less = ⊎_elim
    (λ (there : v ≡ g.outfall). absurd (omega (arith, exact.labels.outfall, ap label there)))
    (λ (ne : v ≢ g.outfall). onward ne (walk_from_exact g label shaped exact m)) (cases_eq v g.outfall)
  where
    onward : v ≢ g.outfall →
        ((u : ℕ) → label u ≡ m → u < g.junctions → label u < g.junctions → FirstWalk g label u) → FirstWalk g label v
    onward ne rest =
        let x = exact.next v low ne less in
        let (s, from, first) = first_admissible label g.reaches v x.0 x.1 x.2 in
        let opens = first.admissible.opens in
        let falls : label (begins g.reaches s) ≡ label (finishes g.reaches s) + 1 = first.admissible.falls in
        let start : label (begins g.reaches s) ≡ label v = ap label from in
        let next = (ends_in g.junctions g.reaches s shaped.joined opens).1 in
        let y = rest (finishes g.reaches s) (omega arith) next (omega arith) in
        record {
          steps = s ∷ y.steps;
          walk = (from, opens, y.walk);
          firsts = (first, y.firsts);
          long = omega (arith, y.long);
        }

pub exact_walk : (g : Net) (label : ℕ → ℕ) (v : ℕ) → Shaped g → ExactLabels g label → v < g.junctions →
    label v < g.junctions → FirstWalk g label v
exact_walk g label v shaped exact = walk_from_exact g label shaped exact (label v) v refl

-- the first shortest route can be found, or there is no route
pub first_found : (g : Net) → Shaped g → ((ss : List ℕ) × IsFirst g ss) ⊎ Finished g
first_found g shaped = either (exact_found g shaped)
  where
    either : (label : ℕ → ℕ) × ExactLabels g label × ((v : ℕ) → label v ≤ g.junctions) → ((ss : List ℕ) × IsFirst g ss) ⊎ Finished g
    either (label, exact, most) = ⊎_elim
        (λ (low : label g.intake < g.junctions).
        let x = exact_walk g label g.intake shaped exact shaped.intake_in low in
        let firsts = All-from_recursion (IsFirstAdmissible label g.reaches) x.steps x.firsts in
        inl (x.steps, first_from_labels g label x.steps exact.labels x.walk firsts))
        (λ (high : g.junctions ≤ label g.intake). inr (high_finished g label shaped exact.labels high))
        (cases_lt (label g.intake) g.junctions)
