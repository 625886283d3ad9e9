-- The first shortest route: there is at most one, and labels lead to it.
use Rattle.std.proofs.Common.{◌≡◌, ℕ, ◌+◌, ◌≤◌, ◌⊎◌, List, [], ◌∷◌, length, sym, ◌∙◌, subst, inl, inr, arith}
use Rattle.std.specs.List.{All, AllByRecursion}
use Rattle.std.proofs.lemmas.List.Elements.{All-weaker, recursion_from_All}
use Rattle.flow.specs.Net.{Arc, Net}
use Rattle.flow.specs.Steps.{finishes}
use Rattle.flow.specs.Routes.{IsWalk, IsRoute, IsShortest, GoesFirst, IsNoLater, IsFirst}
use Rattle.flow.specs.Labels.{Labels, IsAdmissible, IsFirstAdmissible}
use Rattle.flow.proofs.Order.{GoesFirst-cases, IsNoLater-both}
use Rattle.flow.proofs.Labelling.{AllFall, descent_from_admissible, labels_bound, descent_length, descent_from_length}

pub first_unique : (g : Net) (ss ts : List ℕ) → IsFirst g ss → IsFirst g ts → ss ≡ ts
first_unique g ss ts p q =
    let same : length ss ≡ length ts =
    omega (arith, p.shortest.least ts q.shortest.route, q.shortest.least ss p.shortest.route) in
    IsNoLater-both ss ts same (p.first ts q.shortest) (q.first ss p.shortest)

-- a descent of first admissible steps is no later than another descent
no_later : (label : ℕ → ℕ) (rs : List Arc) (from : ℕ) (ss ts : List ℕ) (to : ℕ) →
    AllByRecursion (IsFirstAdmissible label rs) ss → IsWalk rs from ss to → IsWalk rs from ts to → AllFall label rs ts →
    length ss ≡ length ts → IsNoLater ss ts
no_later label rs from [] ts to f w x h same = tt
no_later label rs from (s ∷ ss) [] to f w x h same = absurd (omega arith)
no_later label rs from (s ∷ ss) (t ∷ ts) to f w x h same =
    let on = λ (one : s ≡ t). subst (λ u. IsWalk rs (finishes rs u) ts to) (sym one) x.2 in
    ordered (GoesFirst-cases s t)
    (λ one. no_later label rs (finishes rs s) ss ts to f.1 w.2 (on one) h.1 (omega arith))
  where
    ordered : (s ≡ t) ⊎ (GoesFirst s t ⊎ GoesFirst t s) → (s ≡ t → IsNoLater ss ts) → IsNoLater (s ∷ ss) (t ∷ ts)
    ordered (inl one) further = inr (one, further one)
    ordered (inr (inl before)) further = inl before
    ordered (inr (inr behind)) further = absurd (f.0.first t (x.0 ∙ sym w.0) (record { opens = x.1; falls = h.0 }) behind)

pub first_from_labels : (g : Net) (label : ℕ → ℕ) (ss : List ℕ) → Labels g label → IsRoute g ss →
    All (IsFirstAdmissible label g.reaches) ss → IsFirst g ss
first_from_labels g label ss h r all = record { shortest = record { route = r; least = least }; first = first }
  where
    admissible : All (IsAdmissible label g.reaches) ss
    admissible = All-weaker (IsFirstAdmissible label g.reaches) (IsAdmissible label g.reaches) (λ s a. a.admissible) ss all

    length_is : label g.intake ≡ label g.outfall + length ss
    length_is = descent_length label g.reaches g.intake ss g.outfall
        (descent_from_admissible label g.reaches g.intake ss g.outfall r admissible)

    least : (ts : List ℕ) → IsRoute g ts → length ss ≤ length ts
    least ts x = omega (arith, length_is, labels_bound g label h g.intake ts g.outfall x)

    first : (ts : List ℕ) → IsShortest g ts → IsNoLater ss ts
    first ts x =
        let same : length ss ≡ length ts = omega (arith, least ts x.route, x.least ss r) in
        let down = descent_from_length g label h g.intake ts g.outfall x.route (omega (arith, length_is)) in
        no_later label g.reaches g.intake ss ts g.outfall (recursion_from_All (IsFirstAdmissible label g.reaches) ss all)
        r x.route down.falls same
