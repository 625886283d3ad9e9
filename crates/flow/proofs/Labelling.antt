-- What labels say of walks, and what they are after a route is pushed along which they fall, or a junction relabelled.
use Rattle.std.proofs.Common.{◌≡◌, ℕ, ◌+◌, ◌≤◌, ◌≢◌, ◌⊎◌, Bool, true, false, List, [], ◌∷◌, length, refl, sym, ap, ◌∙◌, subst, inl, inr, ⊎_elim, arith}
use Rattle.std.specs.List.{All, AllByRecursion}
use Rattle.std.proofs.lemmas.List.Elements.{All-weaker, All-from_recursion, recursion_from_All}
use Rattle.std.proofs.lemmas.Bool.{cases_eq}
use Rattle.std.proofs.lemmas.Bool.Decides.{nat_tests}
use Rattle.flow.specs.Net.{Arc, Net, arc_at, Shaped}
use Rattle.flow.specs.Steps.{along_reach, goes_back, arc_of, begins_at, finishes_at, begins, finishes, IsOpen}
use Rattle.flow.specs.Changes.{with_reaches}
use Rattle.flow.specs.Routes.{IsWalk}
use Rattle.flow.specs.Pushes.{least_headroom, shifted, shifted_along, pushed}
use Rattle.flow.specs.Labels.{Labels, IsAdmissible, relabelled}
use Rattle.flow.proofs.Walks.{ends_in}
use Rattle.flow.proofs.Likeness.{bare, begins-alike, finishes-alike}
use Rattle.flow.proofs.Pushing.{Off, Apart, bare-shifted, headroom-kept, IsWalk-kept}

-- the label falls by 1 along a step: along a step of a reach, by the way; along a step of a list; along each of several
abbrev pub FallsAt : (ℕ → ℕ) → Bool → Arc → Type 0
FallsAt label back r = label (begins_at back r) ≡ label (finishes_at back r) + 1

abbrev pub Falls : (ℕ → ℕ) → List Arc → ℕ → Type 0
Falls label rs s = FallsAt label (goes_back s) (arc_of rs s)

abbrev pub AllFall : (ℕ → ℕ) → List Arc → List ℕ → Type 0
AllFall label rs ss = AllByRecursion (Falls label rs) ss

-- a walk along which the label falls by 1 at each step
pub record IsDescent (label : ℕ → ℕ) (rs : List Arc) (from : ℕ) (ss : List ℕ) (to : ℕ) : Type 0 where
  pub walk : IsWalk rs from ss to
  pub falls : AllFall label rs ss

-- its steps are the admissible ones
pub descent_from_admissible : (label : ℕ → ℕ) (rs : List Arc) (from : ℕ) (ss : List ℕ) (to : ℕ) → IsWalk rs from ss to →
    All (IsAdmissible label rs) ss → IsDescent label rs from ss to
descent_from_admissible label rs from ss to w all = record {
  walk = w;
  falls = recursion_from_All (Falls label rs) ss
      (All-weaker (IsAdmissible label rs) (Falls label rs) (λ s a. a.falls) ss all);
}

pub admissible_from_descent : (label : ℕ → ℕ) (rs : List Arc) (from : ℕ) (ss : List ℕ) (to : ℕ) →
    IsDescent label rs from ss to → All (IsAdmissible label rs) ss
admissible_from_descent label rs from ss to d = All-from_recursion (IsAdmissible label rs) ss (each from ss d.walk d.falls)
  where
    each : (v : ℕ) (ts : List ℕ) → IsWalk rs v ts to → AllFall label rs ts → AllByRecursion (IsAdmissible label rs) ts
    each v [] w f = tt
    each v (t ∷ ts) w f = (record { opens = w.1; falls = f.0 }, each (finishes rs t) ts w.2 f.1)

-- labels fall along a walk by no more than it has steps
pub labels_bound : (g : Net) (label : ℕ → ℕ) → Labels g label → (from : ℕ) (ss : List ℕ) (to : ℕ) →
    IsWalk g.reaches from ss to → label from ≤ label to + length ss
labels_bound g label h from [] to w = omega (arith, ap label w)
labels_bound g label h from (s ∷ ss) to w =
    omega (arith, labels_bound g label h (finishes g.reaches s) ss to w.2, h.falls s w.1, ap label w.0)

-- along a descent they fall by as much as it has steps, and where they fall by so much the walk is a descent
pub descent_length : (label : ℕ → ℕ) (rs : List Arc) (from : ℕ) (ss : List ℕ) (to : ℕ) → IsDescent label rs from ss to →
    label from ≡ label to + length ss
descent_length label rs from [] to d = omega (arith, ap label d.walk)
descent_length label rs from (s ∷ ss) to d =
    let rest = descent_length label rs (finishes rs s) ss to (record { walk = d.walk.2; falls = d.falls.1 }) in
    omega (arith, rest, d.falls.0, ap label d.walk.0)

fall_from_length : (g : Net) (label : ℕ → ℕ) → Labels g label → (from : ℕ) (ss : List ℕ) (to : ℕ) →
    IsWalk g.reaches from ss to → label from ≡ label to + length ss → AllFall label g.reaches ss
fall_from_length g label h from [] to w tight = tt
fall_from_length g label h from (s ∷ ss) to w tight =
    let rest = labels_bound g label h (finishes g.reaches s) ss to w.2 in
    let one = h.falls s w.1 in
    let start : label (begins g.reaches s) ≡ label from = ap label w.0 in
    (omega arith, fall_from_length g label h (finishes g.reaches s) ss to w.2 (omega arith))

pub descent_from_length : (g : Net) (label : ℕ → ℕ) → Labels g label → (from : ℕ) (ss : List ℕ) (to : ℕ) →
    IsWalk g.reaches from ss to → label from ≡ label to + length ss → IsDescent label g.reaches from ss to
descent_from_length g label h from ss to w tight =
    record { walk = w; falls = fall_from_length g label h from ss to w tight }

-- two steps along one reach along which the label falls are the same step
one_way : (label : ℕ → ℕ) (b c : Bool) (r : Arc) → FallsAt label b r → FallsAt label c r → b ≡ c
one_way label true true r f h = refl
one_way label true false r f h = absurd (omega arith)
one_way label false true r f h = absurd (omega arith)
one_way label false false r f h = refl

one_step : (label : ℕ → ℕ) (rs : List Arc) (s t : ℕ) → along_reach s ≡ along_reach t →
    Falls label rs s → Falls label rs t → s ≡ t
one_step label rs s t same f h =
    let there : FallsAt label (goes_back s) (arc_of rs t) = subst (λ k. FallsAt label (goes_back s) (arc_at rs k)) same f in
    let way : goes_back s ≡ goes_back t = one_way label (goes_back s) (goes_back t) (arc_of rs t) there h in
    grind (arith, nat_tests)

-- no label on a descent is above that of its start, and so it goes along no reach twice
below_start : (label : ℕ → ℕ) (rs : List Arc) (from : ℕ) (ss : List ℕ) (to c : ℕ) → IsWalk rs from ss to →
    AllFall label rs ss → label from ≤ c → AllByRecursion (λ t. label (begins rs t) ≤ c) ss
below_start label rs from [] to c w f low = tt
below_start label rs from (s ∷ ss) to c w f low =
    let start : label (begins rs s) ≡ label from = ap label w.0 in
    (omega arith, below_start label rs (finishes rs s) ss to c w.2 f.1 (omega (arith, f.0)))

off_from_fall : (label : ℕ → ℕ) (rs : List Arc) (s : ℕ) (ts : List ℕ) → Falls label rs s → AllFall label rs ts →
    AllByRecursion (λ t. label (begins rs t) ≤ label (finishes rs s)) ts → Off s ts
off_from_fall label rs s [] f h low = tt
off_from_fall label rs s (t ∷ ts) f h low = (off, off_from_fall label rs s ts f h.1 low.1)
  where
    off : along_reach t ≢ along_reach s
    off same =
        let one : t ≡ s = one_step label rs t s same h.0 f in
        let start : label (begins rs t) ≡ label (begins rs s) = ap (λ (u : ℕ). label (begins rs u)) one in
        omega (arith, low.0, f)

pub apart_from_fall : (label : ℕ → ℕ) (rs : List Arc) (from : ℕ) (ss : List ℕ) (to : ℕ) → IsWalk rs from ss to →
    AllFall label rs ss → Apart ss
apart_from_fall label rs from [] to w f = tt
apart_from_fall label rs from (s ∷ ss) to w f =
    let low = below_start label rs (finishes rs s) ss to (label (finishes rs s)) w.2 f.1 (omega arith) in
    (off_from_fall label rs s ss f.0 f.1 low, apart_from_fall label rs (finishes rs s) ss to w.2 f.1)

-- the label falls along the same steps when other amounts are carried
Falls-alike : (label : ℕ → ℕ) (rs qs : List Arc) → bare rs ≡ bare qs → (s : ℕ) → Falls label rs s → Falls label qs s
Falls-alike label rs qs a s f =
    omega (arith, f, ap label (begins-alike rs qs a s), ap label (finishes-alike rs qs a s))

AllFall-alike : (label : ℕ → ℕ) (rs qs : List Arc) → bare rs ≡ bare qs → (ss : List ℕ) →
    AllFall label rs ss → AllFall label qs ss
AllFall-alike label rs qs a [] f = tt
AllFall-alike label rs qs a (s ∷ ss) f = (Falls-alike label rs qs a s f.0, AllFall-alike label rs qs a ss f.1)

-- what is left of a descent when water is shifted along its first step is a descent still
pub descent_rest : (d : ℕ) (label : ℕ → ℕ) (rs : List Arc) (from s : ℕ) (ss : List ℕ) (to : ℕ) →
    IsDescent label rs from (s ∷ ss) to → IsDescent label (shifted d rs s) (finishes rs s) ss to
descent_rest d label rs from s ss to down =
    let apart = apart_from_fall label rs from (s ∷ ss) to down.walk down.falls in
    record {
      walk = IsWalk-kept d rs s (finishes rs s) ss to apart.0 down.walk.2;
      falls = AllFall-alike label rs (shifted d rs s) (bare-shifted d rs s) ss down.falls.1;
    }

-- labels stay labels when water is shifted along a step along which they fall, since the step back then rises by 1
no_steeper : (label : ℕ → ℕ) (b c : Bool) (r : Arc) → FallsAt label b r →
    label (begins_at c r) ≤ label (finishes_at c r) + 1
no_steeper label true true r f = omega arith
no_steeper label true false r f = omega arith
no_steeper label false true r f = omega arith
no_steeper label false false r f = omega arith

labels_shifted : (d : ℕ) (g : Net) (label : ℕ → ℕ) (s : ℕ) → Falls label g.reaches s → Labels g label →
    Labels (with_reaches g (shifted d g.reaches s)) label
labels_shifted d g label s f h = record { outfall = h.outfall; falls = falls }
  where
    before : (t : ℕ) → IsOpen (shifted d g.reaches s) t → label (begins g.reaches t) ≤ label (finishes g.reaches t) + 1
    before t opens = ⊎_elim
        (λ (same : along_reach s ≡ along_reach t).
        let there : FallsAt label (goes_back s) (arc_of g.reaches t) =
        subst (λ k. FallsAt label (goes_back s) (arc_at g.reaches k)) same f in
        no_steeper label (goes_back s) (goes_back t) (arc_of g.reaches t) there)
        (λ (ne : along_reach s ≢ along_reach t).
        h.falls t (omega (arith, headroom-kept d g.reaches s t (λ same. ne (sym same)))))
        (cases_eq (along_reach s) (along_reach t))

    falls : (t : ℕ) → IsOpen (shifted d g.reaches s) t →
        label (begins (shifted d g.reaches s) t) ≤ label (finishes (shifted d g.reaches s) t) + 1
    falls t opens =
        let start = ap label (begins-alike g.reaches (shifted d g.reaches s) (bare-shifted d g.reaches s) t) in
        let end = ap label (finishes-alike g.reaches (shifted d g.reaches s) (bare-shifted d g.reaches s) t) in
        omega (arith, before t opens, start, end)

labels_along : (d : ℕ) (g : Net) (label : ℕ → ℕ) (rs : List Arc) (ss : List ℕ) → AllFall label rs ss →
    Labels (with_reaches g rs) label → Labels (with_reaches g (shifted_along d rs ss)) label
labels_along d g label rs [] f h = h
labels_along d g label rs (s ∷ ss) f h =
    labels_along d g label (shifted d rs s) ss (AllFall-alike label rs (shifted d rs s) (bare-shifted d rs s) ss f.1)
    (labels_shifted d (with_reaches g rs) label s f.0 h)

pub labels_pushed : (g : Net) (label : ℕ → ℕ) (ss : List ℕ) → AllFall label g.reaches ss → Labels g label →
    Labels (pushed ss g) label
labels_pushed g label ss f h = labels_along (least_headroom g.reaches ss) g label g.reaches ss f h

-- and no step becomes admissible
still_shifted : (d : ℕ) (rs : List Arc) (label : ℕ → ℕ) (s : ℕ) → IsAdmissible label rs s → (t : ℕ) →
    ¬ IsAdmissible label rs t → ¬ IsAdmissible label (shifted d rs s) t
still_shifted d rs label s is t not after =
    let f = Falls-alike label (shifted d rs s) rs (sym (bare-shifted d rs s)) t after.falls in
    ⊎_elim
    (λ (same : along_reach t ≡ along_reach s).
    not (subst (IsAdmissible label rs) (sym (one_step label rs t s same f is.falls)) is))
    (λ (ne : along_reach t ≢ along_reach s).
    not (record { opens = omega (arith, after.opens, headroom-kept d rs s t ne); falls = f }))
    (cases_eq (along_reach t) (along_reach s))

still_along : (d : ℕ) (rs : List Arc) (label : ℕ → ℕ) (from : ℕ) (ss : List ℕ) (to : ℕ) → IsDescent label rs from ss to →
    (t : ℕ) → ¬ IsAdmissible label rs t → ¬ IsAdmissible label (shifted_along d rs ss) t
still_along d rs label from [] to down t not = not
still_along d rs label from (s ∷ ss) to down t not =
    let here : IsAdmissible label rs s = record { opens = down.walk.1; falls = down.falls.0 } in
    still_along d (shifted d rs s) label (finishes rs s) ss to (descent_rest d label rs from s ss to down) t
    (still_shifted d rs label s here t not)

pub still_pushed : (g : Net) (label : ℕ → ℕ) (ss : List ℕ) → IsDescent label g.reaches g.intake ss g.outfall →
    (t : ℕ) → ¬ IsAdmissible label g.reaches t → ¬ IsAdmissible label (pushed ss g).reaches t
still_pushed g label ss down = still_along (least_headroom g.reaches ss) g.reaches label g.intake ss g.outfall down

-- a step that is admissible, and is none of them, stays so
others_along : (d : ℕ) (rs : List Arc) (label : ℕ → ℕ) (from : ℕ) (ss : List ℕ) (to : ℕ) → IsDescent label rs from ss to →
    (t : ℕ) → AllByRecursion (λ s. s ≢ t) ss → IsAdmissible label rs t → IsAdmissible label (shifted_along d rs ss) t
others_along d rs label from [] to down t other is = is
others_along d rs label from (s ∷ ss) to down t other is =
    let off : along_reach t ≢ along_reach s =
    λ same. other.0 (sym (one_step label rs t s same is.falls down.falls.0)) in
    others_along d (shifted d rs s) label (finishes rs s) ss to (descent_rest d label rs from s ss to down) t other.1
    (record {
      opens = omega (arith, is.opens, headroom-kept d rs s t off);
      falls = Falls-alike label rs (shifted d rs s) (bare-shifted d rs s) t is.falls;
    })

pub others_pushed : (g : Net) (label : ℕ → ℕ) (ss : List ℕ) → IsDescent label g.reaches g.intake ss g.outfall →
    (t : ℕ) → All (λ s. s ≢ t) ss → IsAdmissible label g.reaches t → IsAdmissible label (pushed ss g).reaches t
others_pushed g label ss down t other =
    others_along (least_headroom g.reaches ss) g.reaches label g.intake ss g.outfall down t (recursion_from_All (λ s. s ≢ t) ss other)

-- one label is raised
pub relabelled_here : (label : ℕ → ℕ) (v c u : ℕ) → u ≡ v → relabelled v c label u ≡ c
relabelled_here label v c u same = grind (arith, nat_tests)

pub relabelled_there : (label : ℕ → ℕ) (v c u : ℕ) → u ≢ v → relabelled v c label u ≡ label u
relabelled_there label v c u ne = grind (arith, nat_tests)

pub labels_relabelled : (g : Net) (label : ℕ → ℕ) (v c : ℕ) → Shaped g → Labels g label → v ≢ g.outfall → label v ≤ c →
    ((s : ℕ) → IsOpen g.reaches s → begins g.reaches s ≡ v → c ≤ label (finishes g.reaches s) + 1) →
    Labels g (relabelled v c label)
labels_relabelled g label v c shaped h ne up least = record {
  outfall = relabelled_there label v c g.outfall (λ same. ne (sym same)) ∙ h.outfall;
  falls = λ s opens. falls s opens (cases_eq (begins g.reaches s) v) (cases_eq (finishes g.reaches s) v);
}
  where
    falls : (s : ℕ) → IsOpen g.reaches s → (begins g.reaches s ≡ v) ⊎ (begins g.reaches s ≢ v) →
        (finishes g.reaches s ≡ v) ⊎ (finishes g.reaches s ≢ v) →
        relabelled v c label (begins g.reaches s) ≤ relabelled v c label (finishes g.reaches s) + 1
    falls s opens (inl b) (inl f) = absurd ((ends_in g.junctions g.reaches s shaped.joined opens).2 (b ∙ sym f))
    falls s opens (inl b) (inr f) =
        omega (arith, relabelled_here label v c _ b, relabelled_there label v c _ f, least s opens b)
    falls s opens (inr b) (inl f) =
        omega (arith, relabelled_there label v c _ b, relabelled_here label v c _ f, h.falls s opens, ap label f)
    falls s opens (inr b) (inr f) =
        omega (arith, relabelled_there label v c _ b, relabelled_there label v c _ f, h.falls s opens)

pub still_elsewhere : (g : Net) (label : ℕ → ℕ) (v c : ℕ) → Labels g label → label v ≤ c → (s : ℕ) →
    begins g.reaches s ≢ v → ¬ IsAdmissible label g.reaches s → ¬ IsAdmissible (relabelled v c label) g.reaches s
still_elsewhere g label v c h up s ne not after =
    let from = relabelled_there label v c (begins g.reaches s) ne in
    ⊎_elim
    (λ (there : finishes g.reaches s ≡ v).
    let to = relabelled_here label v c (finishes g.reaches s) there in
    let low = h.falls s after.opens in
    not (record { opens = after.opens; falls = omega (arith, after.falls, ap label there) }))
    (λ (other : finishes g.reaches s ≢ v).
    let to = relabelled_there label v c (finishes g.reaches s) other in
    not (record { opens = after.opens; falls = omega (arith, after.falls) }))
    (cases_eq (finishes g.reaches s) v)
