-- The walk that a search takes from the intake, along first admissible steps.
use Rattle.std.proofs.Common.{◌≡◌, ℕ, ◌+◌, ◌<◌, ◌≤◌, ◌≢◌, List, [], ◌∷◌, ◌++◌, length, get_or, Some, refl, sym, ap, ◌∙◌, subst, arith}
use Rattle.std.specs.List.{All, AllByRecursion}
use Rattle.std.proofs.lemmas.List.Elements.{All-nil, All-push, All-pop, All-weaker, All-from_recursion}
use Rattle.flow.specs.Net.{Arc, Net, Shaped}
use Rattle.flow.specs.Steps.{begins, finishes, IsOpen}
use Rattle.flow.specs.Routes.{IsWalk, GoesFirst, IsFirst}
use Rattle.flow.specs.Labels.{Labels, IsAdmissible, IsFirstAdmissible, relabelled}
use Rattle.flow.proofs.Walks.{ends_in, IsWalk-append}
use Rattle.flow.proofs.Labelling.{IsDescent, AllFall, descent_from_admissible, descent_length, relabelled_there, still_elsewhere}
use Rattle.flow.proofs.Firsts.{first_from_labels}
use Rattle.routes.specs.declared.step.OpenStep.{OpenStep}
use Rattle.routes.specs.Going.{FirstFrom}
use Rattle.labelling.specs.Scanning.{AdmissibleAt}
use Rattle.labelling.specs.Standing.{Fits}

-- the steps lead from the intake to junction v, each the first admissible step of its junction
pub record Walking (g : Net) (label : ℕ → ℕ) (ss : List ℕ) (v : ℕ) : Type 0 where
  pub walk : IsWalk g.reaches g.intake ss v
  pub firsts : All (IsFirstAdmissible label g.reaches) ss

pub walking_none : (g : Net) (label : ℕ → ℕ) → Walking g label [] g.intake
walking_none g label = record { walk = refl; firsts = All-nil (IsFirstAdmissible label g.reaches) }

-- a walk to another junction has a step
pub walk_long : (rs : List Arc) (from : ℕ) (ss : List ℕ) (to : ℕ) → from ≢ to → IsWalk rs from ss to → 0 < length ss
walk_long rs from [] to ne w = absurd (ne w)
walk_long rs from (s ∷ ss) to ne w = omega arith

-- the last step of a walk
last_of : (rs : List Arc) (from : ℕ) (ss : List ℕ) (s to : ℕ) → IsWalk rs from (ss ++ s ∷ []) to →
    IsWalk rs from ss (begins rs s) × IsOpen rs s × (finishes rs s ≡ to)
last_of rs from [] s to w = (sym w.0, w.1, w.2)
last_of rs from (t ∷ ss) s to w = let x = last_of rs (finishes rs t) ss s to w.2 in ((w.0, w.1, x.0), x.1, x.2)

pub last_opens : (g : Net) (label : ℕ → ℕ) (ss : List ℕ) (s v : ℕ) → Walking g label (ss ++ s ∷ []) v → IsOpen g.reaches s
last_opens g label ss s v h = (last_of g.reaches g.intake ss s v h.walk).1

-- no step of a descent finishes below its end
ends_high : (label : ℕ → ℕ) (rs : List Arc) (from : ℕ) (ss : List ℕ) (to : ℕ) → IsWalk rs from ss to → AllFall label rs ss →
    AllByRecursion (λ t. label to ≤ label (finishes rs t)) ss
ends_high label rs from [] to w f = tt
ends_high label rs from (s ∷ ss) to w f =
    let rest = descent_length label rs (finishes rs s) ss to (record { walk = w.2; falls = f.1 }) in
    (omega arith, ends_high label rs (finishes rs s) ss to w.2 f.1)

module _ (g : Net) (label : ℕ → ℕ) (ss : List ℕ) (v : ℕ) (h : Walking g label ss v) where
  pub walking_admissible : All (IsAdmissible label g.reaches) ss
  walking_admissible =
      All-weaker (IsFirstAdmissible label g.reaches) (IsAdmissible label g.reaches) (λ s a. a.admissible) ss h.firsts

  down : IsDescent label g.reaches g.intake ss v
  down = descent_from_admissible label g.reaches g.intake ss v h.walk walking_admissible

  pub walking_length : label g.intake ≡ label v + length ss
  walking_length = descent_length label g.reaches g.intake ss v down

  -- it ends in the network
  pub walking_in : Shaped g → v < g.junctions
  walking_in shaped = within g.intake ss shaped.intake_in h.walk
    where
      within : (from : ℕ) (ts : List ℕ) → from < g.junctions → IsWalk g.reaches from ts v → v < g.junctions
      within from [] low w = subst (λ u. u < g.junctions) w low
      within from (t ∷ ts) low w = within (finishes g.reaches t) ts (ends_in g.junctions g.reaches t shaped.joined w.1).1 w.2

  -- at the outfall the walk is the first shortest route
  pub walking_first : Labels g label → v ≡ g.outfall → IsFirst g ss
  walking_first labels out = first_from_labels g label ss labels (subst (IsWalk g.reaches g.intake ss) out h.walk) h.firsts

  -- one step more
  pub walking_on : (current : ℕ → ℕ) → Fits g label current → (x : OpenStep) →
      FirstFrom (AdmissibleAt label g.reaches v) g.reaches (current v) (Some x) →
      Walking g label (ss ++ x.number ∷ []) (finishes g.reaches x.number)
  walking_on current fits x found = record {
    walk = IsWalk-append g.reaches g.intake ss v (x.number ∷ []) (finishes g.reaches x.number) h.walk
        (found.1.there, found.1.admissible.opens, refl);
    firsts = All-push (IsFirstAdmissible label g.reaches) ss x.number h.firsts (record {
      admissible = found.1.admissible;
      first = λ t same a before.
          let there = same ∙ found.1.there in
          let b = found.3 t (record { there = there; admissible = a }) before in
          fits.passed t a (subst (λ u. GoesFirst t (current u)) (sym there) b);
    });
  }

-- a first admissible step stays so when a label below those at its ends is raised
first_elsewhere : (g : Net) (label : ℕ → ℕ) (v c t : ℕ) → Labels g label → label v < c → label v < label (finishes g.reaches t) →
    IsFirstAdmissible label g.reaches t → IsFirstAdmissible (relabelled v c label) g.reaches t
first_elsewhere g label v c t labels up above is = record {
  admissible = record {
    opens = is.admissible.opens;
    falls = let f = is.admissible.falls in
        omega (arith, relabelled_there label v c (begins g.reaches t) from, relabelled_there label v c (finishes g.reaches t) to);
  };
  first = λ u same a before.
      still_elsewhere g label v c labels (omega arith) u (λ at. from (sym same ∙ at)) (λ old. is.first u same old before) a;
}
  where
    from : begins g.reaches t ≢ v
    from at = let f = is.admissible.falls in omega (arith, ap label at)

    to : finishes g.reaches t ≢ v
    to at = omega (arith, ap label at)

-- when the label at its end is raised, the walk without its last step is one still
pub walking_back : (g : Net) (label : ℕ → ℕ) (ss : List ℕ) (s v c : ℕ) → Labels g label → label v < c →
    Walking g label (ss ++ s ∷ []) v → Walking g (relabelled v c label) ss (begins g.reaches s)
walking_back g label ss s v c labels up h = record { walk = last.0; firsts = firsts }
  where
    last : IsWalk g.reaches g.intake ss (begins g.reaches s) × IsOpen g.reaches s × (finishes g.reaches s ≡ v)
    last = last_of g.reaches g.intake ss s v h.walk

    popped : All (IsFirstAdmissible label g.reaches) ss × IsFirstAdmissible label g.reaches s
    popped = All-pop (IsFirstAdmissible label g.reaches) (ss ++ s ∷ []) ss (Some s) refl h.firsts

    above : label v < label (begins g.reaches s)
    above = let f = popped.1.admissible.falls in omega (arith, ap label last.2)

    high : All (λ t. label (begins g.reaches s) ≤ label (finishes g.reaches t)) ss
    high =
        let d = down g label ss (begins g.reaches s) (record { walk = last.0; firsts = popped.0 }) in
        All-from_recursion (λ t. label (begins g.reaches s) ≤ label (finishes g.reaches t)) ss
        (ends_high label g.reaches g.intake ss (begins g.reaches s) d.walk d.falls)

    firsts : All (IsFirstAdmissible (relabelled v c label) g.reaches) ss
    firsts i t low = first_elsewhere g label v c (get_or ss i t) labels up (omega (arith, high i t low, above)) (popped.0 i t low)
