-- A search that walks from the intake: its labels and current steps fit the network, and its walk is along them.
use Rattle.std.proofs.Common.{◌≡◌, ℕ, ◌+◌, ◌<◌, ◌≢◌, List, [], ◌∷◌, ◌++◌, length, Some, None, sym, ap, ◌∙◌, subst, inl, inr, ⊎_elim, arith}
use Rattle.std.proofs.lemmas.Bool.{cases_eq}
use Rattle.flow.specs.Net.{Net, Shaped}
use Rattle.flow.specs.Routes.{IsWalk, GoesFirst, IsFirst}
use Rattle.flow.specs.Pushes.{pushed}
use Rattle.flow.specs.Labels.{relabelled, ExactLabels}
use Rattle.flow.proofs.Walks.{open_in}
use Rattle.flow.proofs.Labelling.{relabelled_here, relabelled_there}
use Rattle.routes.specs.declared.step.OpenStep.{OpenStep}
use Rattle.routes.specs.Going.{first_step, BeginTold}
use Rattle.routes.specs.Routing.{most_steps, Popped}
use Rattle.labelling.specs.declared.labelling.Labelling.{Labelling}
use Rattle.labelling.specs.Keeping.{label_of, current_of}
use Rattle.labelling.specs.Scanning.{AdmissibleAt, IsRelabel}
use Rattle.labelling.specs.Moving.{Advanced, Raised, Relabelled}
use Rattle.labelling.specs.Standing.{Fits}
use Rattle.labelling.specs.Following.{OnlyAdvanced}
use Rattle.labelling.specs.Gaps.{GapClosed}
use Rattle.labelling.proofs.Fitting.{fits_advanced, raises, fits_raised, fits_pushed}
use Rattle.labelling.proofs.Closing.{fits_closed, closed_none}
use Rattle.labelling.proofs.Walking.{Walking, walk_long, walking_none, walking_admissible, walking_length, walking_first, walking_on, walking_back, walking_in, last_opens}

pub record Stands (g : Net) (x : Labelling) (ss : List ℕ) (v : ℕ) : Type 0 where
  pub fits : Fits g (label_of x) (current_of x)
  pub walking : Walking g (label_of x) ss v

-- the same while the intake's label is below n; from n on it says that no route exists, and the search ends
pub record StandsOrEnds (g : Net) (x : Labelling) (ss : List ℕ) (v : ℕ) : Type 0 where
  pub fits : Fits g (label_of x) (current_of x)
  pub walking : label_of x g.intake < g.junctions → Walking g (label_of x) ss v

pub stands_yet : (g : Net) (x : Labelling) (ss : List ℕ) (v : ℕ) → StandsOrEnds g x ss v → label_of x g.intake < g.junctions →
    Stands g x ss v
stands_yet g x ss v h below = record { fits = h.fits; walking = h.walking below }

-- the labels may be told by equal functions, and so the current steps
pub fits_told : (g : Net) (label l current c : ℕ → ℕ) → l ≡ label → c ≡ current → Fits g label current → Fits g l c
fits_told g label l current c same so h = rw (same, so) h

-- advancing at a junction
module _ (g : Net) (x y : Labelling) (v : ℕ) (s : OpenStep) (told : Advanced g.reaches x v (Some s) y) where
  pub fits_on : Fits g (label_of x) (current_of x) → Fits g (label_of y) (current_of y)
  fits_on fits = fits_told g (label_of x) (label_of y) (relabelled v s.number (current_of x)) (current_of y) told.1.0 told.1.1
      (fits_advanced g (label_of x) (current_of x) fits v s told.0)

  -- the label falls by 1
  pub label_falls : label_of x v ≡ label_of y s.finish + 1
  label_falls =
      omega (
        arith,
        ap (λ (f : ℕ → ℕ). f s.finish) told.1.0,
        ap (label_of x) told.0.0.finish,
        ap (label_of x) told.0.1.there,
        told.0.1.admissible.falls,
      )

  pub only_on : (was : Labelling) → OnlyAdvanced g.reaches was x → OnlyAdvanced g.reaches was y
  only_on was only = record {
    labels = told.1.0 ∙ only.labels;
    current = λ u. ⊎_elim
        (λ (here : u ≡ v).
        let now = ap (λ (f : ℕ → ℕ). f u) told.1.1 ∙ relabelled_here (current_of x) v s.number u here in
        inr (rw (now, here, ← only.labels) told.0.1))
        (λ (ne : u ≢ v).
        let now = ap (λ (f : ℕ → ℕ). f u) told.1.1 ∙ relabelled_there (current_of x) v s.number u ne in
        ⊎_elim (λ (same : current_of x u ≡ current_of was u). inl (now ∙ same))
        (λ (a : AdmissibleAt (label_of was) g.reaches u (current_of x u)). inr (rw now a)) (only.current u))
        (cases_eq u v);
  }

module _ (g : Net) (shaped : Shaped g) (x : Labelling) (ss : List ℕ) (v : ℕ) (h : Stands g x ss v) where
  -- at the outfall the route is found, and may be pushed
  pub stands_answer : v ≡ g.outfall →
      IsFirst g ss × Fits g (label_of x) (current_of x) × Fits (pushed ss g) (label_of x) (current_of x)
  stands_answer out =
      let route = subst (IsWalk g.reaches g.intake ss) out h.walking.walk in
      let all = walking_admissible g (label_of x) ss v h.walking in (
        walking_first g (label_of x) ss v h.walking h.fits.labels out,
        h.fits,
        fits_pushed g (label_of x) (current_of x) h.fits ss route all,
      )

  module _ (below : label_of x g.intake < g.junctions) where
    -- there is room for one step more
    pub stands_room : length ss < most_steps
    stands_room = omega (arith, walking_length g (label_of x) ss v h.walking, below, shaped.few)

    -- the walk goes on
    pub stands_on : (y : Labelling) (s : OpenStep) (after : List ℕ) → Advanced g.reaches x v (Some s) y →
        after ≡ ss ++ s.number ∷ [] → Stands g y after s.finish
    stands_on y s after told longer = record {
      fits = fits_on g x y v s told h.fits;
      walking = rw (told.1.0, longer, told.0.0.finish) (walking_on g (label_of x) ss v h.walking (current_of x) h.fits s told.0);
    }

    module _ (y z : Labelling) (none : Advanced g.reaches x v None y) (ne : v ≢ g.outfall) where
      -- the label of a junction with no admissible step left is raised
      higher : (c : ℕ) → IsRelabel g (label_of x) v c → label_of x v < c
      higher c r =
          let low = walking_length g (label_of x) ss v h.walking in
          raises g (label_of x) (current_of x) h.fits v c r (omega (arith, low, below)) none.0

      -- where labels are exact it has one
      pub stands_exact : ExactLabels g (label_of x) → ⊥
      stands_exact exact =
          let low = walking_length g (label_of x) ss v h.walking in
          let (s, at, a) = exact.next v (walking_in g (label_of x) ss v h.walking shaped) ne (omega (arith, low, below)) in
          let b = none.0 s (record { there = at; admissible = a }) in
          h.fits.passed s a (subst (λ u. GoesFirst s (current_of x u)) (sym at) b)

      pub stands_raised : Relabelled g y v None z → ⊥
      stands_raised r =
          let n = rw none.1 at r in
          let low = walking_length g (label_of x) ss v h.walking in
          let inside = walking_in g (label_of x) ss v h.walking shaped in
          let most = n.why (omega (arith, inside, shaped.few)) (omega (arith, low, below, shaped.few)) in
          omega (arith, higher n.label n.relabel, most)

      fits_then : Raised g y v z →
          (c : ℕ) × (label_of x v < c) × (label_of z ≡ relabelled v c (label_of x)) × Fits g (label_of z) (current_of z)
      fits_then r =
          let n = rw none.1 at r in
          let up = higher n.label n.relabel in
          let then = fits_raised g (label_of x) (current_of x) h.fits v n.label n.relabel shaped ne up in (
            n.label,
            up,
            n.labels,
            fits_told g (relabelled v n.label (label_of x)) (label_of z) (relabelled v first_step (current_of x)) (current_of z)
                n.labels n.again then,
          )

      -- the intake's label is then above the one that the junction had
      intake_above : (c : ℕ) → label_of x v < c → label_of z ≡ relabelled v c (label_of x) → label_of x v < label_of z g.intake
      intake_above c up is = ⊎_elim
          (λ (same : g.intake ≡ v). omega (arith, ap (λ (f : ℕ → ℕ). f g.intake) is, relabelled_here (label_of x) v c g.intake same, up))
          (λ (other : g.intake ≢ v).
          let there = ap (λ (f : ℕ → ℕ). f g.intake) is ∙ relabelled_there (label_of x) v c g.intake other in
          omega (
            arith,
            there,
            walking_length g (label_of x) ss v h.walking,
            walk_long g.reaches g.intake ss v other h.walking.walk,
          )) (cases_eq g.intake v)

      -- where the intake's label is below n, no gap was closed
      closed_still : (w : Labelling) (c : ℕ) → label_of x v < c → label_of z ≡ relabelled v c (label_of x) →
          GapClosed g.junctions (label_of y v) z w → label_of w g.intake < g.junctions → label_of w ≡ label_of z
      closed_still w c up is closed less =
          closed_none g shaped (label_of y v) z w closed g.intake
          (omega (arith, intake_above c up is, ap (λ (l : Labelling). label_of l v) none.1)) less

      -- the walk retreats by its last step, where it has one
      pub stands_back : (w : Labelling) (last u : ℕ) (after : List ℕ) → Raised g y v z → GapClosed g.junctions (label_of y v) z w →
          Popped ss (Some last) after → BeginTold g.reaches last (Some u) → StandsOrEnds g w after u
      stands_back w last u after r closed was begin =
          let (c, up, is, fits) = fits_then r in
          let walk = subst (λ ts. Walking g (label_of x) ts v) was h.walking in
          record {
            fits = fits_closed g shaped (label_of y v) z w closed fits;
            walking = λ less.
                let same = closed_still w c up is closed less in
                rw (same, is, begin.1) (walking_back g (label_of x) after last v c h.fits.labels up walk);
          }

      pub stands_last : (last : ℕ) (after : List ℕ) → Popped ss (Some last) after → ¬ BeginTold g.reaches last None
      stands_last last after was past =
          let walk = subst (λ ts. Walking g (label_of x) ts v) was h.walking in
          let opens = last_opens g (label_of x) after last v walk in
          omega (arith, open_in g.reaches last opens, past)

      pub stands_still : (w : Labelling) (after : List ℕ) → Raised g y v z → GapClosed g.junctions (label_of y v) z w →
          Popped ss None after → StandsOrEnds g w after v
      stands_still w after r closed was =
          let (c, up, is, fits) = fits_then r in
          let at : g.intake ≡ v = subst (λ ts. IsWalk g.reaches g.intake ts v) was.0 h.walking.walk in
          record {
            fits = fits_closed g shaped (label_of y v) z w closed fits;
            walking = λ less. rw (was.1, ← at) (walking_none g (label_of w));
          }
