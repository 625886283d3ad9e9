-- Closing a gap: labels stay labels, and what was admissible below the gap stays so.
use Rattle.std.proofs.Common.{◌≡◌, ℕ, ◌+◌, ◌<◌, ◌≤◌, ◌≢◌, ◌⊎◌, max, ap, ◌∙◌, inl, inr, ⊎_elim, arith}
use Rattle.std.proofs.lemmas.Bool.{cases_lt}
use Rattle.std.proofs.lemmas.Bool.Decides.{nat_tests}
use Rattle.flow.specs.Bounds.{most_junctions}
use Rattle.flow.specs.Net.{Net, Shaped}
use Rattle.flow.specs.Steps.{begins, finishes, IsOpen}
use Rattle.flow.specs.Labels.{IsAdmissible}
use Rattle.flow.proofs.Walks.{ends_in}
use Rattle.labelling.specs.declared.labelling.Labelling.{Labelling}
use Rattle.labelling.specs.Keeping.{label_of, current_of}
use Rattle.labelling.specs.Standing.{Fits}
use Rattle.labelling.specs.Gaps.{IsGap, raised_above, GapClosed}

module _ (n gap : ℕ) (label : ℕ → ℕ) (v : ℕ) where
  -- a label up to the gap stays, and one above it is n at least
  pub up_to_gap : label v ≤ gap → raised_above n gap label v ≡ label v
  up_to_gap low = grind (arith, nat_tests)

  pub above_gap : gap < label v → raised_above n gap label v ≡ max n (label v)
  above_gap high = grind (arith, nat_tests)

-- a junction's label with the gap closed: it is below the gap and stays, or is above it and then n at least
abbrev Sides : ℕ → ℕ → (ℕ → ℕ) → ℕ → Type 0
Sides n gap label v = (label v < gap × (raised_above n gap label v ≡ label v))
    ⊎ (gap < label v × (raised_above n gap label v ≡ max n (label v)))

sides : (n gap : ℕ) (label : ℕ → ℕ) (v : ℕ) → label v ≢ gap → Sides n gap label v
sides n gap label v ne = ⊎_elim (λ (below : label v < gap). inl (below, up_to_gap n gap label v (omega arith)))
    (λ (high : gap ≤ label v).
    let above : gap < label v = omega arith in
    inr (above, above_gap n gap label v above))
    (cases_lt (label v) gap)

module _ (g : Net) (shaped : Shaped g) (gap : ℕ) (label current : ℕ → ℕ) (none : IsGap label gap)
    (h : Fits g label current) where
  -- the labels with the gap closed
  abbrev closed : ℕ → ℕ
  closed = raised_above g.junctions gap label

  side : (v : ℕ) → v < g.junctions → Sides g.junctions gap label v
  side v low = sides g.junctions gap label v (none v (omega (arith, shaped.few)))

  falls : (s : ℕ) → IsOpen g.reaches s → closed (begins g.reaches s) ≤ closed (finishes g.reaches s) + 1
  falls s opens =
      let b = begins g.reaches s in
      let f = finishes g.reaches s in
      let ends = ends_in g.junctions g.reaches s shaped.joined opens in
      let old : label b ≤ label f + 1 = h.labels.falls s opens in
      both b f old (side b ends.0) (side f ends.1)
    where
      both : (b f : ℕ) → label b ≤ label f + 1 → Sides g.junctions gap label b → Sides g.junctions gap label f →
          closed b ≤ closed f + 1
      both b f old (inl x) (inl y) = omega (arith, x.1, y.1)
      both b f old (inl x) (inr y) = omega (arith, x.0, x.1, y.0, y.1)
      both b f old (inr x) (inl y) = absurd (omega (arith, x.0, y.0))
      both b f old (inr x) (inr y) = omega (arith, x.1, y.1)

  -- no step becomes admissible
  was_admissible : (s : ℕ) → IsAdmissible closed g.reaches s → IsAdmissible label g.reaches s
  was_admissible s a =
      let b = begins g.reaches s in
      let f = finishes g.reaches s in
      let ends = ends_in g.junctions g.reaches s shaped.joined a.opens in
      let old : label b ≤ label f + 1 = h.labels.falls s a.opens in
      record { opens = a.opens; falls = both b f old a.falls (side b ends.0) (side f ends.1) }
    where
      both : (b f : ℕ) → label b ≤ label f + 1 → closed b ≡ closed f + 1 → Sides g.junctions gap label b →
          Sides g.junctions gap label f → label b ≡ label f + 1
      both b f old now (inl x) (inl y) = omega (arith, now, x.1, y.1)
      both b f old now (inl x) (inr y) = absurd (omega (arith, now, x.0, x.1, y.0, y.1))
      both b f old now (inr x) (inl y) = absurd (omega (arith, old, x.0, y.0))
      both b f old now (inr x) (inr y) = omega (arith, old, now, x.0, x.1, y.0, y.1)

  -- labels and current steps fit still
  fits_gap : Fits g closed current
  fits_gap = record {
    labels = record {
      outfall = let out = h.labels.outfall in ⊎_elim
          (λ (x : label g.outfall < gap × (closed g.outfall ≡ label g.outfall)). x.1 ∙ out)
          (λ (x : gap < label g.outfall × (closed g.outfall ≡ max g.junctions (label g.outfall))). absurd (omega (arith, x.0, out)))
          (side g.outfall shaped.outfall_in);
      falls = falls;
    };
    passed = λ s a b. h.passed s (was_admissible s a) b;
  }

module _ (g : Net) (shaped : Shaped g) (gap : ℕ) (x y : Labelling) (told : GapClosed g.junctions gap x y) where
  -- whether the gap was there or not
  pub fits_closed : Fits g (label_of x) (current_of x) → Fits g (label_of y) (current_of y)
  fits_closed h = ⊎_elim
      (λ (yes : IsGap (label_of x) gap × (label_of y ≡ raised_above g.junctions gap (label_of x))).
      rw (yes.1, told.current) (fits_gap g shaped gap (label_of x) (current_of x) yes.0 h))
      (λ (no : ((v : ℕ) × (v < most_junctions) × (label_of x v ≡ gap)) × (label_of y ≡ label_of x)).
      rw (no.1, told.current) h) told.labels

  -- where a label above it is still below n, it was no gap
  pub closed_none : (v : ℕ) → gap < label_of x v → label_of y v < g.junctions → label_of y ≡ label_of x
  closed_none v high less = ⊎_elim
      (λ (yes : IsGap (label_of x) gap × (label_of y ≡ raised_above g.junctions gap (label_of x))).
      let now = ap (λ (f : ℕ → ℕ). f v) yes.1 ∙ above_gap g.junctions gap (label_of x) v high in
      absurd (omega (arith, now, less)))
      (λ (no : ((u : ℕ) × (u < most_junctions) × (label_of x u ≡ gap)) × (label_of y ≡ label_of x)). no.1) told.labels

  -- a label below n is what it was
  pub closed_below : (v : ℕ) → label_of y v < g.junctions → label_of y v ≡ label_of x v
  closed_below v less = ⊎_elim
      (λ (yes : IsGap (label_of x) gap × (label_of y ≡ raised_above g.junctions gap (label_of x))).
      let now = ap (λ (f : ℕ → ℕ). f v) yes.1 in
      ⊎_elim (λ (high : gap < label_of x v). absurd (omega (arith, now, above_gap g.junctions gap (label_of x) v high, less)))
      (λ (low : label_of x v ≤ gap). now ∙ up_to_gap g.junctions gap (label_of x) v low) (cases_lt gap (label_of x v)))
      (λ (no : ((u : ℕ) × (u < most_junctions) × (label_of x u ≡ gap)) × (label_of y ≡ label_of x)).
      ap (λ (f : ℕ → ℕ). f v) no.1) told.labels

  -- an admissible step of a junction whose label is below n still stays admissible
  pub closed_admissible : (s : ℕ) → label_of y (begins g.reaches s) < g.junctions → IsAdmissible (label_of x) g.reaches s →
      IsAdmissible (label_of y) g.reaches s
  closed_admissible s less a = ⊎_elim
      (λ (yes : IsGap (label_of x) gap × (label_of y ≡ raised_above g.junctions gap (label_of x))).
      let start = ap (λ (f : ℕ → ℕ). f (begins g.reaches s)) yes.1 in
      let end = ap (λ (f : ℕ → ℕ). f (finishes g.reaches s)) yes.1 in
      record {
        opens = a.opens;
        falls = omega (arith, start, end, stays yes.1 (cases_lt gap (label_of x (begins g.reaches s))));
      })
      (λ (no : ((u : ℕ) × (u < most_junctions) × (label_of x u ≡ gap)) × (label_of y ≡ label_of x)). rw no.1 a) told.labels
    where
      stays : label_of y ≡ raised_above g.junctions gap (label_of x) →
          (gap < label_of x (begins g.reaches s)) ⊎ (label_of x (begins g.reaches s) ≤ gap) →
          raised_above g.junctions gap (label_of x) (begins g.reaches s) ≡ raised_above g.junctions gap (label_of x) (finishes g.reaches s) + 1
      stays is (inl high) =
          let now = ap (λ (f : ℕ → ℕ). f (begins g.reaches s)) is
          ∙ above_gap g.junctions gap (label_of x) (begins g.reaches s) high in
          absurd (omega (arith, now, less))
      stays is (inr low) =
          omega (
            arith,
            a.falls,
            up_to_gap g.junctions gap (label_of x) (begins g.reaches s) low,
            up_to_gap g.junctions gap (label_of x) (finishes g.reaches s) (omega (arith, a.falls, low)),
          )
