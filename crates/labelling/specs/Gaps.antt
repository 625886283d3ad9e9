-- Gaps: labels that no junction has. Along an open step labels fall by at most 1, so no open steps lead past a gap.
use Rattle.std.specs.Prelude.{◌≡◌, ℕ, ◌<◌, ◌≢◌, ◌⊎◌, max, cond, nat_lt, Some, None, Option}
use Rattle.flow.specs.Bounds.{most_junctions}
use Rattle.flow.specs.Net.{Net}
use Rattle.labelling.specs.declared.labelling.Labelling.{Labelling}
use Rattle.labelling.specs.Keeping.{label_of, current_of}
use Rattle.labelling.specs.Moving.{Raised, NotRaised}

-- no junction has this label
abbrev pub IsGap : (ℕ → ℕ) → ℕ → Type 0
IsGap label gap = (v : ℕ) → v < most_junctions → label v ≢ gap

-- each label above the gap is n at least
abbrev pub raised_above : ℕ → ℕ → (ℕ → ℕ) → ℕ → ℕ
raised_above n gap label v = cond (nat_lt gap (label v)) (max n (label v)) (label v)

-- where the label is a gap, those above it are n at least; where some junction has it, all labels stay. Current steps stay
pub record GapClosed (n gap : ℕ) (x y : Labelling) : Type 0 where
  pub labels : (IsGap (label_of x) gap × (label_of y ≡ raised_above n gap (label_of x)))
      ⊎ (((v : ℕ) × (v < most_junctions) × (label_of x v ≡ gap)) × (label_of y ≡ label_of x))
  pub current : current_of y ≡ current_of x

-- the junction is relabelled, and where no junction has the label any more that it had, that gap is closed; or nothing changes
abbrev pub Lifted : Net → Labelling → ℕ → Option Unit → Labelling → Type 0
Lifted g x v (Some _) y = (z : Labelling) × Raised g x v z × GapClosed g.junctions (label_of x v) z y
Lifted g x v None y = NotRaised g x v y
