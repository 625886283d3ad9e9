-- What touch answers. The direction in which it looks stands here and nowhere else.
use Rattle.std.specs.Prelude.{◌≡◌, ℕ, ◌<◌, ◌≤◌, ◌⊎◌, List, length, Some, None, Option}
use Rattle.flow.specs.Net.{Arc, arc_at}

-- a reach touches the two junctions at its ends
abbrev pub Touches : ℕ → Arc → Type 0
Touches v r = (r.tail ≡ v) ⊎ (r.head ≡ v)

-- no reach has the property, from number k up to the number end, which is left out
abbrev pub NoneFrom : (Arc → Type 0) → List Arc → ℕ → ℕ → Type 0
NoneFrom P rs k end = (i : ℕ) → k ≤ i → i < end → P (arc_at rs i) → ⊥

-- the lowest number from k on whose reach has the property, or nothing where there is none
abbrev pub FirstFrom : (Arc → Type 0) → List Arc → ℕ → Option ℕ → Type 0
FirstFrom P rs k (Some i) = (k ≤ i) × (i < length rs) × P (arc_at rs i) × NoneFrom P rs k i
FirstFrom P rs k None = NoneFrom P rs k (length rs)

-- what touch answers
abbrev pub Touched : ℕ → List Arc → ℕ → Option ℕ → Type 0
Touched v rs k answer = FirstFrom (Touches v) rs k answer
