-- What the calls of a draft do and when they refuse.
use Rattle.std.specs.Prelude.{ℕ, ◌||◌, List, [], ◌∷◌, ◌++◌, length, ◌==◌, nat_le, nat_lt}
use Rattle.refusal.specs.declared.Part.TheVariants as parts
use Rattle.refusal.specs.Checks.{Check, check}
use Rattle.flow.specs.Bounds.{highest_setting}
use Rattle.flow.specs.Net.{Net}
use Rattle.flow.specs.Changes.{with_reaches}
use Rattle.network.specs.declared.row.Row.{Row}
use Rattle.network.specs.Rows.{arc_of_row}
use Rattle.table.specs.declared.draft.Draft.{Draft}
use Rattle.table.specs.Bounds.{most_drafted}
use Rattle.table.specs.Laid.{net_in}

-- the network that a draft has come to
abbrev pub draft_net : Draft → Net
draft_net d = net_in d.rows.now d.size

-- a new draft: two junctions and no reach
abbrev pub fresh : Net
fresh = record { junctions = 2; intake = 0; outfall = 1; reaches = [] }

-- shape: the number of junctions, whether intake and outfall are junctions, whether they differ, and whether a reach
-- is laid already
abbrev pub shape_checks : Net → ℕ → ℕ → ℕ → List Check
shape_checks g n i o =
    check (nat_lt n 2 || nat_lt most_drafted n) 1 parts.Draft
    ∷ check (nat_le n i || nat_le n o) 2 parts.Draft
    ∷ check (i == o) 3 parts.Draft
    ∷ check (nat_lt 0 (length g.reaches)) 14 parts.Draft ∷ []

-- the network with another number of junctions, another intake and another outfall
abbrev pub with_shape : Net → ℕ → ℕ → ℕ → Net
with_shape g n i o = record { junctions = n; intake = i; outfall = o; reaches = g.reaches }

-- lay: whether the ends are junctions, whether they differ, the limit, and whether one of the table's places is left
abbrev pub lay_checks : Net → ℕ → ℕ → ℕ → ℕ → List Check
lay_checks g places tail head q =
    check (nat_le g.junctions tail || nat_le g.junctions head) 2 parts.Draft
    ∷ check (tail == head) 3 parts.Draft
    ∷ check (nat_lt highest_setting q) 5 parts.Draft
    ∷ check (nat_le places (length g.reaches)) 8 parts.Draft ∷ []

-- a laid row carries nothing
abbrev pub laid_row : ℕ → ℕ → ℕ → Row
laid_row tail head q = record { tail = tail; head = head; limit = q; carried = 0 }

-- the network with one reach more, behind the others
abbrev pub with_reach : Net → ℕ → ℕ → ℕ → Net
with_reach g tail head q = with_reaches g (g.reaches ++ (arc_of_row (laid_row tail head q) ∷ []))
