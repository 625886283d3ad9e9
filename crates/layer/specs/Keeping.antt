-- The reaches that a layer keeps in rows of its own.
use Rattle.std.specs.Prelude.{◌≡◌, ℕ, ◌<◌, ◌≤◌, List, length, take, Some, None, Ok, Err, Option, Result}
use Rattle.flow.specs.Bounds.{highest_limit}
use Rattle.flow.specs.Net.{Arc, arc_at}
use Rattle.network.specs.declared.row.Row.{Row}
use Rattle.network.specs.Rows.{arc_of_row, arcs_in}
use Rattle.layer.specs.Bounds.{most_own}
use Rattle.layer.specs.declared.own.OwnRows.{OwnRows}
use Rattle.layer.specs.declared.own.NotInserted.{NotInserted}
use Rattle.layer.specs.declared.own.NotInserted.TheVariants.{NoPlace, BehindTheEnd}

-- the rows that hold reaches
unfoldable pub filled : OwnRows → List Row
filled o = take o.used o.rows

-- the reaches
abbrev pub own_arcs : OwnRows → List Arc
own_arcs o = arcs_in (filled o)

-- the row of reach e, with its numbers; nothing exactly where there is no such reach
abbrev pub RowAt : List Arc → ℕ → Option Row → Type 0
RowAt own e (Some row) = (e < length own) × (arc_of_row row ≡ arc_at own e)
RowAt own e None = length own ≤ e

-- whether a reach is put in at a place, among so many: where there is room and the place is not behind the end; and else
-- why not, of both reasons that there is no room
abbrev pub Insertion : ℕ → ℕ → Result Unit NotInserted → Type 0
Insertion count at (Ok _) = (count < most_own) × (at ≤ count)
Insertion count at (Err NoPlace) = most_own ≤ count
Insertion count at (Err BehindTheEnd) = (count < most_own) × (count < at)

-- each reach carries no more than its limit, which is one that a reach may have
abbrev pub Bounded : List Arc → Type 0
Bounded own = (e : ℕ) → e < length own → ((arc_at own e).carried ≤ (arc_at own e).limit) × ((arc_at own e).limit ≤ highest_limit)

-- the same reaches, but for what they carry and for their limits
abbrev pub SameEnds : List Arc → List Arc → Type 0
SameEnds own after =
    (length after ≡ length own)
    × ((e : ℕ) → e < length own → ((arc_at after e).tail ≡ (arc_at own e).tail) × ((arc_at after e).head ≡ (arc_at own e).head))
