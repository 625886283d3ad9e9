-- Carry and limit: one number of one reach is set. When that is refused, and what is changed else.
use Rattle.std.specs.Prelude.{◌≡◌, ℕ, List, [], ◌∷◌, length, Ok, Err, Result, nat_le, nat_lt, slice_index_or, slice_set}
use Rattle.refusal.specs.declared.Refusal.{Refusal}
use Rattle.refusal.specs.declared.Part.{Part}
use Rattle.refusal.specs.declared.Part.TheVariants.{Network}
use Rattle.refusal.specs.Checks.{Check, check, Judged, afterwards}
use Rattle.flow.specs.Bounds.{highest_setting}
use Rattle.flow.specs.Net.{Arc, Net, arc_at}
use Rattle.flow.specs.Changes.{carrying, limiting, reach_changed}
use Rattle.network.specs.declared.change.Change.{Change}
use Rattle.network.specs.declared.change.Change.TheVariants.{Carry, Limit}
use Rattle.network.specs.declared.row.Row.{Row}
use Rattle.network.specs.Rows.{no_row, arc_of_row}

-- the reach after the change
abbrev pub changed : Change → Arc → Arc
changed (Carry a) r = carrying a r
changed (Limit q) r = limiting q r

-- what a reach's own numbers have against the change: an amount above the limit; a limit above the highest that may
-- be set, or below the carried amount
abbrev pub own_checks : Change → Arc → Part → List Check
own_checks (Carry a) r part = check (nat_lt r.limit a) 7 part ∷ []
own_checks (Limit q) r part = check (nat_lt highest_setting q) 5 part ∷ check (nat_lt q r.carried) 6 part ∷ []

-- the checks of a change of reach k: 4 is the network's, the others are of the part that answers for reach k
abbrev pub change_checks : Change → List Arc → (ℕ → Part) → ℕ → List Check
change_checks c rs giver k = check (nat_le (length rs) k) 4 Network ∷ own_checks c (arc_at rs k) (giver k)

-- a change of reach k of a list: reach k is changed, or it is refused and nothing is
abbrev pub ChangedIn : Change → List Arc → (ℕ → Part) → ℕ → Result Unit Refusal → List Arc → Type 0
ChangedIn c rs giver k r after =
    Judged (change_checks c rs giver k) r × (after ≡ afterwards r (slice_set rs k (changed c (arc_at rs k))) rs)

-- a change of reach k of a network
abbrev pub Changed : Change → Net → (ℕ → Part) → ℕ → Result Unit Refusal → Net → Type 0
Changed c g giver k r after =
    Judged (change_checks c g.reaches giver k) r × (after ≡ afterwards r (reach_changed (changed c) k g) g)

-- a change of one row
abbrev pub row_changed : Change → Row → Row
row_changed (Carry a) row = record { tail = row.tail; head = row.head; limit = row.limit; carried = a }
row_changed (Limit q) row = record { tail = row.tail; head = row.head; limit = q; carried = row.carried }

-- and where that is accepted, the row after it
abbrev pub Rewritten : Change → Row → Result Row Refusal → Type 0
Rewritten c row (Ok new) = new ≡ row_changed c row
Rewritten c row (Err _) = Unit {0}

-- a change of one row, which the part answers for: refused, or the row after it
abbrev pub Remade : Change → Row → Part → Result Row Refusal → Type 0
Remade c row part r = Judged (own_checks c (arc_of_row row) part) r × Rewritten c row r

-- a change of row k of a table writes that row, whole, and no other; none where it is refused
abbrev pub Written : Change → List Row → ℕ → Result Unit Refusal → List Row → Type 0
Written c rows k r after = after ≡ afterwards r (slice_set rows k (row_changed c (slice_index_or rows k no_row))) rows
