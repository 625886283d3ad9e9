-- What rows mean.
use Rattle.std.specs.Prelude.{◌≡◌, ℕ, ◌<◌, ◌≤◌, List, map, take, Ok, Err, Result}
use Rattle.flow.specs.Bounds.{highest_limit}
use Rattle.flow.specs.Net.{Arc}
use Rattle.network.specs.declared.reach.Reach.{Reach}
use Rattle.network.specs.declared.reach.BrokenBound.{BrokenBound}
use Rattle.network.specs.declared.reach.BrokenBound.TheVariants.{CarriedAboveLimit, LimitTooHigh}
use Rattle.network.specs.declared.row.Row.{Row}
use Rattle.network.specs.Answers.{arc_in}

-- the row that stands past the end of a table
abbrev pub no_row : Row
no_row = record { tail = 0; head = 0; limit = 0; carried = 0 }

-- the numbers of a row
abbrev pub arc_of_row : Row → Arc
arc_of_row row = record { tail = row.tail; head = row.head; limit = row.limit; carried = row.carried }

-- the reaches that rows hold, and those that the first `used` rows of a table hold
abbrev pub arcs_in : List Row → List Arc
arcs_in rows = map arc_of_row rows

abbrev pub arcs_of : List Row → ℕ → List Arc
arcs_of rows used = arcs_in (take used rows)

-- the record of a row, with the row's numbers; or a bound of records that they break, the one on the carried amount first
abbrev pub Checked : Row → Result Reach BrokenBound → Type 0
Checked row (Ok r) = arc_in r ≡ arc_of_row row
Checked row (Err CarriedAboveLimit) = row.limit < row.carried
Checked row (Err LimitTooHigh) = (row.carried ≤ row.limit) × (highest_limit < row.limit)
