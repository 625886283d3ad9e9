-- The rows of a table that hold reaches.
use Rattle.std.specs.Prelude.{ℕ, ◌<◌, min, List, length, slice_index_or}
use Rattle.flow.specs.Net.{Net, FairArc}
use Rattle.network.specs.declared.row.Row.{Row}
use Rattle.network.specs.declared.size.Size.{Size}
use Rattle.network.specs.Rows.{no_row, arc_of_row, arcs_of}
use Rattle.table.specs.Bounds.{most_rows}

-- how many reaches a table has room for: as many as it has rows, and no more than are ever used
abbrev pub places_in : List Row → ℕ
places_in rows = min (length rows) most_rows

-- the network of a size in the first rows of a table
abbrev pub net_in : List Row → Size → Net
net_in rows size =
    record { junctions = size.junctions; intake = size.intake; outfall = size.outfall; reaches = arcs_of rows size.reaches }

-- each of the first `used` rows holds a reach that may be in a network of n junctions
abbrev pub FairRows : List Row → ℕ → ℕ → Type 0
FairRows rows used n = (k : ℕ) → k < used → FairArc n (arc_of_row (slice_index_or rows k no_row))
