-- The reaches that rows hold: how many, which, and what a write to a row does to them.
use Rattle.std.proofs.Common.{◌≡◌, ℕ, ◌<◌, min, List, length, get_or, take, set, refl, ap, ◌∙◌, arith, length-take, get_or-take}
use lib.ListN.{length-map}
use Rattle.std.proofs.Math.ListN.{get_or-map}
use Rattle.std.proofs.lemmas.List.{map-set}
use Rattle.flow.specs.Net.{arc_at}
use Rattle.network.specs.declared.change.Change.{Change}
use Rattle.network.specs.declared.change.Change.TheVariants.{Carry, Limit}
use Rattle.network.specs.declared.row.Row.{Row}
use Rattle.network.specs.Rows.{no_row, arc_of_row, arcs_in, arcs_of}
use Rattle.network.specs.Changing.{changed, row_changed}

-- of all rows of a list
module _ (rows : List Row) where
  pub count_in : length (arcs_in rows) ≡ length rows
  count_in = length-map rows arc_of_row

  pub arc_in_row : (k : ℕ) → arc_at (arcs_in rows) k ≡ arc_of_row (get_or rows k no_row)
  arc_in_row k = get_or-map arc_of_row rows k no_row

  pub set_in : (k : ℕ) (row : Row) → arcs_in (set rows k row) ≡ set (arcs_in rows) k (arc_of_row row)
  set_in k row = map-set arc_of_row rows k row

-- of the first `used` rows of a table
module _ (rows : List Row) (used : ℕ) where
  pub arcs_length : length (arcs_of rows used) ≡ min used (length rows)
  arcs_length = simp (length-map, length-take) (omega arith)

  pub arcs_at : (k : ℕ) → k < length (arcs_of rows used) → arc_at (arcs_of rows used) k ≡ arc_of_row (get_or rows k no_row)
  arcs_at k low =
      let less : k < used = omega (arith, arcs_length) in
      arc_in_row (take used rows) k ∙ ap arc_of_row (get_or-take used rows k no_row less)

-- a change of a row is the change of the reach that it holds
pub arc_changed : (c : Change) (row : Row) → arc_of_row (row_changed c row) ≡ changed c (arc_of_row row)
arc_changed (Carry a) row = refl
arc_changed (Limit q) row = refl
