-- Which junctions are in a list, by a mark for each.
use Rattle.std.specs.Prelude.{◌≡◌, ℕ, Bool, false, cond, List, slice_index_or}

-- the mark at a place; none past the end
abbrev pub at_place : List Bool → ℕ → Bool
at_place marks v = slice_index_or marks v false

-- something is there once where it is marked, and not at all where it is not
abbrev pub IsOneWhere : Bool → ℕ → Type 0
IsOneWhere mark n = n ≡ cond mark 1 0
