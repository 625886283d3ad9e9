-- What stands for the parts of a refusal where it crosses to C.
use Rattle.std.specs.Prelude.{ℕ, Some, None, Option}
use Rattle.refusal.specs.declared.Part.{Part}
use Rattle.refusal.specs.declared.Part.TheVariants.{Reader, Draft, Chambers, Gathering, Network}

abbrev pub part_number : Part → ℕ
part_number Reader = 0
part_number Draft = 1
part_number Chambers = 2
part_number Gathering = 3
part_number Network = 4

-- whether a place is known, and the place
abbrev pub has_place : Option ℕ → ℕ
has_place (Some p) = 1
has_place None = 0

abbrev pub place_or_0 : Option ℕ → ℕ
place_or_0 (Some p) = p
place_or_0 None = 0
