-- Numbers in a drawing: a field of bytes, with the highest byte first.
use Rattle.std.specs.Prelude.{ℕ, ◌+◌, ◌*◌, ◌^◌, List, [], ◌∷◌, length, take, drop}

-- the number that bytes mean, whatever their count
abbrev pub number_in : List ℕ → ℕ
number_in [] = 0
number_in (b ∷ bs) = b * 256 ^ length bs + number_in bs

-- the field of a width that begins at an index
abbrev pub field : ℕ → ℕ → List ℕ → List ℕ
field from width bs = take width (drop from bs)

-- the number that such a field means
abbrev pub number_at : ℕ → ℕ → List ℕ → ℕ
number_at from width bs = number_in (field from width bs)
