-- Names of junctions, and how a junction is shown.
use Rattle.std.specs.Prelude.{ℕ, cond, ◌&&◌, List, Some, None, Option, decimal, ◌==◌, nat_lt, encode_utf8_all}
use Rattle.flow.specs.Bounds.{most_junctions}

-- the name of each junction, if it has one
abbrev pub Naming : Type 0
Naming = ℕ → Option (List ℕ)

abbrev pub unnamed : Naming
unnamed v = None

-- the first name that is given to a junction counts
abbrev pub first_name : Option (List ℕ) → List ℕ → Option (List ℕ)
first_name (Some given) name = Some given
first_name None name = Some name

-- a name is given to junction j, if a network may have such a junction
abbrev pub with_name : ℕ → List ℕ → Naming → Naming
with_name j name names v = cond ((v == j) && nat_lt j most_junctions) (first_name (names v) name) (names v)

-- a junction is shown by its name, each byte as the character with that number, or else by its number
abbrev pub shown_as : Option (List ℕ) → ℕ → List ℕ
shown_as (Some name) v = encode_utf8_all name
shown_as None v = decimal v

abbrev pub shown : Naming → ℕ → List ℕ
shown names v = shown_as (names v) v
