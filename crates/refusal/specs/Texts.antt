-- How a refusal is printed.
use Rattle.std.specs.Prelude.{ℕ, List, [], ◌++◌, Some, None, codes, decimal, Option}
use Rattle.refusal.specs.declared.Part.{Part}
use Rattle.refusal.specs.Numbers.{word_of}

-- a refusal that has a place tells it
abbrev pub place_text : Option ℕ → List ℕ
place_text None = []
place_text (Some p) = codes " at " ++ decimal p

-- refused NUMBER at PLACE in PART
abbrev pub refusal_text : ℕ → Option ℕ → Part → List ℕ
refusal_text number place part =
    codes "refused " ++ (decimal number ++ (place_text place ++ (codes " in " ++ word_of part)))
