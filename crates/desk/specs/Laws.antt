-- How many answers the commands of a drawing get.
use Rattle.std.specs.Prelude.{ℕ, ◌+◌, Bool, cond, true, false, List, [], ◌∷◌, codes, ◌==◌}
use Rattle.desk.specs.Lines.{Lines}
use Rattle.desk.specs.Commands.{Asked, ask, done, turned}

-- whether a line begins with these bytes
abbrev pub starts_with : List ℕ → List ℕ → Bool
starts_with [] l = true
starts_with (b ∷ bs) [] = false
starts_with (b ∷ bs) (c ∷ cs) = cond (b == c) (starts_with bs cs) false

-- whether it tells a reach that crosses the bottleneck; such lines belong to the line of the bottleneck
abbrev pub is_across : List ℕ → Bool
is_across l = starts_with (codes "across ") l

-- how many lines there are, those aside
abbrev pub answers_in : Lines → ℕ
answers_in [] = 0
answers_in (l ∷ ls) = cond (is_across l) 0 1 + answers_in ls

-- one answer for each command, and one for the refusal that ends the program, if there is one
abbrev pub answers_to : Asked → ℕ
answers_to (ask c p rest) = 1 + answers_to rest
answers_to done = 0
answers_to (turned e) = 1

-- and one line for the network, unless the first thing is such a refusal
abbrev pub lines_for : Asked → ℕ
lines_for (ask c p rest) = 1 + answers_to (ask c p rest)
lines_for done = 1
lines_for (turned e) = 1
