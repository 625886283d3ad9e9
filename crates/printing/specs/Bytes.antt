-- What stands in bytes that are lent for a text.
use Rattle.std.specs.Prelude.{ℕ, ◌-◌, ◌^◌, List, ◌++◌, length, take, drop, min}

-- the bytes bs over the first of xs, as many as there is room for; behind them those of xs stay
abbrev pub written : List ℕ → List ℕ → List ℕ
written bs xs = take (length xs) bs ++ drop (length bs) xs

-- the same from the place p on; those of xs before it stay
abbrev pub written_from : ℕ → List ℕ → List ℕ → List ℕ
written_from p bs xs = take p xs ++ written bs (drop p xs)

-- a length, as a usize of 64 bits tells it: one that it cannot hold as the highest that it can
abbrev pub held : ℕ → ℕ
held n = min n (2 ^ 64 - 1)
