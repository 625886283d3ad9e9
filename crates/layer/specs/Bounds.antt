-- The bound of all layers.
use Rattle.std.specs.Prelude.{ℕ}

-- the most reaches that one layer may add
abbrev pub most_own : ℕ
most_own = 32
