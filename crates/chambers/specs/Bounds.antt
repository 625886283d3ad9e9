-- The bound of a layer of chambers.
use Rattle.std.specs.Prelude.{ℕ}

-- the most chambers that one layer may have
abbrev pub most_chambers : ℕ
most_chambers = 32
