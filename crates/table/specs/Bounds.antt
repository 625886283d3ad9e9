-- The bounds of a draft, each under one name.
use Rattle.std.specs.Prelude.{ℕ}

-- the most junctions that a shape may have
abbrev pub most_drafted : ℕ
most_drafted = 256

-- the most rows of a table that are ever used
abbrev pub most_rows : ℕ
most_rows = 1024
