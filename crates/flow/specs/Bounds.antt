-- The bounds that every network keeps to, each under one name.
use Rattle.std.specs.Prelude.{ℕ}

-- the most junctions, and the most reaches, that a network may have
abbrev pub most_junctions : ℕ
most_junctions = 512

abbrev pub most_reaches : ℕ
most_reaches = 2048

-- the highest limit that a reach may have
abbrev pub highest_limit : ℕ
highest_limit = 1000000

-- the highest limit that a call may set
abbrev pub highest_setting : ℕ
highest_setting = 1000000
