-- The bounds of a gathering, each under one name.
use Rattle.std.specs.Prelude.{ℕ}

-- the most sources, and the most sinks, that one gathering may have
abbrev pub most_of_each : ℕ
most_of_each = 16

-- the limit of a feeder whose entry states none
abbrev pub unstated_limit : ℕ
unstated_limit = 1000000
