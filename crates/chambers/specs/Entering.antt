-- An entry of a chamber: when it is refused, and what it makes of the network. g is the network below, and `own` is the
-- list of the reaches of the chambers that are there.
use Rattle.std.specs.Prelude.{ℕ, ◌+◌, cond, List, [], ◌∷◌, ◌++◌, map, length, is_some, ◌==◌, nat_le, nat_lt}
use Rattle.refusal.specs.declared.Part.TheVariants as parts
use Rattle.refusal.specs.Checks.{Check, check}
use Rattle.flow.specs.Bounds.{highest_setting}
use Rattle.flow.specs.Net.{Arc, Net}
use Rattle.flow.specs.Flows.{carries_any}
use Rattle.layer.specs.Layering.{leaving_from, crowded}
use Rattle.layer.specs.Chambered.{twin_of, chambered}
use Rattle.chambers.specs.Bounds.{most_chambers}

-- whether v is a junction of the network below, whether v has a chamber already, the limit q, whether a place is left,
-- whether the network grows too large, and whether some reach carries
abbrev pub chamber_checks : Net → List Arc → ℕ → ℕ → List Check
chamber_checks g own v q =
    check (nat_le g.junctions v) 2 parts.Chambers
    ∷ check (is_some (twin_of own v)) 3 parts.Chambers
    ∷ check (nat_lt highest_setting q) 5 parts.Chambers
    ∷ check (nat_le most_chambers (length own)) 8 parts.Chambers
    ∷ check (crowded (g.junctions + length own + 1) (length g.reaches + length own + 1)) 9 parts.Chambers
    ∷ check (carries_any (chambered g own).reaches) 14 parts.Chambers ∷ []

-- the reach of one chamber more, at junction v with limit q: to the next new junction, and dry
abbrev pub chamber_reach : Net → List Arc → ℕ → ℕ → Arc
chamber_reach g own v q = record { tail = v; head = g.junctions + length own; limit = q; carried = 0 }

-- the twin in place of v, and every other junction w as it is
abbrev pub instead : ℕ → ℕ → ℕ → ℕ
instead v twin w = cond (w == v) twin w

-- what the entry makes of the network h as it is with the chambers that are there: one junction more, the twin of v;
-- every reach that left v leaves the twin, and an outfall v is the twin; one reach more, from v to the twin, and dry
abbrev pub with_chamber : ℕ → ℕ → Net → Net
with_chamber v q h = record {
  junctions = h.junctions + 1;
  intake = h.intake;
  outfall = instead v h.junctions h.outfall;
  reaches = map (leaving_from (instead v h.junctions)) h.reaches
      ++ (record { tail = v; head = h.junctions; limit = q; carried = 0 } ∷ []);
}
