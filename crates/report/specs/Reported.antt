-- What is printed for a drawing: which lines, in their order, for every input.
use Rattle.std.specs.Prelude.{ℕ, List, [], ◌∷◌}
use Rattle.refusal.specs.declared.Part.TheVariants.{Reader, Network}
use Rattle.refusal.specs.Checks.{first_of}
use Rattle.flow.specs.Net.{Net}
use Rattle.table.specs.Drafting.{fresh, shape_checks, with_shape, lay_checks, with_reach}
use Rattle.naming.specs.Names.{Naming, unnamed, with_name}
use Rattle.drawing.specs.Records.{shape, name, reach, table_end, chamber, source, sink, limit, settle, drain, bottleneck, tally}
use Rattle.drawing.specs.Ahead.{Drawn, item, end, refused, drawn}
use Rattle.desk.specs.Lines.{Lines, refused_line, refusal_line, refusable}
use Rattle.entries.specs.Entered.{chamber_lines}

-- a record that has no place in the table. (The reader gives none, and no end before that of the table: `InOrder` in crate
-- drawing. These cases are here since a definition speaks of every list of records.)
abbrev pub misplaced : ℕ → Lines
misplaced p = refused_line 11 p Reader ∷ []

-- the lines of a drawing, from the draft that its records have come to, in a table with room for so many reaches, and from
-- the names that they have given; a record that is refused ends the program, and behind the end of the table come the
-- entries
abbrev pub draft_lines : ℕ → Drawn → Net → Naming → Lines
draft_lines places (item p (shape n i o) rest) g names =
    refusable (first_of (shape_checks g n i o)) p (draft_lines places rest (with_shape g n i o) names)
draft_lines places (item p (reach t h q) rest) g names =
    refusable (first_of (lay_checks g places t h q)) p (draft_lines places rest (with_reach g t h q) names)
draft_lines places (item p (name j s q) rest) g names = draft_lines places rest g (with_name j s names)
draft_lines places (item p table_end rest) g names = chamber_lines names rest g (λ _. Network) []
draft_lines places (item p (chamber j q) rest) g names = misplaced p
draft_lines places (item p (source j q) rest) g names = misplaced p
draft_lines places (item p (sink j q) rest) g names = misplaced p
draft_lines places (item p (limit k q) rest) g names = misplaced p
draft_lines places (item p (settle b) rest) g names = misplaced p
draft_lines places (item p drain rest) g names = misplaced p
draft_lines places (item p bottleneck rest) g names = misplaced p
draft_lines places (item p tally rest) g names = misplaced p
draft_lines places (end p) g names = refused_line 12 p Reader ∷ []
draft_lines places (refused e) g names = refusal_line e ∷ []

-- the lines of an input, over a table with room for so many reaches
abbrev pub reported : ℕ → List ℕ → Lines
reported places input = draft_lines places (drawn input) fresh unnamed
