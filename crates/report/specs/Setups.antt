-- One step of reading a drawing's table.
use Rattle.std.specs.Prelude.{◌≡◌, ℕ, [], Result}
use Rattle.refusal.specs.declared.Part.TheVariants.{Network}
use Rattle.refusal.specs.declared.Refusal.{Refusal}
use Rattle.flow.specs.Net.{Net}
use Rattle.naming.specs.Names.{Naming}
use Rattle.drawing.specs.Records.{Said}
use Rattle.drawing.specs.Ahead.{Drawn, item}
use Rattle.desk.specs.Lines.{Lines, going_on}
use Rattle.entries.specs.Entered.{chamber_lines}
use Rattle.report.specs.Reported.{draft_lines}

-- a record of the table, other than its end, was entered into the network g and the names that were given, and left the
-- network after and the names with it
abbrev pub Entered : ℕ → Said → ℕ → Net → Naming → Result Unit Refusal → Net → Naming → Type 0
Entered places a p g names r after named =
    (rest : Drawn) → draft_lines places (item p a rest) g names ≡ going_on r (draft_lines places rest after named)

-- the table was read, and these records follow it
abbrev pub table_lines : Result Unit Refusal → Drawn → Net → Naming → Lines
table_lines r rest g names = going_on r (chamber_lines names rest g (λ _. Network) [])
