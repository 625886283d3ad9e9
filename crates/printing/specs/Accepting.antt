-- Whether a drawing is accepted.
use Rattle.std.specs.Prelude.{◌≡◌, ℕ, [], ◌∷◌, Ok, Err, Result}
use Rattle.refusal.specs.declared.Refusal.{Refusal}
use Rattle.desk.specs.declared.line.Line.{Line}
use Rattle.desk.specs.declared.line.Line.TheVariants as line
use Rattle.desk.specs.Lines.{Lines, network_line, refusal_line}

-- the refusal that a line tells, if it tells one
abbrev pub verdict : Line → Result Unit Refusal
verdict (line.Refused e) = Err e
verdict (line.Network n m) = Ok tt
verdict (line.Limit k q) = Ok tt
verdict (line.Settled routes litres finished) = Ok tt
verdict line.Drained = Ok tt
verdict (line.Tally d) = Ok tt
verdict (line.Bottleneck sum) = Ok tt
verdict (line.Across k tail head q) = Ok tt

-- a report with these lines accepts its drawing, which is that it tells a network first; or it is this refusal alone
abbrev pub Decides : Lines → Result Unit Refusal → Type 0
Decides ls (Ok _) = (n m : ℕ) × (answers : Lines) × (ls ≡ network_line n m ∷ answers)
Decides ls (Err e) = ls ≡ refusal_line e ∷ []
