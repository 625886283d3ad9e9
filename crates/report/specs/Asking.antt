-- The calls that a drawing asks for.
use Rattle.std.specs.Prelude.{◌≡◌, ℕ, ◌⊎◌, List, [], ℤ}
use Rattle.std.specs.List.{cons_option}
use Rattle.flow.specs.Histories.{Outcome, Event, settling, limit_change, draining, tally, bottleneck, refusal}
use Rattle.drawing.specs.Ahead.{Drawn, item, end, refused}
use Rattle.desk.specs.declared.command.Command.{Command}
use Rattle.desk.specs.declared.command.Command.TheVariants as command
use Rattle.desk.specs.Commands.{command_of}

-- the commands of a drawing, in their order
abbrev pub commands_of : Drawn → List Command
commands_of (item p a rest) = cons_option (command_of a) (commands_of rest)
commands_of (end p) = []
commands_of (refused e) = []

-- the calls that a command can come to: with the reach, the limit and the budget that it states, and with any answer; to set a
-- limit and to tell the bottleneck may be refused
abbrev pub Asks : Command → Event → Type 0
Asks (command.Limit k q) e = (e ≡ limit_change k q) ⊎ (e ≡ refusal)
Asks (command.Settle budget) e = (routes : List (List ℕ)) × (answer : Outcome) × (e ≡ settling budget routes answer)
Asks command.Drain e = e ≡ draining
Asks command.Tally e = (answer : ℤ) × (e ≡ tally answer)
Asks command.Bottleneck e = ((marks : List ℕ) × (sum crossing : ℕ) × (e ≡ bottleneck marks sum crossing)) ⊎ (e ≡ refusal)
