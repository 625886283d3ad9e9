-- What is printed for the commands of a drawing, over a network.
use Rattle.std.specs.Prelude.{ℕ, cond, List, [], ◌∷◌, ◌++◌, length, Some, None, Option}
use Rattle.refusal.specs.declared.Part.{Part}
use Rattle.refusal.specs.declared.Part.TheVariants.{Network}
use Rattle.refusal.specs.Checks.{first_of}
use Rattle.flow.specs.Net.{Arc, Net}
use Rattle.flow.specs.Flows.{delivered}
use Rattle.flow.specs.Changes.{relimited, drained}
use Rattle.flow.specs.Cuts.{Side}
use Rattle.flow.specs.Bottlenecks.{near_of, has_route, bottleneck_sum, marked_over}
use Rattle.flow.specs.Histories.{Outcome}
use Rattle.calls.specs.Settling.{after_settling}
use Rattle.naming.specs.Names.{Naming}
use Rattle.network.specs.declared.change.Change.TheVariants as change
use Rattle.network.specs.Changing.{change_checks}
use Rattle.performing.specs.declared.answer.Answer.{Answer}
use Rattle.performing.specs.declared.answer.Answer.TheVariants as answer
use Rattle.desk.specs.declared.command.Command.{Command}
use Rattle.desk.specs.declared.command.Command.TheVariants as command
use Rattle.desk.specs.declared.line.Line.{Line}
use Rattle.desk.specs.declared.line.Line.TheVariants as line
use Rattle.desk.specs.Lines.{Lines, network_line, limit_line, settled_line, drained_line, tally_line, bottleneck_line, across_lines, refused_line, refusal_line}
use Rattle.desk.specs.Commands.{Asked, ask, done, turned}

-- a limit at the place p: refused with a number by a part, and nothing is changed; or set
abbrev pub limited : Option (ℕ × Part) → ℕ → ℕ → ℕ → Net → List ℕ × Net
limited (Some r) k q p g = (refused_line r.0 p r.1, g)
limited None k q p g = (limit_line k q, relimited k q g)

-- what settling prints, and the network that it leaves
abbrev pub settled_as : Outcome × Net → List ℕ × Net
settled_as x = (settled_line x.0.routes x.0.litres x.0.finished, x.1)

-- a bottleneck at the place p: refused with 10 by the network while a route exists; or its sum
abbrev pub bottleneck_answer : ℕ → Net → List ℕ
bottleneck_answer p g = cond (has_route g) (refused_line 10 p Network) (bottleneck_line (bottleneck_sum g))

-- the line that answers a command at the place p, and the network that the command leaves
abbrev pub answered : Command → ℕ → (ℕ → Part) → Net → List ℕ × Net
answered (command.Limit k q) p giver g = limited (first_of (change_checks (change.Limit q) g.reaches giver k)) k q p g
answered (command.Settle b) p giver g = settled_as (after_settling b g)
answered command.Drain p giver g = (drained_line, drained g)
answered command.Tally p giver g = (tally_line (delivered g), g)
answered command.Bottleneck p giver g = (bottleneck_answer p g, g)

-- the lines behind that line: of a bottleneck that is not refused, one for each reach that crosses it
abbrev pub following : Naming → Command → Net → Lines
following names command.Bottleneck g = cond (has_route g) [] (across_lines names (near_of g) 0 g.reaches)
following names (command.Limit k q) g = []
following names (command.Settle b) g = []
following names command.Drain g = []
following names command.Tally g = []

-- a bottleneck that is not refused leaves its near side in marks
abbrev pub marks_left : Command → Net → List ℕ → List ℕ
marks_left command.Bottleneck g marks = cond (has_route g) marks (marked_over g marks)
marks_left (command.Limit k q) g marks = marks
marks_left (command.Settle b) g marks = marks
marks_left command.Drain g marks = marks
marks_left command.Tally g marks = marks

-- the line of the code that tells an answer, if it answers a command
abbrev pub line_of : Answer → Option Line
line_of (answer.Settled s) = Some (line.Settled s.routes s.litres s.finished)
line_of (answer.Limited k q) = Some (line.Limit k q)
line_of answer.Drained = Some line.Drained
line_of (answer.Tally d) = Some (line.Tally d)
line_of (answer.Bottleneck b) = Some (line.Bottleneck b.sum)
line_of (answer.Size s) = None
line_of (answer.Reach r) = None
line_of (answer.Touched i) = None

-- the lines behind a line of the code: where it tells a bottleneck, one for each reach that crosses from this near side
abbrev pub behind : Naming → Side → List Arc → Line → Lines
behind names near rs (line.Bottleneck sum) = across_lines names near 0 rs
behind names near rs (line.Network n m) = []
behind names near rs (line.Limit k q) = []
behind names near rs (line.Settled routes litres finished) = []
behind names near rs line.Drained = []
behind names near rs (line.Tally d) = []
behind names near rs (line.Across k tail head q) = []
behind names near rs (line.Refused e) = []

-- the lines of commands, one after the other
abbrev pub command_lines : Naming → Asked → (ℕ → Part) → Net → Lines
command_lines names (ask c p rest) giver g =
    (answered c p giver g).0 ∷ (following names c g ++ command_lines names rest giver (answered c p giver g).1)
command_lines names done giver g = []
command_lines names (turned e) giver g = refusal_line e ∷ []

-- the network is told before the first command, or at the end of the input, and not before a refusal
abbrev pub opened_lines : Naming → Asked → (ℕ → Part) → Net → Lines
opened_lines names (ask c p rest) giver g =
    network_line g.junctions (length g.reaches) ∷ command_lines names (ask c p rest) giver g
opened_lines names done giver g = network_line g.junctions (length g.reaches) ∷ []
opened_lines names (turned e) giver g = refusal_line e ∷ []
