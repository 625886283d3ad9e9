-- The commands that a drawing gives, after its table.
use Rattle.std.specs.Prelude.{ℕ, Some, None, Ok, Err, Option, Result}
use Rattle.refusal.specs.declared.Fault.{Fault}
use Rattle.refusal.specs.declared.Fault.TheVariants.{ByteNotAllowed}
use Rattle.refusal.specs.declared.Refusal.{Refusal}
use Rattle.drawing.specs.Records.{Said, shape, name, reach, table_end, chamber, source, sink, limit, settle, drain, bottleneck, tally}
use Rattle.drawing.specs.Reading.{refusal_at}
use Rattle.drawing.specs.Ahead.{Drawn, item, end, refused}
use Rattle.performing.specs.declared.call.Call.{Call}
use Rattle.performing.specs.declared.call.Call.TheVariants as call
use Rattle.desk.specs.declared.command.Command.{Command}
use Rattle.desk.specs.declared.command.Command.TheVariants as command

-- the command that a record gives, if it gives one
abbrev pub command_of : Said → Option Command
command_of (limit k q) = Some (command.Limit k q)
command_of (settle b) = Some (command.Settle b)
command_of drain = Some command.Drain
command_of tally = Some command.Tally
command_of bottleneck = Some command.Bottleneck
command_of (shape n i o) = None
command_of (name j s p) = None
command_of (reach t h q) = None
command_of table_end = None
command_of (chamber j q) = None
command_of (source j q) = None
command_of (sink j q) = None

-- the command, if there is one; else the letter of the record is a byte that is not allowed
abbrev pub allowed : Option Command → Result Command Fault
allowed (Some c) = Ok c
allowed None = Err ByteNotAllowed

-- the call that carries out a command
abbrev pub call_of : Command → Call
call_of (command.Limit k q) = call.Limit k q
call_of (command.Settle b) = call.Settle b
call_of command.Drain = call.Drain
call_of command.Tally = call.Tally
call_of command.Bottleneck = call.Bottleneck

-- commands, each with the place of its record, up to the end of the input or to a refusal that ends the program
pub data Asked : Type 0 where
  ask : Command → ℕ → Asked → Asked
  done : Asked
  turned : Refusal → Asked

-- a record at the place p that gives no command is a byte that is not allowed there
abbrev pub asked_by : Option Command → ℕ → Asked → Asked
asked_by (Some c) p rest = ask c p rest
asked_by None p rest = turned (refusal_at ByteNotAllowed p)

-- the commands that the records ahead give
abbrev pub asked : Drawn → Asked
asked (item p a rest) = asked_by (command_of a) p (asked rest)
asked (end p) = done
asked (refused e) = turned e

-- one command that was read, with its place, and then the others
abbrev pub asked_as : Result (Option (Command × ℕ)) Refusal → Asked → Asked
asked_as (Ok (Some c)) rest = ask c.0 c.1 rest
asked_as (Ok None) rest = done
asked_as (Err e) rest = turned e
