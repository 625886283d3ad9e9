-- Every report is an account: it tells, call by call, what happened on the network that the drawing describes.
use Rattle.std.specs.Prelude.{◌≡◌, ℕ, true, ◌⊎◌, List, [], ◌∷◌, ◌++◌, length}
use Rattle.std.specs.List.{All, AllZip}
use Rattle.flow.specs.Net.{Net}
use Rattle.flow.specs.Histories.{Event, settling, limit_change, draining, tally, bottleneck, reading, refusal, after_calls, IsHistory, CommissionedDry}
use Rattle.flow.specs.Promises.{Promise}
use Rattle.drawing.specs.Ahead.{Drawn}
use Rattle.desk.specs.declared.command.Command.{Command}
use Rattle.desk.specs.Lines.{Lines, network_line, limit_line, settled_line, drained_line, tally_line, bottleneck_line}
use Rattle.desk.specs.Laws.{is_across}
use Rattle.report.specs.Laws.{is_refusal}
use Rattle.report.specs.Described.{described}
use Rattle.report.specs.Asking.{commands_of, Asks}

-- one line that says what is refused
abbrev pub OneRefusal : Lines → Type 0
OneRefusal ls = (l : List ℕ) × (ls ≡ l ∷ []) × (is_refusal l ≡ true)

-- the sum of the bottleneck, and one line for each reach that crosses it
abbrev pub TellsBottleneck : ℕ → ℕ → Lines → Type 0
TellsBottleneck sum crossing ls =
    (across : Lines) × (ls ≡ bottleneck_line sum ∷ across) × (length across ≡ crossing) × All (λ l. is_across l ≡ true) across

-- the lines that tell one call, with what it was given and what it answered; no line tells a reading
abbrev pub TellsCall : Event → Lines → Type 0
TellsCall (settling budget routes answer) ls = ls ≡ settled_line answer.routes answer.litres answer.finished ∷ []
TellsCall (limit_change k q) ls = ls ≡ limit_line k q ∷ []
TellsCall draining ls = ls ≡ drained_line ∷ []
TellsCall (tally answer) ls = ls ≡ tally_line answer ∷ []
TellsCall (bottleneck marks sum crossing) ls = TellsBottleneck sum crossing ls
TellsCall refusal ls = OneRefusal ls
TellsCall reading ls = ⊥

-- calls are told one behind the other, and at the very end there may be one more line, the refusal that ends the program
abbrev pub TellsCalls : List Event → Lines → Type 0
TellsCalls [] ls = (ls ≡ []) ⊎ OneRefusal ls
TellsCalls (e ∷ es) ls = (now later : Lines) × (ls ≡ now ++ later) × TellsCall e now × TellsCalls es later

-- what the lines behind the first tell of a network on which these commands were carried out
pub record Account (start : Net) (commands : List Command) (answers : Lines) : Type 0 where
  -- it was commissioned, and at first it carried nothing
  pub commissioned : CommissionedDry start
  -- a call for each command happened on it, one after another, and these lines tell them
  pub events : List Event
  pub asked : AllZip Asks commands events
  pub history : IsHistory events start
  pub told : TellsCalls events answers
  -- and after each of them it kept the promise
  pub promise : (before later : List Event) → events ≡ before ++ later → Promise start before (after_calls before start)

-- the lines are one refusal and nothing else; or the first tells the size of the network, and the others are an account
abbrev pub AccountsFor : Net → List Command → Lines → Type 0
AccountsFor start commands ls =
    OneRefusal ls
    ⊎ ((answers : Lines) × (ls ≡ network_line start.junctions (length start.reaches) ∷ answers) × Account start commands answers)

-- so are those of a drawing, of the network that it describes and of its commands
abbrev pub Accounted : Drawn → Lines → Type 0
Accounted d ls = AccountsFor (described d) (commands_of d) ls
