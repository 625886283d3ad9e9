-- What settling does and answers.
use Rattle.std.specs.Prelude.{◌≡◌, ℕ, List}
use Rattle.flow.proofs.Deciding.{settling_of}
use Rattle.flow.specs.Net.{Net, Shaped}
use Rattle.flow.specs.Pushes.{pushed_all}
use Rattle.flow.specs.Histories.{Outcome, IsSettling}
use Rattle.calls.specs.declared.settling.Settled.{Settled}

-- the numbers of an answer
abbrev pub outcome_of : Settled → Outcome
outcome_of s = record { routes = s.routes; litres = s.litres; finished = s.finished }

-- the routes of the plain machine are pushed, in its order, and the answer is told of them
pub record SettledAs (g : Net) (budget : ℕ) (s : Settled) (after : Net) : Type 0 where
  pub routes : List (List ℕ)
  pub settling : IsSettling g budget routes (outcome_of s)
  pub leaves : after ≡ pushed_all routes g

-- Settling has one outcome only. `settling_of` gives it, the routes and the answer; crate flow finds it for every network,
-- and this law says what it is.
abbrev pub OneSettling : Type 0
OneSettling = (budget : ℕ) (g : Net) → Shaped g → IsSettling g budget (settling_of budget g).0 (settling_of budget g).1

-- the routes of the one settling; its answer, and the network that it leaves
abbrev pub routes_settled : ℕ → Net → List (List ℕ)
routes_settled budget g = (settling_of budget g).0

abbrev pub after_settling : ℕ → Net → Outcome × Net
after_settling budget g = ((settling_of budget g).1, pushed_all (routes_settled budget g) g)
