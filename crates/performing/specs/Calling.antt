-- What any one call answers and leaves.
use Rattle.std.specs.Prelude.{◌≡◌, ℕ, List, [], Ok, Err, Result, ⊤}
use Rattle.refusal.specs.declared.Refusal.{Refusal}
use Rattle.refusal.specs.declared.Part.{Part}
use Rattle.refusal.specs.Checks.{Check, Judged, afterwards}
use Rattle.flow.specs.Net.{Net, arc_at}
use Rattle.flow.specs.Flows.{delivered}
use Rattle.flow.specs.Bottlenecks.{marked_over}
use Rattle.flow.specs.Histories.{Event, settling, limit_change, draining, tally, bottleneck, reading, refusal, after_call}
use Rattle.network.specs.Answers.{size_of, arc_in, reach_checks}
use Rattle.network.specs.Touching.{Touched}
use Rattle.network.specs.Changing.{change_checks}
use Rattle.network.specs.declared.change.Change.TheVariants as change
use Rattle.calls.specs.Settling.{outcome_of, after_settling}
use Rattle.marking.specs.Marks.{bottleneck_checks, the_bottleneck}
use Rattle.performing.specs.declared.answer.Answer.{Answer}
use Rattle.performing.specs.declared.answer.Answer.TheVariants as answer
use Rattle.performing.specs.declared.call.Call.{Call}
use Rattle.performing.specs.declared.call.Call.TheVariants as call
use Rattle.performing.specs.Events.{event_by}

-- the checks by which a call is refused, in the order of the table; a call that has none is never refused
abbrev pub checks_of : Call → List ℕ → (ℕ → Part) → Net → List Check
checks_of (call.Limit k q) marks giver g = change_checks (change.Limit q) g.reaches giver k
checks_of call.Bottleneck marks giver g = bottleneck_checks g marks
checks_of (call.Reach k) marks giver g = reach_checks g.reaches k
checks_of c marks giver g = []

-- what a call answers that is not refused
abbrev pub AnswersBy : Call → Net → Answer → Type 0
AnswersBy (call.Settle b) g (answer.Settled s) = outcome_of s ≡ (after_settling b g).0
AnswersBy (call.Limit k q) g (answer.Limited j p) = (j ≡ k) × (p ≡ q)
AnswersBy call.Drain g answer.Drained = ⊤
AnswersBy call.Tally g (answer.Tally d) = d ≡ delivered g
AnswersBy call.Bottleneck g (answer.Bottleneck b) = b ≡ the_bottleneck g
AnswersBy call.Size g (answer.Size s) = s ≡ size_of g
AnswersBy (call.Reach k) g (answer.Reach r) = arc_in r ≡ arc_at g.reaches k
AnswersBy (call.Touch v k) g (answer.Touched i) = Touched v g.reaches k i
AnswersBy c g a = ⊥

-- what came back is the call's answer, or a refusal
abbrev pub Answers : Call → Net → Result Answer Refusal → Type 0
Answers c g (Ok a) = AnswersBy c g a
Answers c g (Err e) = ⊤

-- the marks that it leaves; a bottleneck alone writes any
abbrev pub marks_after : Call → List ℕ → Net → List ℕ
marks_after call.Bottleneck marks g = marked_over g marks
marks_after c marks g = marks

-- an event tells a call: what was handed in, what was answered and which marks were left; of a reading, and of a refused call,
-- no more than that it was one
abbrev pub Tells : Call → Result Answer Refusal → List ℕ → Event → Type 0
Tells c (Err e) written refusal = ⊤
Tells (call.Settle b) (Ok (answer.Settled s)) written (settling budget routes told) = (budget ≡ b) × (told ≡ outcome_of s)
Tells (call.Limit k q) (Ok a) written (limit_change j p) = (j ≡ k) × (p ≡ q)
Tells call.Drain (Ok a) written draining = ⊤
Tells call.Tally (Ok (answer.Tally d)) written (tally told) = told ≡ d
Tells call.Bottleneck (Ok (answer.Bottleneck b)) written (bottleneck marks sum crossing) =
    (marks ≡ written) × (sum ≡ b.sum) × (crossing ≡ b.crossing)
Tells call.Size (Ok a) written reading = ⊤
Tells (call.Reach k) (Ok a) written reading = ⊤
Tells (call.Touch v k) (Ok a) written reading = ⊤
Tells c r written e = ⊥

-- A call on the network g, where these parts answer for its reaches, with the marks that were handed in. The first of its
-- checks that applies refuses it, and then it leaves network and marks as they were.
pub record Performed (g : Net) (giver : ℕ → Part) (c : Call) (given : List ℕ) (r : Result Answer Refusal)
    (written : List ℕ) (after : Net) : Type 0 where
  pub judged : Judged (checks_of c given giver g) r
  pub answers : Answers c g r
  pub marks : written ≡ afterwards r (marks_after c given g) given
  pub leaves : after ≡ after_call (event_by r c given g) g
  -- its event tells it
  pub told : Tells c r written (event_by r c given g)

-- the search that comes back is the one that was handed in, but for a settling, which moves it
abbrev pub SearchStays : {S : Type 0} → Call → S → S → Type 0
SearchStays (call.Settle b) before after = ⊤
SearchStays c before after = after ≡ before
