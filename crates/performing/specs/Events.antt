-- The event of a call: what a history says of it.
use Rattle.std.specs.Prelude.{ℕ, List, Ok, Err, Result}
use Rattle.refusal.specs.declared.Refusal.{Refusal}
use Rattle.flow.specs.Net.{Net}
use Rattle.flow.specs.Flows.{delivered}
use Rattle.flow.specs.Bottlenecks.{bottleneck_sum, bottleneck_count, marked_over}
use Rattle.flow.specs.Histories.{Event, settling, limit_change, draining, tally, bottleneck, reading, refusal}
use Rattle.calls.specs.Settling.{routes_settled, after_settling}
use Rattle.performing.specs.declared.answer.Answer.{Answer}
use Rattle.performing.specs.declared.call.Call.{Call}
use Rattle.performing.specs.declared.call.Call.TheVariants as call

-- of a call on the network g that is not refused, with the marks that were handed in
abbrev pub event_of : Call → List ℕ → Net → Event
event_of (call.Settle b) marks g = settling b (routes_settled b g) (after_settling b g).0
event_of (call.Limit k q) marks g = limit_change k q
event_of call.Drain marks g = draining
event_of call.Tally marks g = tally (delivered g)
event_of call.Bottleneck marks g = bottleneck (marked_over g marks) (bottleneck_sum g) (bottleneck_count g)
event_of call.Size marks g = reading
event_of (call.Reach k) marks g = reading
event_of (call.Touch v k) marks g = reading

-- and of any call, by what came back: of a refused one no more than that some call was refused
abbrev pub event_by : Result Answer Refusal → Call → List ℕ → Net → Event
event_by (Ok a) c marks g = event_of c marks g
event_by (Err e) c marks g = refusal
