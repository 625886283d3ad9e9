-- Records come in their order, so none of the table, none of a chamber and none of a feeder comes late.
use Rattle.std.proofs.Common.{◌≡◌, ℕ, ◌≤◌, List, ◌∷◌, Some, refl, sym, ap, arith}
use Rattle.flow.specs.Net.{Arc, Net}
use Rattle.gathering.specs.Entering.{Feeders}
use Rattle.drawing.specs.declared.kind.Stage.{Stage}
use Rattle.drawing.specs.declared.kind.Stage.TheVariants as s
use Rattle.drawing.specs.Kinds.{Group, opening, tabled, closing, chambers, gathered, commands, group_of, place_of}
use Rattle.drawing.specs.Records.{Said, shape, reach, chamber, source, sink, limit, settle, drain, bottleneck, tally}
use Rattle.drawing.specs.Spelling.{written}
use Rattle.drawing.specs.Ahead.{Drawn, item, end, refused}
use Rattle.drawing.specs.Order.{InOrder}
use Rattle.desk.specs.declared.command.Command.{Command}
use Rattle.desk.specs.declared.command.Command.TheVariants as command
use Rattle.desk.specs.Commands.{asked}
use Rattle.report.specs.Asking.{commands_of}
use Rattle.report.specs.Described.{table_of, chambers_of, feeders_of}
use Rattle.report.proofs.Calling.{commands_in}

-- the stages in their order, and the stage that a record of a group leads to
abbrev pub rank : Stage → ℕ
rank s.Start = 0
rank s.Table = 1
rank s.Chambers = 2
rank s.Gathering = 3
rank s.Commands = 4

abbrev pub rank_of : Group → ℕ
rank_of opening = 1
rank_of tabled = 1
rank_of closing = 2
rank_of chambers = 2
rank_of gathered = 3
rank_of commands = 4

pub record Led (stage next : Stage) (group : Group) : Type 0 where
  pub onward : rank stage ≤ rank_of group
  pub at : rank next ≡ rank_of group

led : (stage next : Stage) (group : Group) → place_of group stage ≡ Some next → Led stage next group
led s.Start next opening e = let is : s.Table ≡ next = cc in record { onward = omega arith; at = sym (ap rank is) }
led s.Table next tabled e = let is : s.Table ≡ next = cc in record { onward = omega arith; at = sym (ap rank is) }
led s.Table next closing e = let is : s.Chambers ≡ next = cc in record { onward = omega arith; at = sym (ap rank is) }
led s.Chambers next chambers e = let is : s.Chambers ≡ next = cc in record { onward = omega arith; at = sym (ap rank is) }
led s.Chambers next gathered e = let is : s.Gathering ≡ next = cc in record { onward = omega arith; at = sym (ap rank is) }
led s.Gathering next gathered e = let is : s.Gathering ≡ next = cc in record { onward = omega arith; at = sym (ap rank is) }
led s.Chambers next commands e = let is : s.Commands ≡ next = cc in record { onward = omega arith; at = sym (ap rank is) }
led s.Gathering next commands e = let is : s.Commands ≡ next = cc in record { onward = omega arith; at = sym (ap rank is) }
led s.Commands next commands e = let is : s.Commands ≡ next = cc in record { onward = omega arith; at = sym (ap rank is) }
led stage next group e = absurd cc

-- where a record leads
pub led_by : (stage : Stage) (p : ℕ) (a : Said) (rest : Drawn) (h : InOrder stage (item p a rest)) →
    Led stage h.0 (group_of (written a).0)
led_by stage p a rest h = led stage h.0 (group_of (written a).0) h.1

-- behind the table, behind the chambers, behind the sources and sinks nothing more is added to them
pub table_over : (d : Drawn) (stage : Stage) (g : Net) → 2 ≤ rank stage → InOrder stage d → table_of d g ≡ g
table_over (item p (shape n i o) rest) stage g past h =
    absurd (let z : ⊥ = omega (arith, (led_by stage p (shape n i o) rest h).onward) in z)
table_over (item p (reach t e q) rest) stage g past h =
    absurd (let z : ⊥ = omega (arith, (led_by stage p (reach t e q) rest h).onward) in z)
table_over (item p a rest) stage g past h =
    let l = led_by stage p a rest h in
    table_over rest h.0 g (omega (arith, l.onward, l.at)) h.2
table_over (end p) stage g past h = refl
table_over (refused e) stage g past h = refl

pub chambers_over : (d : Drawn) (stage : Stage) (g : Net) (own : List Arc) → 3 ≤ rank stage → InOrder stage d →
    chambers_of d g own ≡ own
chambers_over (item p (chamber j q) rest) stage g own past h =
    absurd (let z : ⊥ = omega (arith, (led_by stage p (chamber j q) rest h).onward) in z)
chambers_over (item p a rest) stage g own past h =
    let l = led_by stage p a rest h in
    chambers_over rest h.0 g own (omega (arith, l.onward, l.at)) h.2
chambers_over (end p) stage g own past h = refl
chambers_over (refused e) stage g own past h = refl

pub feeders_over : (d : Drawn) (stage : Stage) (g : Net) (fs : Feeders) → 4 ≤ rank stage → InOrder stage d →
    feeders_of d g fs ≡ fs
feeders_over (item p (source j q) rest) stage g fs past h =
    absurd (let z : ⊥ = omega (arith, (led_by stage p (source j q) rest h).onward) in z)
feeders_over (item p (sink j q) rest) stage g fs past h =
    absurd (let z : ⊥ = omega (arith, (led_by stage p (sink j q) rest h).onward) in z)
feeders_over (item p a rest) stage g fs past h =
    let l = led_by stage p a rest h in
    feeders_over rest h.0 g fs (omega (arith, l.onward, l.at)) h.2
feeders_over (end p) stage g fs past h = refl
feeders_over (refused e) stage g fs past h = refl

-- and commands are all that comes
pub commands_over : (d : Drawn) (stage : Stage) → 4 ≤ rank stage → InOrder stage d → commands_in (asked d) ≡ commands_of d
commands_over (item p (limit k q) rest) stage past h =
    let at = (led_by stage p (limit k q) rest h).at in
    ap (λ (cs : List Command). command.Limit k q ∷ cs) (commands_over rest h.0 (omega (arith, at)) h.2)
commands_over (item p (settle b) rest) stage past h =
    let at = (led_by stage p (settle b) rest h).at in
    ap (λ (cs : List Command). command.Settle b ∷ cs) (commands_over rest h.0 (omega (arith, at)) h.2)
commands_over (item p drain rest) stage past h =
    let at = (led_by stage p drain rest h).at in
    ap (λ (cs : List Command). command.Drain ∷ cs) (commands_over rest h.0 (omega (arith, at)) h.2)
commands_over (item p bottleneck rest) stage past h =
    let at = (led_by stage p bottleneck rest h).at in
    ap (λ (cs : List Command). command.Bottleneck ∷ cs) (commands_over rest h.0 (omega (arith, at)) h.2)
commands_over (item p tally rest) stage past h =
    let at = (led_by stage p tally rest h).at in
    ap (λ (cs : List Command). command.Tally ∷ cs) (commands_over rest h.0 (omega (arith, at)) h.2)
commands_over (item p a rest) stage past h =
    absurd (let onward = (led_by stage p a rest h).onward in let z : ⊥ = omega (arith, onward) in z)
commands_over (end p) stage past h = refl
commands_over (refused e) stage past h = refl
