-- The worked drawing and its report, worked out.
use Rattle.std.proofs.Common.{◌≡◌, ℕ, ◌<◌, true, false, List, [], ◌∷◌, ◌++◌, codes, Some, pos, refl, sym, ap, ◌∙◌, subst, arith}
use Rattle.std.proofs.Math.Utf8.{encode}
use Rattle.std.specs.Fmt.{digits}
use Rattle.refusal.specs.declared.Part.{Part}
use Rattle.refusal.specs.declared.Part.TheVariants as parts
use Rattle.refusal.specs.Checks.{first_of}
use Rattle.flow.specs.Net.{Arc, Net, Shaped}
use Rattle.flow.specs.Flows.{delivered}
use Rattle.flow.specs.Pushes.{pushed_all}
use Rattle.flow.specs.Cuts.{Side, cut_sum, IsBottleneck}
use Rattle.flow.specs.Histories.{Outcome, marked}
use Rattle.flow.specs.Bottlenecks.{near_of, has_route, bottleneck_sum}
use Rattle.flow.specs.Cases.{five, five_settled}
use Rattle.flow.proofs.Likeness.{Shaped-alike}
use Rattle.flow.proofs.Machining.{Alike-pushed_all}
use Rattle.flow.proofs.Answering.{one_settling}
use Rattle.flow.proofs.Checking.{worked_history}
use Rattle.flow.proofs.Deciding.{settling_of, settling_of-is}
use Rattle.flow.proofs.Marking.{one_near}
use Rattle.calls.specs.Settling.{after_settling}
use Rattle.network.specs.declared.change.Change.TheVariants as change
use Rattle.network.specs.Changing.{change_checks}
use Rattle.table.specs.Drafting.{fresh}
use Rattle.layer.specs.Layering.{layer_giver}
use Rattle.naming.specs.Names.{Naming, unnamed, with_name}
use Rattle.drawing.specs.Records.{shape, name, reach, table_end, limit, settle, bottleneck, tally}
use Rattle.drawing.specs.Ahead.{Drawn, item, end, drawn_from, drawn}
use Rattle.desk.specs.declared.command.Command.TheVariants as command
use Rattle.desk.specs.Lines.{Lines, network_line, settled_line, across_lines}
use Rattle.desk.specs.Commands.{Asked, ask, done}
use Rattle.desk.specs.Answering.{command_lines}
use Rattle.report.specs.Reported.{draft_lines}
use Rattle.report.specs.Worked.{worked_drawing, worked_report, WorkedReport}

-- ---- reading

-- what the drawing says, record by record, each with its place
abbrev records : Drawn
records =
    item 0 (shape 4 0 3)
    (item 7 (name 0 (codes "HEADGATE") 10)
    (item 18 (reach 0 1 3)
    (item 27 (reach 0 2 2)
    (item 36 (reach 1 2 1)
    (item 45 (reach 1 3 2)
    (item 54 (reach 2 3 3)
    (item 63 table_end
    (item 64 (settle 10)
    (item 69 (limit 0 1)
    (item 76 bottleneck
    (item 77 tally
    (end 78))))))))))))

drawing_says : drawn worked_drawing ≡ records
unfolding drawn_from drawn
drawing_says = refl

-- ---- settling

-- what settling answers, and the reaches that it leaves
abbrev answer : Outcome
answer = record { routes = 3; litres = 5; finished = true }

abbrev reaches_left : List Arc
reaches_left = (pushed_all five_settled.routes five).reaches

-- the settling of the definition is the worked one
abbrev found : List (List ℕ)
found = (settling_of 10 five).0

shaped_five : Shaped five
shaped_five = worked_history.commissioned.shaped

settled_five : (found ≡ five_settled.routes) × ((settling_of 10 five).1 ≡ answer)
settled_five =
    one_settling five 10 found five_settled.routes (settling_of 10 five).1 answer (settling_of-is 10 five shaped_five)
    worked_history.history.0

-- the network that it leaves
abbrev left : Net
left = (after_settling 10 five).1

left_is : left ≡ pushed_all five_settled.routes five
left_is = ap (λ (rs : List (List ℕ)). pushed_all rs five) settled_five.0

shaped_left : Shaped left
shaped_left = Shaped-alike five left (Alike-pushed_all found five) shaped_five

near_left : (v : ℕ) → v < 4 → near_of left v ≡ marked five_settled.marks v
near_left v low = sym (one_near left (marked five_settled.marks) shaped_left is v in_left)
  where
    is : IsBottleneck left (marked five_settled.marks)
    is = subst (λ (g : Net). IsBottleneck g (marked five_settled.marks)) (sym left_is) worked_history.history.1.1.0.near

    in_left : v < left.junctions
    in_left = omega (arith, low, ap (λ (g : Net). g.junctions) left_is)

no_route_left : has_route left ≡ false
no_route_left = ap (λ (g : Net). near_of left g.outfall) left_is ∙ near_left 3 (omega arith)

delivered_left : delivered left ≡ pos 5
delivered_left = ap delivered left_is

-- ---- lines

-- with the name that is given, and the part that answers for each reach
abbrev named : Naming
named = with_name 0 (codes "HEADGATE") unnamed

abbrev giver : ℕ → Part
giver = layer_giver parts.Gathering five (layer_giver parts.Chambers five (λ _. parts.Network))

-- the commands behind the settling, and the lines of those
abbrev later : Asked
later = ask (command.Limit 0 1) 69 (ask command.Bottleneck 76 (ask command.Tally 77 done))

abbrev two_across : Lines
two_across = codes "across 0 HEADGATE 1 3" ∷ codes "across 1 HEADGATE 2 2" ∷ []

abbrev later_lines : Lines
later_lines = codes "refused 6 at 69 in network" ∷ codes "bottleneck 5" ∷ (two_across ++ codes "tally 5" ∷ [])

-- a side that has the intake only
module _ (near : Side) (zeroth : near 0 ≡ true) (first : near 1 ≡ false) (second : near 2 ≡ false) where
  sum_of_intake : cut_sum near reaches_left ≡ 5
  sum_of_intake = rw (zeroth, first, second) refl

  across_intake : across_lines named near 0 reaches_left ≡ two_across
  unfolding digits encode
  across_intake = rw (zeroth, first, second) refl

sum_left : bottleneck_sum left ≡ 5
sum_left =
    ap (λ (g : Net). cut_sum (near_of left) g.reaches) left_is
    ∙ sum_of_intake (near_of left) (near_left 0 (omega arith)) (near_left 1 (omega arith)) (near_left 2 (omega arith))

across_left : across_lines named (near_of left) 0 left.reaches ≡ two_across
across_left =
    ap (λ (g : Net). across_lines named (near_of left) 0 g.reaches) left_is
    ∙ across_intake (near_of left) (near_left 0 (omega arith)) (near_left 1 (omega arith)) (near_left 2 (omega arith))

-- the limit is below what reach 0 carries
limit_refused : first_of (change_checks (change.Limit 1) left.reaches giver 0) ≡ Some (6, parts.Network)
limit_refused = ap (λ (g : Net). first_of (change_checks (change.Limit 1) g.reaches giver 0)) left_is

later_lines_are : command_lines named later giver left ≡ later_lines
unfolding digits
later_lines_are = rw (limit_refused, no_route_left, sum_left, across_left, delivered_left) refl

-- the lines up to that of the settling, and all lines
abbrev lines_with : Outcome → Lines → Lines
lines_with o ls = network_line 4 5 ∷ settled_line o.routes o.litres o.finished ∷ ls

report_begins : draft_lines 1024 records fresh unnamed ≡ lines_with (settling_of 10 five).1 (command_lines named later giver left)
report_begins = refl

report_ends : lines_with answer later_lines ≡ worked_report
unfolding digits
report_ends = refl

pub worked_report_is : WorkedReport
worked_report_is =
    ap (λ (d : Drawn). draft_lines 1024 d fresh unnamed) drawing_says
    ∙ report_begins
    ∙ ap (λ (o : Outcome). lines_with o (command_lines named later giver left)) settled_five.1
    ∙ ap (lines_with answer) later_lines_are
    ∙ report_ends
