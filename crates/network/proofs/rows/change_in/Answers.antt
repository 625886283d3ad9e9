use Rattle.std.proofs.Common.{◌<◌, length, get_or, set, sym, ap, ◌∙◌, arith}
use Rattle.flow.specs.Net.{Arc}
use Rattle.refusal.specs.Checks.{first_of}
use Rattle.network.specs.Rows.{no_row, arc_of_row, arcs_in}
use Rattle.network.specs.Changing.{changed, own_checks}
use Rattle.network.proofs.Rowing.{count_in, arc_in_row, set_in, arc_changed}
use Rattle.network.proofs.Setting.{change_there}
use Rattle.network.proofs.rows.change_in.Goals as goal

pub returns-clause-done : goal.returns-clause-done
returns-clause-done c =
    let rows = c.args.rows.now in
    let k = c.args.k in
    let low : k < length (arcs_in rows) = omega (arith, count_in rows) in
    let own = c.in_ok-rows.ensures in
    let judged = change_there c.args.change (arcs_in rows) (λ _. c.args.part) k low
    ∙ ap (λ (r : Arc). first_of (own_checks c.args.change r c.args.part)) (arc_in_row rows k) in
    let new = ap arc_of_row own.1 ∙ arc_changed c.args.change (get_or rows k no_row)
    ∙ ap (changed c.args.change) (sym (arc_in_row rows k)) in
    (judged ∙ own.0, set_in rows k _ ∙ ap (set (arcs_in rows) k) new)
