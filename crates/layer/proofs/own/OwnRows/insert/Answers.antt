use Rattle.std.proofs.Common.{◌≡◌, ◌<◌, ℕ, length, take, rules, arith, ap, ◌∙◌}
use Rattle.std.specs.List.{insert}
use Rattle.network.specs.Rows.{arc_of_row, arcs_in}
use Rattle.network.proofs.Rowing.{arcs_length}
use Rattle.layer.specs.Keeping.{filled}
use Rattle.layer.proofs.Inserting.{arcs_inserted, row_inserted}
use Rattle.layer.proofs.own.OwnRows.insert.Goals as goal

pub returns-clause-own : goal.returns-clause-own
unfolding filled
returns-clause-own c =
    let rows = c.args.self.now.rows in
    let used = c.count-used.result in
    let by_index = c.copy_within.ensures.by_index in
    let room : used < length rows = search rules in
    let same : used ≡ c.args.self.now.used = omega (arith, room, c.count-used.ensures.value, arcs_length rows c.args.self.now.used) in
    ap arcs_in (row_inserted rows _ c.args.at used c.args.row (search rules) room (search rules) by_index.1 by_index.0)
    ∙ arcs_inserted _ c.args.at c.args.row
    ∙ ap (λ (n : ℕ). insert (arcs_in (take n rows)) c.args.at (arc_of_row c.args.row)) same
