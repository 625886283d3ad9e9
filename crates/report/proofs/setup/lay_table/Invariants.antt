use Rattle.std.proofs.Common.{◌≡◌, length}
use Rattle.table.specs.Laid.{places_in}
use Rattle.table.specs.Drafting.{draft_net}
use Rattle.naming.specs.Keeping.{names_in}
use Rattle.drawing.specs.Ahead.{ahead, records_left}
use Rattle.report.specs.Reported.{draft_lines}
use Rattle.report.proofs.setup.lay_table.Given as goal

-- what is ahead, from the draft as it is, still gives all the lines
abbrev pub invariant-reading : goal.invariant-reading
invariant-reading l =
    let places = places_in l.initial.draft.rows.now in
    (draft_lines places (ahead l.reader) (draft_net l.draft) (names_in l.names)
    ≡ draft_lines places (ahead l.initial.reader) (draft_net l.initial.draft) (names_in l.initial.names))
    × (length l.draft.rows.now ≡ length l.initial.draft.rows.now)
    × (l.draft.rows.ghost_name ≡ l.initial.draft.rows.ghost_name)

abbrev pub decreases-reading : goal.decreases-reading
decreases-reading l = records_left (ahead l.reader)
