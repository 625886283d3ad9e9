-- A change in the rows in use, seen in all rows of the table.
use Rattle.std.proofs.Common.{ℕ, ◌<◌, List, ◌++◌, length, take, drop, Ok, Err, Result, sym, subst, arith, get_or-take}
use Rattle.std.proofs.lemmas.List.{take-append-drop, set-append_left, get_or_append_left}
use Rattle.refusal.specs.declared.Refusal.{Refusal}
use Rattle.refusal.specs.declared.Part.{Part}
use Rattle.flow.specs.Net.{FairArc}
use Rattle.flow.specs.Changes.{with_reaches}
use Rattle.flow.proofs.Fairness.{fair_at}
use Rattle.network.specs.declared.row.Row.{Row}
use Rattle.network.specs.declared.change.Change.{Change}
use Rattle.network.specs.Rows.{no_row, arc_of_row, arcs_in, arcs_of}
use Rattle.network.specs.Changing.{ChangedIn, Written}
use Rattle.network.proofs.Rowing.{count_in, arc_in_row, arcs_length}
use Rattle.network.proofs.Setting.{accepted_low, changed_length, changed_net, change_laws}
use Rattle.table.specs.declared.draft.Draft.{Draft}
use Rattle.table.specs.Drafting.{draft_net}
use Rattle.table.specs.Laid.{FairRows}
use Rattle.table.specs.Tables.{draft_sound}

-- the rows in use stay fair when a reach of theirs is changed, whatever rows follow them
pub fair_changed : (d : Draft) (r : Result Unit Refusal) (after rest : List Row) (c : Change) (giver : ℕ → Part) (k : ℕ) →
    ChangedIn c (arcs_of d.rows.now d.size.reaches) giver k r (arcs_in after) → FairRows (after ++ rest) d.size.reaches d.size.junctions
fair_changed d r after rest c giver k done i less =
    let g = draft_net d in
    let many = changed_length c g.reaches giver k r (arcs_in after) done in
    let low : i < length after = omega (arith, many, d.within, count_in after, arcs_length d.rows.now d.size.reaches) in
    let sound = change_laws.sound c g giver k r (with_reaches g (arcs_in after)) (draft_sound d)
    (changed_net c g giver k r (arcs_in after) done) in
    subst (λ (row : Row). FairArc g.junctions (arc_of_row row)) (sym (get_or_append_left after rest no_row i low))
    (subst (FairArc g.junctions) (arc_in_row after i)
    (fair_at (with_reaches g (arcs_in after)) sound i (omega (arith, count_in after))))

-- what is written in the first `used` rows is written in the whole table
pub written_in_front : (c : Change) (rows : List Row) (used : ℕ) (giver : ℕ → Part) (k : ℕ) (r : Result Unit Refusal)
    (after : List Row) → ChangedIn c (arcs_of rows used) giver k r (arcs_in after) → Written c (take used rows) k r after →
    Written c rows k r (after ++ drop used rows)
written_in_front c rows used giver k (Err e) after done written = rw written (take-append-drop used rows)
written_in_front c rows used giver k (Ok _) after done written =
    let low = accepted_low c (arcs_of rows used) giver k done.0 in
    let less : k < used = omega (arith, low, arcs_length rows used) in
    let here : k < length (take used rows) = omega (arith, low, count_in (take used rows)) in
    rw (
      written,
      ← set-append_left (take used rows) (drop used rows) k _ here,
      take-append-drop used rows,
      get_or-take used rows k no_row less,
    )
