-- One row more among a layer's rows: what the reaches come to then.
use Rattle.std.proofs.Common.{◌≡◌, ℕ, ◌+◌, ◌-◌, ◌<◌, ◌≤◌, List, ◌∷◌, ◌++◌, length, get_or, take, drop, set, map, sym, ap, ◌∙◌, ⊎_elim, arith}
use Rattle.std.specs.List.{insert, CopiedTo, SameBelow}
use Rattle.std.proofs.lemmas.Bool.{cases_lt}
use Rattle.std.proofs.lemmas.Grind.{common_steps}
use Rattle.std.proofs.lemmas.List.{map-append, take-map, drop-map, same_lists, get_or-take, get_or-set_same, get_or-set_other}
use Rattle.std.proofs.lemmas.List.Edits.{length-insert, get_or-insert_at, get_or-insert_below, get_or-insert_above}
use Rattle.flow.specs.Net.{Arc}
use Rattle.network.specs.declared.row.Row.{Row}
use Rattle.network.specs.Rows.{arc_of_row, arcs_in}

-- what a list comes to with a row put in is what its reaches come to
pub arcs_inserted : (rows : List Row) (at : ℕ) (row : Row) → arcs_in (insert rows at row) ≡ insert (arcs_in rows) at (arc_of_row row)
arcs_inserted rows at row =
    map-append arc_of_row (take at rows) (row ∷ drop at rows)
    ∙ ap (λ (xs : List Arc). xs ++ (arc_of_row row ∷ map arc_of_row (drop at rows))) (sym (take-map arc_of_row at rows))
    ∙ ap (λ (xs : List Arc). take at (arcs_in rows) ++ (arc_of_row row ∷ xs)) (sym (drop-map arc_of_row at rows))

-- the first rows with one row put in are the first of the rows after, where those from the place on have moved up by one and the
-- row is written at the place
pub row_inserted : (rows after : List Row) (at used : ℕ) (row : Row) → at ≤ used → used < length rows → length after ≡ length rows →
    SameBelow rows after (at + 1) → CopiedTo rows after at (at + 1) (used - at) →
    take (used + 1) (set after at row) ≡ insert (take used rows) at row
row_inserted rows after at used row low room long front moved = same_lists _ _ (grind (arith, common_steps, length-insert)) each
  where
    part : at ≤ length (take used rows)
    part = grind (arith, common_steps)

    below : (k : ℕ) (d : Row) → k < at → get_or (set after at row) k d ≡ get_or (insert (take used rows) at row) k d
    below k d p =
        get_or-set_other after at k row d (grind arith) ∙ front k d (omega arith)
        ∙ sym (get_or-insert_below (take used rows) at row d k p part ∙ get_or-take used rows k d (omega arith))

    above : (k : ℕ) (d : Row) → at ≤ k → k ≤ used → get_or (set after at row) k d ≡ get_or (insert (take used rows) at row) k d
    above k d p q = ⊎_elim
        (λ over.
        let one : at + (k - (at + 1)) ≡ k - 1 = omega arith in
        let back : k - 1 + 1 ≡ k = omega arith in
        get_or-set_other after at k row d (grind arith) ∙ moved k d (omega arith) (omega arith)
        ∙ ap (λ i. get_or rows i d) one
        ∙ sym (
        ap (λ i. get_or (insert (take used rows) at row) i d) (sym back)
        ∙ get_or-insert_above (take used rows) at row d (k - 1) (omega arith) part
        ∙ get_or-take used rows (k - 1) d (omega arith)
        ))
        (λ not_over.
        let here : k ≡ at = omega arith in
        ap (λ i. get_or (set after at row) i d) here ∙ get_or-set_same after at row d (omega arith)
        ∙ sym (ap (λ i. get_or (insert (take used rows) at row) i d) here ∙ get_or-insert_at (take used rows) at row d part))
        (cases_lt at k)

    each : (k : ℕ) (d : Row) → k < length (take (used + 1) (set after at row)) →
        get_or (take (used + 1) (set after at row)) k d ≡ get_or (insert (take used rows) at row) k d
    each k d less =
        get_or-take (used + 1) (set after at row) k d (grind (arith, common_steps))
        ∙ ⊎_elim (below k d) (λ p. above k d p (grind (arith, common_steps))) (cases_lt k at)
