-- The first reach with a property, found among rows.
use Rattle.std.proofs.Common.{◌≡◌, ℕ, ◌+◌, ◌-◌, ◌<◌, List, length, get_or, drop, Some, None, Option, option_map, MatchOption, sym, ap, ◌∙◌, subst, arith}
use Rattle.std.specs.List.{AllWithin, HoldsAt}
use Rattle.std.proofs.lemmas.List.{get_or-drop, length-drop}
use Rattle.flow.specs.Net.{Arc, arc_at}
use Rattle.network.specs.declared.row.Row.{Row}
use Rattle.network.specs.Rows.{no_row, arc_of_row, arcs_in}
use Rattle.network.specs.Touching.{NoneFrom, FirstFrom}
use Rattle.network.proofs.Rowing.{count_in, arc_in_row}

-- the first of the rows from k on that has a property holds the first reach that has it
pub first_in : (P : Arc → Type 0) (rows : List Row) (k : ℕ) (r : Option ℕ) →
    MatchOption r (AllWithin (λ row. P (arc_of_row row) → ⊥) (drop k rows) 0 (length (drop k rows)))
    (λ i. (i < length (drop k rows)) × HoldsAt (λ row. P (arc_of_row row)) (drop k rows) i
    × AllWithin (λ row. P (arc_of_row row) → ⊥) (drop k rows) 0 i) →
    FirstFrom P (arcs_in rows) k (option_map (λ i. k + i) r)
first_in P rows k r h = go r h
  where
    -- row i behind k
    here : (i : ℕ) → P (arc_at (arcs_in rows) (k + i)) → P (arc_of_row (get_or (drop k rows) i no_row))
    here i has = subst P (arc_in_row rows (k + i) ∙ ap arc_of_row (sym (get_or-drop k rows i no_row))) has

    none : (end : ℕ) → AllWithin (λ row. P (arc_of_row row) → ⊥) (drop k rows) 0 end → NoneFrom P (arcs_in rows) k (k + end)
    none end w e from low has =
        let is : k + (e - k) ≡ e = omega arith in
        w (e - k) no_row (omega arith) (omega arith) (here (e - k) (subst (λ (j : ℕ). P (arc_at (arcs_in rows) j)) (sym is) has))

    go : (r : Option ℕ) → MatchOption r (AllWithin (λ row. P (arc_of_row row) → ⊥) (drop k rows) 0 (length (drop k rows)))
        (λ i. (i < length (drop k rows)) × HoldsAt (λ row. P (arc_of_row row)) (drop k rows) i
        × AllWithin (λ row. P (arc_of_row row) → ⊥) (drop k rows) 0 i) →
        FirstFrom P (arcs_in rows) k (option_map (λ i. k + i) r)
    go None w = λ e from low has.
        none (length (drop k rows)) w e from (omega (arith, length-drop k rows, count_in rows)) has
    go (Some i) w = (
      omega arith,
      omega (arith, w.0, length-drop k rows, count_in rows),
      subst P (sym (arc_in_row rows (k + i) ∙ ap arc_of_row (sym (get_or-drop k rows i no_row)))) (w.1 no_row),
      none i w.2,
    )
