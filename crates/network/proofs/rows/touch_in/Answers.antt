use Rattle.std.proofs.Common.{subst, rules, tests}
use Rattle.std.proofs.lemmas.Iterator.{IsFirst-from_position, YieldsList-from_slice}
use Rattle.std.proofs.lemmas.Iterator.Adapters.{YieldsList-from_skip}
use Rattle.network.specs.Touching.{Touches, FirstFrom}
use Rattle.network.specs.Rows.{arc_of_row, arcs_in}
use Rattle.network.proofs.Finding.{first_in}
use Rattle.network.proofs.rows.touch_in.Goals as goal

pub returns : goal.returns
returns c =
    let P = Touches c.args.junction in
    let rows = c.args.rows.now in
    let k = c.args.k in
    let first = first_in P rows k c.position.result
    (IsFirst-from_position _ _ _ (λ row. P (arc_of_row row)) (λ row. P (arc_of_row row) → ⊥) c.position.ensures.ran
    (YieldsList-from_skip k (YieldsList-from_slice rows (search rules)) c.skip.ensures.count)
    (λ x q e. search (rules, tests)) (λ x q e. search (rules, tests))) in
    subst (FirstFrom P (arcs_in rows) k) (search rules) first
