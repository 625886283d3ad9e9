use Rattle.std.proofs.Common.{ℕ, List, length, replicate, false, sym, ap, ◌∙◌, subst}
use Rattle.searches.proofs.Listed.{Once, once_none, counted_none}
use Rattle.searches.proofs.pending.Pending.none.Goals as goal

pub invariant_of-result : goal.invariant_of-result
invariant_of-result c = record {
  once = subst (Once (replicate 512 false)) (sym c.new.ensures) once_none;
  counted = ap (λ (xs : List ℕ). length xs) c.new.ensures ∙ counted_none;
}
