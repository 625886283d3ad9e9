-- What raising one label does to the labels as numbers.
use Rattle.std.proofs.Common.{◌≡◌, ℕ, ◌+◌, ◌<◌, ◌≤◌, ◌≢◌, ◌⊎◌, cond, leb, List, length, get_or, set, inl, inr, ⊎_elim, arith}
use Rattle.std.proofs.lemmas.Bool.{cases_eq, cases_lt}
use Rattle.std.proofs.lemmas.Bool.Decides.{nat_tests}
use Rattle.std.proofs.lemmas.List.{get_or-set_other, get_or_past}
use Rattle.std.proofs.lemmas.List.Sums.{sum_by-set, get_or-le-sum_by}
use Rattle.std.proofs.lemmas.Grind.{get_or-set_at}
use Rattle.flow.specs.Bounds.{most_junctions}
use Rattle.flow.specs.Net.{Net, Shaped}
use Rattle.flow.specs.Steps.{finishes}
use Rattle.std.specs.Prelude.{slice_index}
use Rattle.labelling.specs.Heights.{high, Bounded}
use Rattle.labelling.specs.Scanning.{OneAbove, NoneOpen, IsRelabel}

-- 1 for a label that is as high as the most junctions
abbrev high_one : ℕ → ℕ
high_one l = cond (leb most_junctions l) 1 0

-- a junction's new label is at most 1 + another label
pub relabel_low : (g : Net) (labels : List ℕ) (v c : ℕ) → Shaped g → Bounded labels → IsRelabel g (slice_index labels) v c →
    c ≤ most_junctions + high labels
relabel_low g labels v c shaped b r = ⊎_elim
    (λ (one : OneAbove g.reaches (slice_index labels) v c). omega (arith, one.above, b (finishes g.reaches one.step)))
    (λ (none : NoneOpen g v c). omega (arith, none.count, shaped.few)) r

module _ (labels : List ℕ) (v c : ℕ) (low : v < length labels) (below : get_or labels v 0 < most_junctions)
    (bound : c ≤ most_junctions + high labels) (b : Bounded labels) where
  counted : high (set labels v c) ≡ high labels + high_one c
  counted = let s = sum_by-set high_one labels v c 0 low in grind (arith, nat_tests)

  pub Bounded-set : Bounded (set labels v c)
  Bounded-set u = ⊎_elim (λ (same : u ≡ v). let s = get_or-set_at labels v u c 0 same low in let n = counted in grind (arith, nat_tests))
      (λ (ne : u ≢ v). let s = get_or-set_other labels v u c 0 ne in omega (arith, counted, b u)) (cases_eq u v)
