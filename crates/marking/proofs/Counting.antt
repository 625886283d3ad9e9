-- How much crosses a cut, and how many reaches.
use Rattle.std.proofs.Common.{ℕ, ◌*◌, ◌≤◌, Bool, true, false, cond, arith}
use Rattle.std.specs.List.{All}
use Rattle.std.specs.Prelude.{slice_index_or}
use Rattle.std.proofs.lemmas.List.Elements.{All-weaker}
use Rattle.flow.specs.Bounds.{highest_limit, most_reaches}
use Rattle.flow.specs.Net.{Net, Shaped}
use Rattle.flow.specs.Cuts.{Side, crosses, limit_across, cut_sum, crossing_count}
use Rattle.flow.proofs.Sums.{sum_of-le}

cond_le : (b : Bool) (x c : ℕ) → x ≤ c → cond b x 0 ≤ c
cond_le true x c low = low
cond_le false x c low = omega arith

-- a cut's sum is at most the highest limit times the most reaches, and no more reaches cross it than there are
pub cut_sum_le : (g : Net) (near : Side) → Shaped g → cut_sum near g.reaches ≤ highest_limit * most_reaches
cut_sum_le g near shaped = omega (arith, sum_of-le (limit_across near) highest_limit g.reaches each, shaped.listed)
  where
    each : All (λ r. limit_across near r ≤ highest_limit) g.reaches
    each = All-weaker (λ r. r.limit ≤ highest_limit) (λ r. limit_across near r ≤ highest_limit)
        (λ r low. cond_le (crosses near r) r.limit highest_limit low) g.reaches shaped.limits

pub crossing_count_le : (g : Net) (near : Side) → Shaped g → crossing_count near g.reaches ≤ most_reaches
crossing_count_le g near shaped = omega (arith, sum_of-le (λ r. cond (crosses near r) 1 0) 1 g.reaches each, shaped.listed)
  where
    each : All (λ r. cond (crosses near r) 1 0 ≤ 1) g.reaches
    each k d low = cond_le (crosses near (slice_index_or g.reaches k d)) 1 1 (omega arith)
