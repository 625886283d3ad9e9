-- The bottleneck of a network in numbers: which junctions are near, its sum, how many reaches cross it, and marks that
-- tell it.
use Rattle.std.specs.Prelude.{ℕ, zero, suc, ◌*◌, Bool, false, ◌&&◌, ◌||◌, List, ◌++◌, length, drop, ◌==◌, nat_lt}
use Rattle.flow.specs.Net.{Arc, Net}
use Rattle.flow.specs.Steps.{begins, finishes, headroom}
use Rattle.flow.specs.Cuts.{Side, cut_sum, crossing_count}
use Rattle.flow.specs.Histories.{marks_of}

-- whether some number below n passes a test
abbrev pub any_below : (ℕ → Bool) → ℕ → Bool
any_below p zero = false
any_below p (suc n) = p n || any_below p n

-- whether at most k open steps lead from junction v to another: it is that one, or some open step begins at v, and from
-- where it finishes fewer lead on
abbrev pub leads_within : List Arc → ℕ → ℕ → ℕ → Bool
leads_within rs to zero v = v == to
leads_within rs to (suc k) v = leads_within rs to k v
    || any_below (λ s. nat_lt 0 (headroom rs s) && ((begins rs s == v) && leads_within rs to k (finishes rs s))) (2 * length rs)

-- a junction is near when open steps lead to it from the intake; then no more than n do
abbrev pub near_of : Net → Side
near_of g v = leads_within g.reaches v g.junctions g.intake

-- whether a route exists: the outfall is near
abbrev pub has_route : Net → Bool
has_route g = near_of g g.outfall

-- the sum of the limits of the reaches that cross the bottleneck, and how many they are
abbrev pub bottleneck_sum : Net → ℕ
bottleneck_sum g = cut_sum (near_of g) g.reaches

abbrev pub bottleneck_count : Net → ℕ
bottleneck_count g = crossing_count (near_of g) g.reaches

-- a list of marks whose first n are those of the bottleneck, and whose later ones stand as they stood
abbrev pub marked_over : Net → List ℕ → List ℕ
marked_over g marks = marks_of (near_of g) g.junctions ++ drop g.junctions marks
