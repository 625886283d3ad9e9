-- What passes a junction, what a network delivers, and flows.
use Rattle.std.specs.Prelude.{◌≡◌, ℕ, ◌+◌, ◌<◌, ◌≢◌, Bool, cond, List, [], ◌∷◌, ℤ, pos, ◌-ℤ◌, ◌==◌, nat_lt}
use Rattle.std.specs.List.{list_any}
use Rattle.flow.specs.Net.{Arc, Net, Within}

-- a sum over reaches
abbrev pub sum_of : (Arc → ℕ) → List Arc → ℕ
sum_of f [] = 0
sum_of f (r ∷ rs) = f r + sum_of f rs

-- what one reach takes out of a junction, and what it brings in
abbrev pub out_of : ℕ → Arc → ℕ
out_of v r = cond (r.tail == v) r.carried 0

abbrev pub into : ℕ → Arc → ℕ
into v r = cond (r.head == v) r.carried 0

-- what all reaches take out of a junction, and what they bring in
abbrev pub leaving : ℕ → List Arc → ℕ
leaving v rs = sum_of (out_of v) rs

abbrev pub entering : ℕ → List Arc → ℕ
entering v rs = sum_of (into v) rs

-- what a network delivers: what leaves the intake minus what enters it; below 0 where more enters than leaves
abbrev pub delivered : Net → ℤ
delivered g = pos (leaving g.intake g.reaches) -ℤ pos (entering g.intake g.reaches)

-- whether some reach carries more than 0
abbrev pub carries_any : List Arc → Bool
carries_any rs = list_any (λ r. nat_lt 0 r.carried) rs

-- what a network carries is a flow within its limits: no reach carries more than its limit, and as much leaves each
-- junction as enters it, but for the intake and the outfall
pub record IsFlow (g : Net) : Type 0 where
  pub within : Within g
  pub balanced : (v : ℕ) → v < g.junctions → v ≢ g.intake → v ≢ g.outfall → leaving v g.reaches ≡ entering v g.reaches
