-- Steps: the two ways along a reach (residual arcs). Step 2k goes along reach k from tail to head, step 2k + 1 back.
use Rattle.std.specs.Prelude.{ℕ, ◌+◌, ◌-◌, ◌*◌, ◌/◌, ◌%◌, ◌<◌, Bool, cond, List, ◌==◌}
use Rattle.flow.specs.Net.{Arc, arc_at}

-- the step along reach k, back or forth
abbrev pub step_along : ℕ → Bool → ℕ
step_along k back = 2 * k + cond back 1 0

-- the reach that a step goes along, and whether it goes back
abbrev pub along_reach : ℕ → ℕ
along_reach s = s / 2

abbrev pub goes_back : ℕ → Bool
goes_back s = s % 2 == 1

abbrev pub arc_of : List Arc → ℕ → Arc
arc_of rs s = arc_at rs (along_reach s)

-- of a step along a reach, back or forth: where it begins, where it finishes, and how much more it can take (residual
-- capacity): forth what is left of the limit, back what is carried
abbrev pub begins_at : Bool → Arc → ℕ
begins_at back r = cond back r.head r.tail

abbrev pub finishes_at : Bool → Arc → ℕ
finishes_at back r = cond back r.tail r.head

abbrev pub headroom_at : Bool → Arc → ℕ
headroom_at back r = cond back r.carried (r.limit - r.carried)

-- and of a step of a list of reaches
abbrev pub begins : List Arc → ℕ → ℕ
begins rs s = begins_at (goes_back s) (arc_of rs s)

abbrev pub finishes : List Arc → ℕ → ℕ
finishes rs s = finishes_at (goes_back s) (arc_of rs s)

abbrev pub headroom : List Arc → ℕ → ℕ
headroom rs s = headroom_at (goes_back s) (arc_of rs s)

-- a step is open when it has headroom
abbrev pub IsOpen : List Arc → ℕ → Type 0
IsOpen rs s = 0 < headroom rs s
