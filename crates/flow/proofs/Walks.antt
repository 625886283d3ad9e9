-- Steps and walks.
use Rattle.std.proofs.Common.{◌≡◌, ℕ, ◌+◌, ◌-◌, ◌*◌, ◌/◌, ◌<◌, ◌≤◌, ◌≢◌, Bool, true, false, List, [], ◌∷◌, ◌++◌, length, refl, sym, ap, subst, ⊎_elim, arith}
use Rattle.std.specs.List.{All}
use Rattle.std.proofs.lemmas.List.{get_or_past}
use Rattle.std.proofs.lemmas.List.Elements.{All-get_or}
use Rattle.std.proofs.lemmas.Bool.{cases_lt}
use Rattle.std.proofs.lemmas.Bool.Decides.{nat_tests}
use Rattle.flow.specs.Net.{Arc, no_arc, arc_at, Joined}
use Rattle.flow.specs.Steps.{along_reach, goes_back, arc_of, begins_at, finishes_at, headroom_at, begins, finishes, headroom, IsOpen}
use Rattle.flow.specs.Routes.{IsWalk}

-- past the end of the list a step has no headroom
no_room : (back : Bool) → headroom_at back no_arc ≡ 0
no_room true = refl
no_room false = refl

-- an open step goes along a reach of the list
pub open_in : (rs : List Arc) (s : ℕ) → IsOpen rs s → along_reach s < length rs
open_in rs s opens = ⊎_elim (λ (low : along_reach s < length rs). low)
    (λ (high : length rs ≤ along_reach s).
    let past : headroom rs s ≡ headroom_at (goes_back s) no_arc =
    ap (headroom_at (goes_back s)) (get_or_past rs (along_reach s) no_arc high) in
    absurd (omega (arith, no_room (goes_back s)))) (cases_lt (along_reach s) (length rs))

-- the ends of an open step are two different junctions
pub ends_in : (n : ℕ) (rs : List Arc) (s : ℕ) → All (Joined n) rs → IsOpen rs s →
    (begins rs s < n) × (finishes rs s < n) × (begins rs s ≢ finishes rs s)
ends_in n rs s joined opens =
    either (goes_back s) (All-get_or (Joined n) rs (along_reach s) no_arc (open_in rs s opens) joined)
  where
    either : (back : Bool) → Joined n (arc_of rs s) →
        (begins_at back (arc_of rs s) < n) × (finishes_at back (arc_of rs s) < n)
        × (begins_at back (arc_of rs s) ≢ finishes_at back (arc_of rs s))
    either true j = (j.1, j.0, λ same. j.2 (sym same))
    either false j = (j.0, j.1, j.2)

-- the headroom of the two steps along a reach
pub headroom-forth : (rs : List Arc) (k : ℕ) → headroom rs (2 * k) ≡ (arc_at rs k).limit - (arc_at rs k).carried
headroom-forth rs k = let even : 2 * k / 2 ≡ k = omega arith in rw even (grind (arith, nat_tests))

pub headroom-back : (rs : List Arc) (k : ℕ) → headroom rs (2 * k + 1) ≡ (arc_at rs k).carried
headroom-back rs k = let odd : (2 * k + 1) / 2 ≡ k = omega arith in rw odd (grind (arith, nat_tests))

-- one walk behind another
pub IsWalk-append : (rs : List Arc) (from : ℕ) (ss : List ℕ) (mid : ℕ) (ts : List ℕ) (to : ℕ) →
    IsWalk rs from ss mid → IsWalk rs mid ts to → IsWalk rs from (ss ++ ts) to
IsWalk-append rs from [] mid ts to w more = subst (λ v. IsWalk rs v ts to) (sym w) more
IsWalk-append rs from (s ∷ ss) mid ts to w more = (w.0, w.1, IsWalk-append rs (finishes rs s) ss mid ts to w.2 more)
