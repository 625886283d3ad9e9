-- What size and reach answer.
use Rattle.std.specs.Prelude.{◌≡◌, ℕ, Bool, true, false, List, [], ◌∷◌, length, Ok, Err, Result, nat_le}
use Rattle.refusal.specs.declared.Refusal.{Refusal}
use Rattle.refusal.specs.declared.Part.TheVariants.{Network}
use Rattle.refusal.specs.Checks.{Check, check, Judged}
use Rattle.flow.specs.Net.{Arc, Net, arc_at}
use Rattle.network.specs.declared.size.Size.{Size}
use Rattle.network.specs.declared.reach.Reach.{Reach}
use Rattle.network.specs.declared.reach.Way.{Way}
use Rattle.network.specs.declared.reach.Way.TheVariants.{Forth, Back}

-- the size of a network
abbrev pub size_of : Net → Size
size_of g = record { junctions = g.junctions; reaches = length g.reaches; intake = g.intake; outfall = g.outfall }

-- the numbers of a record
abbrev pub arc_in : Reach → Arc
arc_in r = record { tail = r.tail; head = r.head; limit = r.limit; carried = r.carried }

-- whether a way along a reach goes back, from the head to the tail
abbrev pub is_back : Way → Bool
is_back Forth = false
is_back Back = true

-- reach k is refused with 4, by the network, where there is no such reach
abbrev pub reach_checks : List Arc → ℕ → List Check
reach_checks rs k = check (nat_le (length rs) k) 4 Network ∷ []

-- and else a record is answered that has its numbers
abbrev pub Recorded : List Arc → ℕ → Result Reach Refusal → Type 0
Recorded rs k (Ok r) = arc_in r ≡ arc_at rs k
Recorded rs k (Err _) = Unit {0}

-- what the call `reach` answers: a refusal, or the record of reach k
abbrev pub Told : List Arc → ℕ → Result Reach Refusal → Type 0
Told rs k r = Judged (reach_checks rs k) r × Recorded rs k r
