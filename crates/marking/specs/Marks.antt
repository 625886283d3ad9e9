-- What the bottleneck call answers and writes.
use Rattle.std.specs.Prelude.{◌≡◌, ℕ, List, [], ◌∷◌, length, Ok, Err, Result, nat_lt}
use Rattle.refusal.specs.declared.Refusal.{Refusal}
use Rattle.refusal.specs.declared.Part.TheVariants.{Network}
use Rattle.refusal.specs.Checks.{Check, check, Judged, afterwards}
use Rattle.flow.specs.Net.{Net}
use Rattle.flow.specs.Histories.{IsMarked}
use Rattle.flow.specs.Bottlenecks.{has_route, bottleneck_sum, bottleneck_count, marked_over}
use Rattle.marking.specs.declared.crossing.Bottleneck.{Bottleneck}

-- it is refused with 8 where there are fewer marks than junctions, then with 10 where a route exists, by the network
abbrev pub bottleneck_checks : Net → List ℕ → List Check
bottleneck_checks g marks = check (nat_lt (length marks) g.junctions) 8 Network ∷ check (has_route g) 10 Network ∷ []

-- the answer in numbers
abbrev pub the_bottleneck : Net → Bottleneck
the_bottleneck g = record { sum = bottleneck_sum g; crossing = bottleneck_count g }

-- an answer is those numbers, and with the marks that were written it is the bottleneck of the network
abbrev pub Answered : Net → Result Bottleneck Refusal → List ℕ → Type 0
Answered g (Ok b) after = (b ≡ the_bottleneck g) × IsMarked g after b.sum b.crossing
Answered g (Err e) after = Unit {0}

pub record Marked (g : Net) (given : List ℕ) (r : Result Bottleneck Refusal) (after : List ℕ) : Type 0 where
  pub judged : Judged (bottleneck_checks g given) r
  pub answer : Answered g r after
  pub marks : after ≡ afterwards r (marked_over g given) given
