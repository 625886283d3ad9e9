-- The first reach with a property, in two lists whose reaches have it alike.
use Rattle.std.proofs.Common.{◌≡◌, ℕ, ◌<◌, List, length, Some, None, Option, arith}
use Rattle.flow.specs.Net.{Arc, arc_at}
use Rattle.network.specs.Touching.{FirstFrom}

-- P of a reach of one list comes to Q of the reach with the same number of the other
module _ (P Q : Arc → Type 0) (rs others : List Arc) (long : length others ≡ length rs) (k : ℕ)
    (to : (e : ℕ) → e < length rs → P (arc_at rs e) → Q (arc_at others e))
    (back : (e : ℕ) → e < length rs → Q (arc_at others e) → P (arc_at rs e)) where
  pub first_alike : (r : Option ℕ) → FirstFrom P rs k r → FirstFrom Q others k r
  first_alike (Some i) h = (
    h.0,
    omega (arith, h.1),
    to i h.1 h.2,
    λ e from low has. h.3 e from low (back e (omega (arith, h.1)) has),
  )
  first_alike None h = λ e from low has. h e from (omega arith) (back e (omega arith) has)
