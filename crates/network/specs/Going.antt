-- Going through the reaches of a network.
use Rattle.std.specs.Prelude.{◌≡◌, ℕ, ◌+◌, ◌-◌, List, length, drop, Option, MatchOption}
use Rattle.std.specs.Iterator.{Count, at_most}
use Rattle.flow.specs.Net.{Arc, Net}
use Rattle.network.specs.Touching.{Touched}
use Rattle.network.specs.declared.going.Reaches.{Reaches}
use Rattle.network.specs.declared.going.Touching.{Touching}

-- over any network, by what it means
module _ {N : Type 0} (meant : N → Net) where
  -- the reaches that are still to come
  abbrev pub reaches_left : Reaches N → List Arc
  reaches_left s = drop s.next (meant s.net.now).reaches

  -- the lowest number that is left of a reach that the junction touches, and then those behind it
  abbrev pub TouchedNext : Touching N → Option ℕ → Touching N → Type 0
  TouchedNext s r t =
      Touched s.junction (meant s.net.now).reaches s.next r × (t.net ≡ s.net) × (t.junction ≡ s.junction)
      × MatchOption r (t.next ≡ s.next) (λ i. t.next ≡ i + 1)

  -- no more of them are left than numbers
  abbrev pub touches_left : Touching N → Count
  touches_left s = at_most (length (meant s.net.now).reaches - s.next)
