-- The junctions that are pending.
use Rattle.std.specs.Prelude.{◌≡◌, ℕ, ◌+◌, ◌<◌, ◌≢◌, ◌⊎◌, ◌↔◌, IsTrue, Some, None, Option, length}
use Rattle.flow.specs.Bounds.{most_junctions}
use Rattle.searches.specs.declared.pending.Pending.{Pending}
use Rattle.searches.specs.Listing.{at_place}

-- the junction is in the list
abbrev pub IsPending : Pending → ℕ → Type 0
IsPending p v = IsTrue (at_place p.listed v)

-- how many junctions are in the list
abbrev pub pending_count : Pending → ℕ
pending_count p = length p.list.items

-- those that were pending are, and the junction is
pub record Added (p : Pending) (v : ℕ) (q : Pending) : Type 0 where
  pub kept : (u : ℕ) → IsPending p u → IsPending q u
  pub here : v < most_junctions → IsPending q v
  pub none : (u : ℕ) → IsPending q u → IsPending p u ⊎ (u ≡ v)

-- one that was pending is not, and the others are; or none is pending
abbrev pub Taken : Pending → Option ℕ → Pending → Type 0
Taken p (Some v) q =
    IsPending p v × (v < most_junctions) × (pending_count p ≡ pending_count q + 1)
    × ((u : ℕ) → IsPending q u ↔ IsPending p u × (u ≢ v))
Taken p None q = ((u : ℕ) → IsPending p u → ⊥) × (q ≡ p)
