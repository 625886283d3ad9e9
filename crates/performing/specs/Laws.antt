-- What is said of the search that comes back, in other words: any call but a settling gives back the search that was handed in.
use Rattle.std.specs.Prelude.{◌≡◌, ℕ, ◌⊎◌}
use Rattle.performing.specs.declared.call.Call.{Call}
use Rattle.performing.specs.declared.call.Call.TheVariants as call
use Rattle.performing.specs.Calling.{SearchStays}

-- the call is a settling, with some budget
abbrev pub IsSettling : Call → Type 0
IsSettling c = (budget : ℕ) × (c ≡ call.Settle budget)

pub record SearchLaws (S : Type 0) : Type 0 where
  pub stays : (c : Call) (before after : S) → SearchStays c before after → IsSettling c ⊎ (after ≡ before)
