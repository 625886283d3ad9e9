-- Laws about what the calls of a network answer.
use Rattle.std.specs.Prelude.{◌≡◌, ℕ, ◌≤◌, List, None, Option, Result}
use Rattle.refusal.specs.declared.Refusal.{Refusal}
use Rattle.refusal.specs.declared.Part.{Part}
use Rattle.flow.specs.Net.{Arc, Net, Sound}
use Rattle.network.specs.declared.change.Change.{Change}
use Rattle.network.specs.Touching.{Touched}
use Rattle.network.specs.Changing.{Changed}

-- touch has one answer; for a number that is no junction it is nothing
pub record TouchLaws : Type 0 where
  pub one : (v : ℕ) (rs : List Arc) (k : ℕ) (a b : Option ℕ) → Touched v rs k a → Touched v rs k b → a ≡ b
  pub outside : (g : Net) (v k : ℕ) (a : Option ℕ) → Sound g → g.junctions ≤ v → Touched v g.reaches k a → a ≡ None

-- a change has one outcome: the same answer, and the same network afterwards; it leaves a sound network sound
pub record ChangeLaws : Type 0 where
  pub answer : (c : Change) (g : Net) (giver : ℕ → Part) (k : ℕ) (r s : Result Unit Refusal) (y z : Net) →
      Changed c g giver k r y → Changed c g giver k s z → r ≡ s
  pub after : (c : Change) (g : Net) (giver : ℕ → Part) (k : ℕ) (r s : Result Unit Refusal) (y z : Net) →
      Changed c g giver k r y → Changed c g giver k s z → y ≡ z
  pub sound : (c : Change) (g : Net) (giver : ℕ → Part) (k : ℕ) (r : Result Unit Refusal) (z : Net) →
      Sound g → Changed c g giver k r z → Sound z
