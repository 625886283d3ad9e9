-- What the calls of a draft and of a network answer at the edges of the bounds.
use Rattle.std.specs.Prelude.{◌≡◌, ℕ, ◌<◌, ◌≢◌, Some, None, length}
use Rattle.refusal.specs.declared.Part.{Part}
use Rattle.refusal.specs.declared.Part.TheVariants as parts
use Rattle.refusal.specs.Checks.{first_of}
use Rattle.flow.specs.Net.{Net, Sound, arc_at}
use Rattle.network.specs.declared.change.Change.TheVariants.{Limit}
use Rattle.network.specs.Changing.{change_checks}
use Rattle.table.specs.Drafting.{shape_checks, lay_checks}

pub record EdgeCases : Type 0 where
  -- 257 junctions are refused with 1, by the draft, whatever else is asked for
  pub junctions : (g : Net) (intake outfall : ℕ) → first_of (shape_checks g 257 intake outfall) ≡ Some (1, parts.Draft)
  -- the limit 1,000,000 is accepted: a reach between two junctions is laid with it while there is a place, and a reach
  -- is set to it
  pub laid : (g : Net) (places tail head : ℕ) → tail < g.junctions → head < g.junctions → tail ≢ head →
      length g.reaches < places → first_of (lay_checks g places tail head 1000000) ≡ None
  pub set : (g : Net) (giver : ℕ → Part) (k : ℕ) → Sound g → k < length g.reaches →
      first_of (change_checks (Limit 1000000) g.reaches giver k) ≡ None
  -- a limit equal to what the reach carries is accepted
  pub equal : (g : Net) (giver : ℕ → Part) (k : ℕ) → Sound g → k < length g.reaches →
      first_of (change_checks (Limit (arc_at g.reaches k).carried) g.reaches giver k) ≡ None
