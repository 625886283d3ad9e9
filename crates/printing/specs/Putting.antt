-- What it means to put bytes behind a text.
use Rattle.std.specs.Prelude.{◌≡◌, ℕ, ◌+◌, List, length}
use Rattle.printing.specs.declared.room.Room.{Room}
use Rattle.printing.specs.Bytes.{written_from, held}

-- the text got these bytes more; as many of them were written as there was room for, in the same lent bytes
pub record Puts (before : Room) (bs : List ℕ) (after : Room) : Type 0 where
  pub bytes : after.out.now ≡ written_from before.len bs before.out.now
  pub count : after.len ≡ held (before.len + length bs)
  pub lender : after.out.ghost_name ≡ before.out.ghost_name
