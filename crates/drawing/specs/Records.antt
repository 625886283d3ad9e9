-- What the bytes of one record say, and what can be wrong in them.
use Rattle.std.specs.Prelude.{ℕ, ◌+◌, Bool, false, cond, List, Some, None, Option, ◌==◌, nat_le, nat_lt}
use Rattle.std.specs.List.{list_all}
use Rattle.refusal.specs.declared.Fault.{Fault}
use Rattle.refusal.specs.declared.Fault.TheVariants.{NoJunction, ByteNotAllowed}
use Rattle.drawing.specs.declared.kind.Kind.{Kind}
use Rattle.drawing.specs.declared.kind.Kind.TheVariants as k
use Rattle.drawing.specs.declared.record.Record.{Record}
use Rattle.drawing.specs.declared.record.Record.TheVariants as r
use Rattle.drawing.specs.Numbers.{field, number_at}

-- what a record says, in the order of its fields; a name with its bytes, and its own place in the input at the end
pub data Said : Type 0 where
  shape : ℕ → ℕ → ℕ → Said
  name : ℕ → List ℕ → ℕ → Said
  reach : ℕ → ℕ → ℕ → Said
  table_end : Said
  chamber : ℕ → ℕ → Said
  source : ℕ → Option ℕ → Said
  sink : ℕ → Option ℕ → Said
  limit : ℕ → ℕ → Said
  settle : ℕ → Said
  drain : Said
  bottleneck : Said
  tally : Said

-- what a record of the code says
abbrev pub said : Record → Said
said (r.Shape n i o) = shape n i o
said (r.Name j bs p) = name j bs.now p
said (r.Reach t h q) = reach t h q
said r.End = table_end
said (r.Chamber j q) = chamber j q
said (r.Source j q) = source j q
said (r.Sink j q) = sink j q
said (r.Limit i q) = limit i q
said (r.Settle b) = settle b
said r.Drain = drain
said r.Bottleneck = bottleneck
said r.Tally = tally

-- the limit that a source or a sink states: hex FFFFFFFF states none
abbrev pub stated : ℕ → Option ℕ
stated q = cond (q == 0xffff_ffff) None (Some q)

-- what the bytes bs say, which begin with the letter of a record of the kind that stands at the place p
abbrev pub spelt : Kind → List ℕ → ℕ → Said
spelt k.Shape bs p = shape (number_at 1 2 bs) (number_at 3 2 bs) (number_at 5 2 bs)
spelt k.Name bs p = name (number_at 1 2 bs) (field 3 8 bs) (p + 3)
spelt k.Reach bs p = reach (number_at 1 2 bs) (number_at 3 2 bs) (number_at 5 4 bs)
spelt k.End bs p = table_end
spelt k.Chamber bs p = chamber (number_at 1 2 bs) (number_at 3 4 bs)
spelt k.Source bs p = source (number_at 1 2 bs) (stated (number_at 3 4 bs))
spelt k.Sink bs p = sink (number_at 1 2 bs) (stated (number_at 3 4 bs))
spelt k.Limit bs p = limit (number_at 1 2 bs) (number_at 3 4 bs)
spelt k.Settle bs p = settle (number_at 1 4 bs)
spelt k.Drain bs p = drain
spelt k.Bottleneck bs p = bottleneck
spelt k.Tally bs p = tally

-- whether a byte may stand in a name: from hex 21 to 7E
abbrev pub visible : ℕ → Bool
visible b = cond (nat_le 0x21 b) (nat_le b 0x7e) false

-- whether each byte may
abbrev pub printed : List ℕ → Bool
printed bs = list_all visible bs

-- what is wrong in the record of a name, in a drawing of n junctions: first the junction, then the name
abbrev pub wrong_name : List ℕ → ℕ → Option Fault
wrong_name bs n =
    cond (nat_lt (number_at 1 2 bs) n) (cond (printed (field 3 8 bs)) None (Some ByteNotAllowed)) (Some NoJunction)

-- what is wrong in a record that is there whole: the reader checks the fields of a name only
abbrev pub wrong : Kind → List ℕ → ℕ → Option Fault
wrong k.Shape bs n = None
wrong k.Name bs n = wrong_name bs n
wrong k.Reach bs n = None
wrong k.End bs n = None
wrong k.Chamber bs n = None
wrong k.Source bs n = None
wrong k.Sink bs n = None
wrong k.Limit bs n = None
wrong k.Settle bs n = None
wrong k.Drain bs n = None
wrong k.Bottleneck bs n = None
wrong k.Tally bs n = None

-- the number of junctions from the record on, of n before it: the shape states it
abbrev pub junctions_after : Said → ℕ → ℕ
junctions_after (shape m i o) n = m
junctions_after (name j bs p) n = n
junctions_after (reach t h q) n = n
junctions_after table_end n = n
junctions_after (chamber j q) n = n
junctions_after (source j q) n = n
junctions_after (sink j q) n = n
junctions_after (limit i q) n = n
junctions_after (settle b) n = n
junctions_after drain n = n
junctions_after bottleneck n = n
junctions_after tally n = n
