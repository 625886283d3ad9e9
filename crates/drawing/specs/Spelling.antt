-- The format of a record: which bytes spell what it says.
use Rattle.std.specs.Prelude.{◌≡◌, ℕ, ◌+◌, ◌≤◌, List, [], ◌∷◌, length, take, drop, Some, None, Ok, Err, Option}
use Rattle.refusal.specs.declared.Part.TheVariants as part
use Rattle.drawing.specs.declared.kind.Kind.{Kind}
use Rattle.drawing.specs.declared.kind.Kind.TheVariants as k
use Rattle.drawing.specs.Numbers.{number_in, field}
use Rattle.drawing.specs.Kinds.{letter_of, widths, length_of}
use Rattle.drawing.specs.Records.{Said, shape, name, reach, table_end, chamber, source, sink, limit, settle}
use Rattle.drawing.specs.Records.{drain, bottleneck, tally}
use Rattle.drawing.specs.Reading.{Answer}
use Rattle.drawing.specs.Ahead.{Drawn, item, end, refused}

-- what a field holds: a number, or bytes as they are
pub data Value : Type 0 where
  number : ℕ → Value
  text : List ℕ → Value

-- the number in the field of a limit that need not be stated
abbrev pub or_none : Option ℕ → Value
or_none None = number 0xffff_ffff
or_none (Some q) = number q

-- the kind of the record that says this, and the values of its fields in their order
abbrev pub written : Said → Kind × List Value
written (shape n i o) = (k.Shape, number n ∷ (number i ∷ (number o ∷ [])))
written (name j bs p) = (k.Name, number j ∷ (text bs ∷ []))
written (reach t h q) = (k.Reach, number t ∷ (number h ∷ (number q ∷ [])))
written table_end = (k.End, [])
written (chamber j q) = (k.Chamber, number j ∷ (number q ∷ []))
written (source j q) = (k.Source, number j ∷ (or_none q ∷ []))
written (sink j q) = (k.Sink, number j ∷ (or_none q ∷ []))
written (limit i q) = (k.Limit, number i ∷ (number q ∷ []))
written (settle b) = (k.Settle, number b ∷ [])
written drain = (k.Drain, [])
written bottleneck = (k.Bottleneck, [])
written tally = (k.Tally, [])

-- the bytes of a field hold its value
abbrev pub Holds : Value → List ℕ → Type 0
Holds (number n) bs = number_in bs ≡ n
Holds (text cs) bs = bs ≡ cs

-- the bytes bs are fields of these widths with these values, one after the other, and then rest
abbrev pub Fields : List ℕ → List Value → List ℕ → List ℕ → Type 0
Fields [] [] bs rest = bs ≡ rest
Fields [] (v ∷ vs) bs rest = ⊥
Fields (w ∷ ws) [] bs rest = ⊥
Fields (w ∷ ws) (v ∷ vs) bs rest = (w ≤ length bs) × (Holds v (take w bs) × Fields ws vs (drop w bs) rest)

-- the bytes are a record that says a, and then rest: the letter of its kind, and its fields
abbrev pub Spells : Said → List ℕ → List ℕ → Type 0
Spells a [] rest = ⊥
Spells a (b ∷ bs) rest = (b ≡ letter_of (written a).0) × Fields (widths (written a).0) (written a).1 bs rest

-- the place behind a record that says a and stands at the place p
abbrev pub past : Said → ℕ → ℕ
past a p = p + length_of (written a).0

-- a name is found again by its own place in the input
abbrev pub Kept : Said → List ℕ → Type 0
Kept (shape n i o) input = Unit {0}
Kept (name j bs q) input = (q + 8 ≤ length input) × (field q 8 input ≡ bs)
Kept (reach t h q) input = Unit {0}
Kept table_end input = Unit {0}
Kept (chamber j q) input = Unit {0}
Kept (source j q) input = Unit {0}
Kept (sink j q) input = Unit {0}
Kept (limit i q) input = Unit {0}
Kept (settle b) input = Unit {0}
Kept drain input = Unit {0}
Kept bottleneck input = Unit {0}
Kept tally input = Unit {0}

-- what an answer tells of the input, for a reader that goes from the place p to the place q: the bytes from p on spell the
-- record, and q is the place behind it; or no byte is left; or the reader refuses what stands at p
abbrev pub Tells : Answer → List ℕ → ℕ → ℕ → Type 0
Tells (Ok (Some a)) input p q = (q ≡ past a p) × (Spells a (drop p input) (drop q input) × Kept a input)
Tells (Ok None) input p q = drop p input ≡ []
Tells (Err e) input p q = (e.place ≡ Some p) × (e.part ≡ part.Reader)

-- what is drawn accounts for the input from the place p on: each record is spelt by the bytes at its place, the next one
-- stands right behind it, and so on up to where no byte is left, or to the place of the refusal
abbrev pub Covers : Drawn → List ℕ → ℕ → Type 0
Covers (item q a rest) input p =
    (q ≡ p) × (Spells a (drop p input) (drop (past a p) input) × (Kept a input × Covers rest input (past a p)))
Covers (end q) input p = (q ≡ p) × (drop p input ≡ [])
Covers (refused e) input p = (e.place ≡ Some p) × (e.part ≡ part.Reader)
