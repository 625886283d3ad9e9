-- The kinds of record: their letters, their fields, and the order that they come in.
use Rattle.std.specs.Prelude.{◌≡◌, ℕ, ◌+◌, Bool, true, false, cond, List, [], ◌∷◌, Some, None, Option, Result, ok_or, ◌==◌, sum}
use Rattle.refusal.specs.declared.Fault.{Fault}
use Rattle.refusal.specs.declared.Fault.TheVariants.{ByteNotAllowed}
use Rattle.drawing.specs.declared.kind.Kind.{Kind}
use Rattle.drawing.specs.declared.kind.Kind.TheVariants as k
use Rattle.drawing.specs.declared.kind.Stage.{Stage}
use Rattle.drawing.specs.declared.kind.Stage.TheVariants as s

-- ---- letters

-- the ASCII letter that a record of the kind begins with
abbrev pub letter_of : Kind → ℕ
letter_of k.Shape = 72  -- H
letter_of k.Name = 78  -- N
letter_of k.Reach = 82  -- R
letter_of k.End = 69  -- E
letter_of k.Chamber = 67  -- C
letter_of k.Source = 73  -- I
letter_of k.Sink = 79  -- O
letter_of k.Limit = 76  -- L
letter_of k.Settle = 83  -- S
letter_of k.Drain = 68  -- D
letter_of k.Bottleneck = 66  -- B
letter_of k.Tally = 84  -- T

-- all the kinds
abbrev pub every_kind : List Kind
every_kind =
    k.Shape ∷ (k.Name ∷ (k.Reach ∷ (k.End ∷ (k.Chamber ∷ (k.Source ∷ (k.Sink ∷
    (k.Limit ∷ (k.Settle ∷ (k.Drain ∷ (k.Bottleneck ∷ (k.Tally ∷ [])))))))))))

-- the kind among these whose letter is the byte b
abbrev pub kind_among : List Kind → ℕ → Option Kind
kind_among [] b = None
kind_among (kind ∷ kinds) b = cond (b == letter_of kind) (Some kind) (kind_among kinds b)

-- the kind whose letter is the byte b, if it is a letter of one
abbrev pub kind_of : ℕ → Option Kind
kind_of b = kind_among every_kind b

-- a byte is read as the kind whose letter it is, or refused where it is a letter of none
abbrev pub Decodes : ℕ → Result Kind Fault → Type 0
Decodes b r = r ≡ ok_or (kind_of b) ByteNotAllowed

-- ---- fields

-- the widths in bytes of the fields that follow the letter
abbrev pub widths : Kind → List ℕ
widths k.Shape = 2 ∷ (2 ∷ (2 ∷ []))  -- the number of junctions, the intake, the outfall
widths k.Name = 2 ∷ (8 ∷ [])  -- a junction, its name
widths k.Reach = 2 ∷ (2 ∷ (4 ∷ []))  -- the tail, the head, the limit
widths k.End = []
widths k.Chamber = 2 ∷ (4 ∷ [])  -- a junction, the limit
widths k.Source = 2 ∷ (4 ∷ [])  -- a junction, the limit
widths k.Sink = 2 ∷ (4 ∷ [])  -- a junction, the limit
widths k.Limit = 2 ∷ (4 ∷ [])  -- a reach, the limit
widths k.Settle = 4 ∷ []  -- the budget
widths k.Drain = []
widths k.Bottleneck = []
widths k.Tally = []

-- the bytes that follow the letter of a record
abbrev pub body_of : Kind → ℕ
body_of kind = sum (widths kind)

-- the bytes of a record, its letter included
abbrev pub length_of : Kind → ℕ
length_of kind = 1 + body_of kind

-- ---- order

-- kinds that have the same places in a drawing: H opens it; N and R make up its table, which E closes; then come
-- chambers (C), the gathered sources and sinks (I and O), and commands (L, S, D, B and T)
pub data Group : Type 0 where
  opening : Group
  tabled : Group
  closing : Group
  chambers : Group
  gathered : Group
  commands : Group

-- the group of a kind
abbrev pub group_of : Kind → Group
group_of k.Shape = opening
group_of k.Name = tabled
group_of k.Reach = tabled
group_of k.End = closing
group_of k.Chamber = chambers
group_of k.Source = gathered
group_of k.Sink = gathered
group_of k.Limit = commands
group_of k.Settle = commands
group_of k.Drain = commands
group_of k.Bottleneck = commands
group_of k.Tally = commands

-- a row of a table with a column for each stage: what stands in the column of the stage
abbrev pub row : {A : Type 0} → A → A → A → A → A → Stage → A
row a b c d e s.Start = a
row a b c d e s.Table = b
row a b c d e s.Chambers = c
row a b c d e s.Gathering = d
row a b c d e s.Commands = e

-- the stage after a record of the group, and nothing where the group has no place, for each stage before it in the order
-- Start, Table, Chambers, Gathering, Commands
abbrev pub place_of : Group → Stage → Option Stage
place_of opening stage = row (Some s.Table) None None None None stage
place_of tabled stage = row None (Some s.Table) None None None stage
place_of closing stage = row None (Some s.Chambers) None None None stage
place_of chambers stage = row None None (Some s.Chambers) None None stage
place_of gathered stage = row None None (Some s.Gathering) (Some s.Gathering) None stage
place_of commands stage = row None None (Some s.Commands) (Some s.Commands) (Some s.Commands) stage

-- the stage after a record of the kind, if it has a place there
abbrev pub follows : Stage → Kind → Option Stage
follows stage kind = place_of (group_of kind) stage

-- a drawing may end after E or any record that follows it
abbrev pub ends : Stage → Bool
ends s.Start = false
ends s.Table = false
ends s.Chambers = true
ends s.Gathering = true
ends s.Commands = true
