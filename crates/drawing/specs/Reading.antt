-- One call of a reader: what it answers, and where the reader then stands.
use Rattle.std.specs.Prelude.{◌≡◌, ℕ, ◌+◌, ◌≤◌, cond, List, [], ◌∷◌, length, take, drop, Some, None, Ok, Err, Option, Result, nat_lt}
use Rattle.refusal.specs.declared.Fault.{Fault}
use Rattle.refusal.specs.declared.Fault.TheVariants.{ByteNotAllowed, EndsEarly, InputTooLong}
use Rattle.refusal.specs.declared.Refusal.{Refusal}
use Rattle.refusal.specs.declared.Part.TheVariants as part
use Rattle.refusal.specs.Checks.{unplaced, placed_at}
use Rattle.drawing.specs.declared.kind.Kind.{Kind}
use Rattle.drawing.specs.declared.kind.Stage.{Stage}
use Rattle.drawing.specs.declared.kind.Stage.TheVariants as s
use Rattle.drawing.specs.declared.record.Record.{Record}
use Rattle.drawing.specs.declared.record.RawRecord.{RawRecord}
use Rattle.drawing.specs.declared.reader.Reader.{Reader}
use Rattle.drawing.specs.Kinds.{kind_of, length_of, follows, ends}
use Rattle.drawing.specs.Records.{Said, said, spelt, junctions_after, wrong}

-- where a reader stands: the place of the next record, the stage, and the number of junctions that the shape stated
pub record State : Type 0 where
  pub place : ℕ
  pub stage : Stage
  pub junctions : ℕ

-- where a reader begins
abbrev pub start : State
start = record { place = 0; stage = s.Start; junctions = 0 }

-- where a reader of the code stands
abbrev pub state_of : Reader → State
state_of r = record { place = r.place; stage = r.stage; junctions = r.junctions }

-- what a call answers: what the next record says, nothing at an allowed end, or a refusal
abbrev pub Answer : Type 0
Answer = Result (Option Said) Refusal

-- what a call of the code answers
abbrev pub answer_of : Result (Option Record) Refusal → Answer
answer_of (Ok (Some r)) = Ok (Some (said r))
answer_of (Ok None) = Ok None
answer_of (Err e) = Err e

-- a refusal by the reader, at a place
abbrev pub refusal_at : Fault → ℕ → Refusal
refusal_at f p = placed_at (unplaced f part.Reader) p

-- the most bytes that an input may have
abbrev pub most_bytes : ℕ
most_bytes = 65536

-- the refusal of a longer input
abbrev pub too_long : Refusal
too_long = refusal_at InputTooLong 0

-- ---- the checks, in their order

-- what the checks find at the front of the bytes: a record of a kind, with the stage after it; an allowed end; or the
-- first fault
abbrev pub Verdict : Type 0
Verdict = Result (Option (Kind × Stage)) Fault

-- fourth, the fields of the record are right
abbrev pub fielded : Option Fault → Kind × Stage → Verdict
fielded None p = Ok (Some p)
fielded (Some f) p = Err f

-- second, the kind has a place here; third, the record is there whole
abbrev pub placed : Kind → Option Stage → List ℕ → ℕ → Verdict
placed kind None bs n = Err ByteNotAllowed
placed kind (Some next) bs n =
    cond (nat_lt (length bs) (length_of kind)) (Err EndsEarly) (fielded (wrong kind bs n) (kind, next))

-- first, the byte is the letter of a kind
abbrev pub lettered : Option Kind → List ℕ → Stage → ℕ → Verdict
lettered None bs stage n = Err ByteNotAllowed
lettered (Some kind) bs stage n = placed kind (follows stage kind) bs n

-- all of them, on the bytes that are left, at a stage of a drawing of n junctions
abbrev pub judged : List ℕ → Stage → ℕ → Verdict
judged [] stage n = cond (ends stage) (Ok None) (Err EndsEarly)
judged (b ∷ bs) stage n = lettered (kind_of b) (b ∷ bs) stage n

-- a record that the checks find is there whole
abbrev pub Whole : Verdict → List ℕ → Type 0
Whole (Err f) bs = Unit {0}
Whole (Ok None) bs = Unit {0}
Whole (Ok (Some p)) bs = length_of p.0 ≤ length bs

-- what the checks of the code find, as a verdict
abbrev pub verdict_of : Result (Option (RawRecord × Stage)) Fault → Verdict
verdict_of (Err f) = Err f
verdict_of (Ok None) = Ok None
verdict_of (Ok (Some p)) = Ok (Some (p.0.kind, p.1))

-- a record that the checks of the code find is the bytes at the front of bs
abbrev pub FoundIn : Result (Option (RawRecord × Stage)) Fault → List ℕ → Type 0
FoundIn (Err f) bs = Unit {0}
FoundIn (Ok None) bs = Unit {0}
FoundIn (Ok (Some p)) bs = p.0.bytes.now ≡ take (length_of p.0.kind) bs

-- ---- the call

-- where the reader stands behind a record of a kind, at the front of the bytes bs, with the stage after it
abbrev pub passed : Kind × Stage → List ℕ → State → State
passed p bs at = record {
  place = at.place + length_of p.0;
  stage = p.1;
  junctions = junctions_after (spelt p.0 bs at.place) at.junctions;
}

-- the answer, and where the reader then stands: behind the record, or where it stood
abbrev pub told : Verdict → List ℕ → State → Answer × State
told (Err f) bs at = (Err (refusal_at f at.place), at)
told (Ok None) bs at = (Ok None, at)
told (Ok (Some p)) bs at = (Ok (Some (spelt p.0 bs at.place)), passed p bs at)

-- one call of a reader that stands there
abbrev pub step : List ℕ → State → Answer × State
step input at = told (judged (drop at.place input) at.stage at.junctions) (drop at.place input) at

-- the bytes that a reader of the code has not passed
abbrev pub rest_of : Reader → List ℕ
rest_of r = drop r.place r.input.now

-- the next call of a reader of the code
abbrev pub step_of : Reader → Answer × State
step_of r = step r.input.now (state_of r)

-- a reader stands within its input
abbrev pub Within : Reader → Type 0
Within r = r.place ≤ length r.input.now
