-- All that a drawing says, record by record.
use Rattle.std.specs.Prelude.{◌≡◌, ℕ, zero, suc, ◌+◌, cond, List, [], ◌∷◌, length, drop, Some, None, Ok, Err, nat_lt}
use Rattle.refusal.specs.declared.Refusal.{Refusal}
use Rattle.drawing.specs.declared.reader.Reader.{Reader}
use Rattle.drawing.specs.Kinds.{body_of}
use Rattle.drawing.specs.Records.{Said, spelt}
use Rattle.drawing.specs.Reading.{State, start, state_of, Answer, Verdict, judged, refusal_at, most_bytes, too_long, passed}

-- records, each with its place and what it says, up to the end, with its place, or to the reader's refusal
pub data Drawn : Type 0 where
  item : ℕ → Said → Drawn → Drawn
  end : ℕ → Drawn
  refused : Refusal → Drawn

-- what the checks found at the front of the bytes bs, and then what comes behind the body of a record, by `next`
abbrev pub beginning : Verdict → List ℕ → State → (ℕ → State → Drawn) → Drawn
beginning (Err f) bs at next = refused (refusal_at f at.place)
beginning (Ok None) bs at next = end at.place
beginning (Ok (Some p)) bs at next =
    item at.place (spelt p.0 bs at.place) (next (body_of p.0) (passed p bs at))

-- what the bytes say of which the first k are of the body of the record before
abbrev pub behind : List ℕ → ℕ → State → Drawn
behind [] k at = beginning (judged [] at.stage at.junctions) [] at (λ _ next. end next.place)
behind (b ∷ bs) zero at = beginning (judged (b ∷ bs) at.stage at.junctions) (b ∷ bs) at (behind bs)
behind (b ∷ bs) (suc k) at = behind bs k at

-- what an input says from where a reader stands
unfoldable pub drawn_from : List ℕ → State → Drawn
drawn_from input at = behind (drop at.place input) 0 at

-- what lies ahead of a reader
abbrev pub ahead : Reader → Drawn
ahead r = drawn_from r.input.now (state_of r)

-- what a whole input says
unfoldable pub drawn : List ℕ → Drawn
drawn input = cond (nat_lt most_bytes (length input)) (refused too_long) (drawn_from input start)

-- an answer at a place, and then what the reader still has ahead
abbrev pub spoken : Answer → ℕ → Drawn → Drawn
spoken (Ok (Some a)) p rest = item p a rest
spoken (Ok None) p rest = end p
spoken (Err e) p rest = refused e

-- how many records there are
abbrev pub records_left : Drawn → ℕ
records_left (item p a rest) = 1 + records_left rest
records_left (end p) = 0
records_left (refused e) = 0

-- what a call leaves of a reader: one record less ahead of it; or, at the end or with a refusal, the reader as it was
abbrev pub Leaves : Answer → Reader → Reader → Type 0
Leaves (Ok (Some a)) before after = records_left (ahead before) ≡ 1 + records_left (ahead after)
Leaves (Ok None) before after = state_of after ≡ state_of before
Leaves (Err e) before after = state_of after ≡ state_of before
