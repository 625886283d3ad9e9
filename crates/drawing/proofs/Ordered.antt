-- The records that a reader answers come in their order; and so for a whole input.
use Rattle.std.proofs.Common.{◌≡◌, ℕ, zero, suc, ◌≤◌, true, ltb, List, [], ◌∷◌, length, drop, Some, None, Ok, Err, Option, sym, refl, ap, ◌∙◌, subst, arith}
use Rattle.std.proofs.lemmas.Bool.{cond_both}
use Rattle.refusal.specs.declared.Fault.{Fault}
use Rattle.refusal.specs.declared.Fault.TheVariants.{EndsEarly}
use Rattle.drawing.specs.declared.kind.Kind.{Kind}
use Rattle.drawing.specs.declared.kind.Stage.{Stage}
use Rattle.drawing.specs.declared.kind.Stage.TheVariants as s
use Rattle.drawing.specs.Kinds.{kind_of, length_of, follows, ends}
use Rattle.drawing.specs.Records.{wrong}
use Rattle.drawing.specs.Reading.{State, start, Answer, most_bytes, too_long, Verdict, fielded, placed, lettered, judged, told, step}
use Rattle.drawing.specs.Ahead.{Drawn, refused, drawn_from, drawn, records_left}
use Rattle.drawing.specs.Spelling.{written}
use Rattle.drawing.specs.Order.{InOrder}
use Rattle.drawing.proofs.Onward.{onward}
use Rattle.drawing.proofs.Spelled.{kind_spelt}

-- ---- what the checks find has its place

abbrev HasPlace : Stage → Verdict → Type 0
HasPlace stage (Err f) = Unit {0}
HasPlace stage (Ok None) = ends stage ≡ true
HasPlace stage (Ok (Some p)) = follows stage p.0 ≡ Some p.1

fielded_place : (stage : Stage) (o : Option Fault) (p : Kind × Stage) → follows stage p.0 ≡ Some p.1 → HasPlace stage (fielded o p)
fielded_place stage None p e = e
fielded_place stage (Some f) p e = tt

placed_place : (stage : Stage) (kind : Kind) (o : Option Stage) (bs : List ℕ) (n : ℕ) → follows stage kind ≡ o →
    HasPlace stage (placed kind o bs n)
placed_place stage kind None bs n e = tt
placed_place stage kind (Some next) bs n e =
    cond_both (ltb (length bs) (length_of kind)) (Err EndsEarly) (fielded (wrong kind bs n) (kind, next))
    (λ (v : Verdict). HasPlace stage v) (λ _. tt) (λ _. fielded_place stage (wrong kind bs n) (kind, next) e)

lettered_place : (stage : Stage) (o : Option Kind) (bs : List ℕ) (n : ℕ) → HasPlace stage (lettered o bs stage n)
lettered_place stage None bs n = tt
lettered_place stage (Some kind) bs n = placed_place stage kind (follows stage kind) bs n refl

judged_place : (stage : Stage) (bs : List ℕ) (n : ℕ) → HasPlace stage (judged bs stage n)
judged_place stage [] n = cond_both (ends stage) (Ok None) (Err EndsEarly) (λ (v : Verdict). HasPlace stage v) (λ e. e) (λ _. tt)
judged_place stage (b ∷ bs) n = lettered_place stage (kind_of b) (b ∷ bs) n

-- ---- one call

abbrev Steps : Answer → State → State → Type 0
Steps (Ok (Some a)) at after = follows at.stage (written a).0 ≡ Some after.stage
Steps (Ok None) at after = ends at.stage ≡ true
Steps (Err e) at after = Unit {0}

told_steps : (v : Verdict) (bs : List ℕ) (at : State) → HasPlace at.stage v → Steps (told v bs at).0 at (told v bs at).1
told_steps (Err f) bs at h = tt
told_steps (Ok None) bs at h = h
told_steps (Ok (Some p)) bs at h = ap (follows at.stage) (kind_spelt p.0 bs at.place) ∙ h

steps : (input : List ℕ) (at after : State) (a : Answer) → (a, after) ≡ step input at → Steps a at after
steps input at after a e =
    let bs = drop at.place input in
    subst (λ (x : Answer × State). Steps x.0 at x.1) (sym e)
    (told_steps (judged bs at.stage at.junctions) bs at (judged_place at.stage bs at.junctions))

-- ---- a whole run

-- by n, which is at least the number of records ahead
order_from : (n : ℕ) (input : List ℕ) (at after : State) (a : Answer) → (a, after) ≡ step input at
    → records_left (drawn_from input at) ≤ n → InOrder at.stage (drawn_from input at)
order_from n input at after (Err f) e h = subst (InOrder at.stage) (sym (onward input at after (Err f) e)) tt
order_from n input at after (Ok None) e h =
    subst (InOrder at.stage) (sym (onward input at after (Ok None) e)) (steps input at after (Ok None) e)
order_from zero input at after (Ok (Some a)) e h =
    absurd (omega (arith, ap records_left (onward input at after (Ok (Some a)) e)))
order_from (suc n) input at after (Ok (Some a)) e h =
    let on = onward input at after (Ok (Some a)) e in
    let next = step input after in
    let rest = order_from n input after next.1 next.0 refl (omega (arith, ap records_left on)) in
    subst (InOrder at.stage) (sym on) (after.stage, steps input at after (Ok (Some a)) e, rest)

pub in_order : (input : List ℕ) → InOrder s.Start (drawn input)
unfolding drawn
in_order input =
    let first = step input start in
    cond_both (ltb most_bytes (length input)) (refused too_long) (drawn_from input start) (λ (d : Drawn). InOrder s.Start d)
    (λ _. tt)
    (λ _. order_from (records_left (drawn_from input start)) input start first.1 first.0 refl (omega arith))
