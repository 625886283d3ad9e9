-- The bytes that a reader passes over spell the record that it answers; and so for a whole input.
use Rattle.std.proofs.Common.{◌≡◌, ℕ, zero, suc, ◌+◌, ◌≤◌, eqb, ltb, List, [], ◌∷◌, length, take, drop, Some, None, Ok, Err, Option, sym, refl, ap, ◌∙◌, subst, one-add, sum, arith}
use Rattle.std.proofs.lemmas.List.{drop-drop, length-drop}
use Rattle.std.proofs.lemmas.List.Sums.{sum_by-cons}
use Rattle.std.proofs.lemmas.Bool.{eqb-true, cond_both}
use Rattle.drawing.specs.declared.kind.Kind.{Kind}
use Rattle.drawing.specs.declared.kind.Kind.TheVariants as k
use Rattle.drawing.specs.Numbers.{number_in}
use Rattle.drawing.specs.Kinds.{letter_of, widths, body_of, length_of}
use Rattle.drawing.specs.Records.{stated, spelt}
use Rattle.drawing.specs.Reading.{State, start, Answer, too_long, Verdict, judged, told, step}
use Rattle.drawing.specs.Ahead.{Drawn, refused, drawn_from, drawn, records_left}
use Rattle.drawing.specs.Spelling.{Value, or_none, written, Holds, Fields, Spells, Kept, Tells, Covers}
use Rattle.drawing.proofs.Found.{Found, found}
use Rattle.drawing.proofs.Onward.{onward}

-- ---- the fields of a record, by their index in the body

-- the fields of these widths from the index i on hold these values
abbrev Match : List ℕ → List Value → List ℕ → ℕ → Type 0
Match [] [] bs i = Unit {0}
Match [] (v ∷ vs) bs i = ⊥
Match (w ∷ ws) [] bs i = ⊥
Match (w ∷ ws) (v ∷ vs) bs i = Holds v (take w (drop i bs)) × Match ws vs bs (i + w)

fields : (ws : List ℕ) (vs : List Value) (bs rest : List ℕ) (i : ℕ)
    → i + sum ws ≤ length bs → drop (i + sum ws) bs ≡ rest → Match ws vs bs i → Fields ws vs (drop i bs) rest
fields [] [] bs rest i h e m = ap (λ (n : ℕ). drop n bs) (omega arith) ∙ e
fields [] (v ∷ vs) bs rest i h e m = m
fields (w ∷ ws) [] bs rest i h e m = m
fields (w ∷ ws) (v ∷ vs) bs rest i h e m =
    let both : sum (w ∷ ws) ≡ w + sum ws = sum_by-cons (λ n. n) w ws in
    let on = fields ws vs bs rest (i + w) (omega arith) (ap (λ (n : ℕ). drop n bs) (omega arith) ∙ e) m.1 in
    (simp length-drop (omega arith), (m.0, subst (λ (l : List ℕ). Fields ws vs l rest) (sym (drop-drop w i bs)) on))

-- a limit that need not be stated
holds_stated : (bs : List ℕ) → Holds (or_none (stated (number_in bs))) bs
holds_stated bs =
    cond_both (eqb (number_in bs) 0xffff_ffff) None (Some (number_in bs)) (λ (o : Option ℕ). Holds (or_none o) bs)
    (λ e. eqb-true (number_in bs) 0xffff_ffff e)
    (λ _. refl)

matches : (kind : Kind) (b : ℕ) (bs : List ℕ) (p : ℕ) → Match (widths kind) (written (spelt kind (b ∷ bs) p)).1 bs 0
matches k.Shape b bs p = (refl, (refl, (refl, tt)))
matches k.Name b bs p = (refl, (refl, tt))
matches k.Reach b bs p = (refl, (refl, (refl, tt)))
matches k.End b bs p = tt
matches k.Chamber b bs p = (refl, (refl, tt))
matches k.Source b bs p = (refl, (holds_stated (take 4 (drop 2 bs)), tt))
matches k.Sink b bs p = (refl, (holds_stated (take 4 (drop 2 bs)), tt))
matches k.Limit b bs p = (refl, (refl, tt))
matches k.Settle b bs p = (refl, tt)
matches k.Drain b bs p = tt
matches k.Bottleneck b bs p = tt
matches k.Tally b bs p = tt

pub kind_spelt : (kind : Kind) (bs : List ℕ) (p : ℕ) → (written (spelt kind bs p)).0 ≡ kind
kind_spelt k.Shape bs p = refl
kind_spelt k.Name bs p = refl
kind_spelt k.Reach bs p = refl
kind_spelt k.End bs p = refl
kind_spelt k.Chamber bs p = refl
kind_spelt k.Source bs p = refl
kind_spelt k.Sink bs p = refl
kind_spelt k.Limit bs p = refl
kind_spelt k.Settle bs p = refl
kind_spelt k.Drain bs p = refl
kind_spelt k.Bottleneck bs p = refl
kind_spelt k.Tally bs p = refl

-- a name is found again, since its record is there whole
kept : (kind : Kind) (input : List ℕ) (p : ℕ) → p + length_of kind ≤ length input → Kept (spelt kind (drop p input) p) input
kept k.Shape input p h = tt
kept k.Name input p h = (omega arith, ap (λ (l : List ℕ). take 8 l) (sym (drop-drop 3 p input)))
kept k.Reach input p h = tt
kept k.End input p h = tt
kept k.Chamber input p h = tt
kept k.Source input p h = tt
kept k.Sink input p h = tt
kept k.Limit input p h = tt
kept k.Settle input p h = tt
kept k.Drain input p h = tt
kept k.Bottleneck input p h = tt
kept k.Tally input p h = tt

-- ---- one call

spells : (kind : Kind) (b : ℕ) (bs rest : List ℕ) (p : ℕ)
    → b ≡ letter_of kind → length_of kind ≤ length (b ∷ bs) → drop (body_of kind) bs ≡ rest
    → Spells (spelt kind (b ∷ bs) p) (b ∷ bs) rest
spells kind b bs rest p l h e =
    let vs = (written (spelt kind (b ∷ bs) p)).1 in
    let behind : drop (0 + body_of kind) bs ≡ rest = ap (λ (n : ℕ). drop n bs) (omega arith) ∙ e in
    let all = fields (widths kind) vs bs rest 0 (omega arith) behind (matches kind b bs p) in
    subst (λ (x : Kind). (b ≡ letter_of x) × Fields (widths x) vs bs rest) (sym (kind_spelt kind (b ∷ bs) p)) (l, all)

tells_told : (j : Verdict) (input bs : List ℕ) (at : State) → drop at.place input ≡ bs → Found j bs
    → Tells (told j bs at).0 input at.place (told j bs at).1.place
tells_told (Err f) input bs at e w = (refl, refl)
tells_told (Ok None) input [] at e w = e
tells_told (Ok None) input (b ∷ bs) at e w = absurd w
tells_told (Ok (Some p)) input [] at e w = absurd w
tells_told (Ok (Some p)) input (b ∷ bs) at e w =
    let n = body_of p.0 in
    let behind : drop n bs ≡ drop (at.place + (1 + n)) input =
    ap (λ (m : ℕ). drop m (b ∷ bs)) (sym (one-add n)) ∙ ap (drop (1 + n)) (sym e) ∙ drop-drop (1 + n) at.place input in
    let a = spelt p.0 (b ∷ bs) at.place in
    let moved = ap (λ (kind : Kind). at.place + length_of kind) (sym (kind_spelt p.0 (b ∷ bs) at.place)) in
    let spelled = spells p.0 b bs (drop (at.place + (1 + n)) input) at.place w.0 w.1 behind in
    let whole : at.place + (1 + n) ≤ length input = omega (arith, w.1, ap length e, length-drop at.place input) in
    let found-again = subst (λ (l : List ℕ). Kept (spelt p.0 l at.place) input) e (kept p.0 input at.place whole) in
    (moved, (subst (λ (l : List ℕ). Spells a l (drop (at.place + (1 + n)) input)) (sym e) spelled, found-again))

-- an answer and a place that one call gives
pub tells_at : (input : List ℕ) (at : State) (a : Answer) (q : ℕ) → a ≡ (step input at).0 → q ≡ (step input at).1.place
    → Tells a input at.place q
tells_at input at a q said moved =
    let bs = drop at.place input in
    let told = tells_told (judged bs at.stage at.junctions) input bs at refl (found bs at.stage at.junctions) in
    subst (λ (x : Answer). Tells x input at.place q) (sym said)
    (subst (λ (p : ℕ). Tells (step input at).0 input at.place p) (sym moved) told)

tells : (input : List ℕ) (at after : State) (a : Answer) → (a, after) ≡ step input at
    → Tells a input at.place after.place
tells input at after a e =
    tells_at input at a after.place (ap (λ (x : Answer × State). x.0) e) (ap (λ (x : Answer × State). x.1.place) e)

-- ---- a whole run

-- by n, which is at least the number of records ahead
covers_from : (n : ℕ) (input : List ℕ) (at after : State) (a : Answer) → (a, after) ≡ step input at
    → records_left (drawn_from input at) ≤ n → Covers (drawn_from input at) input at.place
covers_from n input at after (Err f) e h =
    subst (λ (d : Drawn). Covers d input at.place) (sym (onward input at after (Err f) e)) (tells input at after (Err f) e)
covers_from n input at after (Ok None) e h =
    subst (λ (d : Drawn). Covers d input at.place) (sym (onward input at after (Ok None) e)) (refl, tells input at after (Ok None) e)
covers_from zero input at after (Ok (Some a)) e h =
    absurd (omega (arith, ap records_left (onward input at after (Ok (Some a)) e)))
covers_from (suc n) input at after (Ok (Some a)) e h =
    let on = onward input at after (Ok (Some a)) e in
    let here = tells input at after (Ok (Some a)) e in
    let next = step input after in
    let left = drawn_from input after in
    let rest = covers_from n input after next.1 next.0 refl (omega (arith, ap records_left on)) in
    subst (λ (d : Drawn). Covers d input at.place) (sym on) (
      refl,
      subst (λ (q : ℕ). Spells a (drop at.place input) (drop q input) × (Kept a input × Covers left input q)) here.0
          (here.1.0, (here.1.1, rest)),
    )

pub covers : (input : List ℕ) → Covers (drawn input) input 0
unfolding drawn
covers input =
    let first = step input start in
    cond_both (ltb 65536 (length input)) (refused too_long) (drawn_from input start) (λ (d : Drawn). Covers d input 0)
    (λ _. (refl, refl))
    (λ _. covers_from (records_left (drawn_from input start)) input start first.1 first.0 refl (omega arith))
