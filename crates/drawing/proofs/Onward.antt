-- One call of a reader leads from what lies ahead of it to what is left of that.
use Rattle.std.proofs.Common.{◌≡◌, ℕ, zero, suc, ◌+◌, ◌≤◌, Bool, true, false, cond, List, [], ◌∷◌, length, drop, Some, None, Ok, Err, sym, refl, ap, ◌∙◌, one-add, arith}
use Rattle.std.proofs.lemmas.List.{drop-drop}
use Rattle.refusal.specs.declared.Fault.TheVariants.{EndsEarly}
use Rattle.drawing.specs.Kinds.{body_of, ends}
use Rattle.drawing.specs.Records.{spelt}
use Rattle.drawing.specs.Reading.{State, Answer, Verdict, judged, told, passed, step}
use Rattle.drawing.specs.Ahead.{Drawn, item, end, beginning, behind, drawn_from, spoken}
use Rattle.drawing.proofs.Found.{Found, found}

-- ---- the body of a record is passed over

behind_drop : (bs : List ℕ) (k : ℕ) (at : State) → k ≤ length bs → behind bs k at ≡ behind (drop k bs) 0 at
behind_drop [] zero at h = refl
behind_drop [] (suc k) at h = refl
behind_drop (b ∷ bs) zero at h = refl
behind_drop (b ∷ bs) (suc k) at h = behind_drop bs k at (omega arith)

-- ---- one call

-- what is said where the input is judged so, and what the reader then has ahead
Goes : Verdict → List ℕ → List ℕ → State → Drawn → Type 0
Goes j input bs at here = here ≡ spoken (told j bs at).0 at.place (drawn_from input (told j bs at).1)

at_record : (j : Verdict) (input : List ℕ) (b : ℕ) (bs : List ℕ) (at : State)
    → drop at.place input ≡ b ∷ bs → Found j (b ∷ bs) → Goes j input (b ∷ bs) at (beginning j (b ∷ bs) at (behind bs))
unfolding drawn_from Goes
at_record (Err f) input b bs at e w = refl
at_record (Ok None) input b bs at e w = refl
at_record (Ok (Some p)) input b bs at e w =
    let next = passed p (b ∷ bs) at in
    let k = body_of p.0 in
    let past : drop (at.place + (1 + k)) input ≡ drop k bs =
    sym (drop-drop (1 + k) at.place input) ∙ ap (drop (1 + k)) e ∙ ap (λ (n : ℕ). drop n (b ∷ bs)) (one-add k) in
    ap (λ (rest : Drawn). item at.place (spelt p.0 (b ∷ bs) at.place) rest)
    (behind_drop bs k next (omega (arith, w.1)) ∙ ap (λ (l : List ℕ). behind l 0 next) (sym past))

at_bytes : (input bs : List ℕ) (at : State) → drop at.place input ≡ bs
    → Goes (judged bs at.stage at.junctions) input bs at (behind bs 0 at)
unfolding Goes
at_bytes input [] at e =
    let j : Bool → Verdict = λ v. cond v (Ok None) (Err EndsEarly) in
    elim (ends at.stage) as (λ v. Goes (j v) input [] at (beginning (j v) [] at (λ _ next. end next.place)))
    [ true ↦ refl | false ↦ refl ]
at_bytes input (b ∷ bs) at e =
    at_record (judged (b ∷ bs) at.stage at.junctions) input b bs at e (found (b ∷ bs) at.stage at.junctions)

pub onward : (input : List ℕ) (at after : State) (a : Answer) → (a, after) ≡ step input at
    → drawn_from input at ≡ spoken a at.place (drawn_from input after)
unfolding drawn_from Goes
onward input at after a e =
    at_bytes input (drop at.place input) at refl
    ∙ ap (λ (x : Answer × State). spoken x.0 at.place (drawn_from input x.1)) (sym e)
