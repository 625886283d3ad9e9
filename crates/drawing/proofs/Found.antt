-- What the checks find at the front of the bytes is there.
use Rattle.std.proofs.Common.{◌≡◌, ℕ, ◌≤◌, true, false, cond, eqb, ltb, List, [], ◌∷◌, length, Some, None, Ok, Err, Option, refl}
use Rattle.std.proofs.lemmas.Bool.{ltb-false, eqb-true, cond_both}
use Rattle.refusal.specs.declared.Fault.{Fault}
use Rattle.refusal.specs.declared.Fault.TheVariants.{EndsEarly}
use Rattle.drawing.specs.declared.kind.Kind.{Kind}
use Rattle.drawing.specs.declared.kind.Stage.{Stage}
use Rattle.drawing.specs.Kinds.{letter_of, every_kind, kind_among, kind_of, length_of, follows, ends}
use Rattle.drawing.specs.Records.{wrong}
use Rattle.drawing.specs.Reading.{Verdict, judged, fielded, placed, lettered}

-- a record begins with the letter of its kind, and is there whole; and an end is where no byte is left
abbrev pub Found : Verdict → List ℕ → Type 0
Found (Err f) bs = Unit {0}
Found (Ok None) [] = Unit {0}
Found (Ok None) (b ∷ bs) = ⊥
Found (Ok (Some p)) [] = ⊥
Found (Ok (Some p)) (b ∷ bs) = (b ≡ letter_of p.0) × (length_of p.0 ≤ length (b ∷ bs))

letter_among : (ks : List Kind) (b : ℕ) (kind : Kind) → kind_among ks b ≡ Some kind → b ≡ letter_of kind
letter_among [] b kind h = cc
letter_among (x ∷ xs) b kind h =
    cond_both (eqb b (letter_of x)) (Some x) (kind_among xs b) (λ o. o ≡ Some kind → b ≡ letter_of kind)
    (λ e q. let same = eqb-true b (letter_of x) e in cc)
    (λ _ q. letter_among xs b kind q)
    h

found_fielded : (o : Option Fault) (kind : Kind) (next : Stage) (b : ℕ) (bs : List ℕ)
    → b ≡ letter_of kind → length_of kind ≤ length (b ∷ bs) → Found (fielded o (kind, next)) (b ∷ bs)
found_fielded None kind next b bs l h = (l, h)
found_fielded (Some f) kind next b bs l h = tt

found_placed : (kind : Kind) (o : Option Stage) (b : ℕ) (bs : List ℕ) (n : ℕ)
    → b ≡ letter_of kind → Found (placed kind o (b ∷ bs) n) (b ∷ bs)
found_placed kind None b bs n l = tt
found_placed kind (Some next) b bs n l =
    cond_both (ltb (length (b ∷ bs)) (length_of kind)) _ _ (λ (j : Verdict). Found j (b ∷ bs))
    (λ _. tt)
    (λ e. found_fielded (wrong kind (b ∷ bs) n) kind next b bs l (ltb-false (length (b ∷ bs)) (length_of kind) e))

found_lettered : (o : Option Kind) (b : ℕ) (bs : List ℕ) (stage : Stage) (n : ℕ)
    → ((kind : Kind) → o ≡ Some kind → b ≡ letter_of kind) → Found (lettered o (b ∷ bs) stage n) (b ∷ bs)
found_lettered None b bs stage n l = tt
found_lettered (Some kind) b bs stage n l = found_placed kind (follows stage kind) b bs n (l kind refl)

pub found : (bs : List ℕ) (stage : Stage) (n : ℕ) → Found (judged bs stage n) bs
found [] stage n =
    elim (ends stage) as (λ v. Found (cond v (Ok None) (Err EndsEarly)) []) [ true ↦ tt | false ↦ tt ]
found (b ∷ bs) stage n = found_lettered (kind_of b) b bs stage n (letter_among every_kind b)
