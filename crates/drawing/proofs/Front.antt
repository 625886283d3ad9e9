-- A record is read from its own bytes alone: what follows them changes nothing.
use Rattle.std.proofs.Common.{◌≡◌, ℕ, ◌+◌, ◌≤◌, cond, List, [], ◌∷◌, length, take, drop, Some, Err, slice_get, sym, refl, ap, ◌∙◌, arith}
use Rattle.std.proofs.lemmas.List.{drop-take, take-take}
use Rattle.std.proofs.lemmas.Bool.{le-ltb}
use Rattle.refusal.specs.declared.Fault.TheVariants.{EndsEarly}
use Rattle.drawing.specs.declared.kind.Kind.{Kind}
use Rattle.drawing.specs.declared.kind.Kind.TheVariants as k
use Rattle.drawing.specs.Numbers.{field}
use Rattle.drawing.specs.declared.kind.Stage.{Stage}
use Rattle.drawing.specs.Kinds.{kind_of, length_of, follows}
use Rattle.drawing.specs.Records.{spelt, wrong}
use Rattle.drawing.specs.Reading.{fielded, placed, lettered, judged}

-- a field that lies within the first i + m bytes
field_front : (i w m : ℕ) (bs : List ℕ) → w ≤ m → field i w (take (i + m) bs) ≡ field i w bs
field_front i w m bs h = ap (take w) (drop-take i m bs) ∙ take-take w m (drop i bs) h

pub spelt_front : (kind : Kind) (bs : List ℕ) (p : ℕ) → spelt kind (take (length_of kind) bs) p ≡ spelt kind bs p
spelt_front k.Shape bs p =
    cc (field_front 1 2 6 bs (omega arith), field_front 3 2 4 bs (omega arith), field_front 5 2 2 bs (omega arith))
spelt_front k.Name bs p = cc (field_front 1 2 10 bs (omega arith), field_front 3 8 8 bs (omega arith))
spelt_front k.Reach bs p =
    cc (field_front 1 2 8 bs (omega arith), field_front 3 2 6 bs (omega arith), field_front 5 4 4 bs (omega arith))
spelt_front k.End bs p = refl
spelt_front k.Chamber bs p = cc (field_front 1 2 6 bs (omega arith), field_front 3 4 4 bs (omega arith))
spelt_front k.Source bs p = cc (field_front 1 2 6 bs (omega arith), field_front 3 4 4 bs (omega arith))
spelt_front k.Sink bs p = cc (field_front 1 2 6 bs (omega arith), field_front 3 4 4 bs (omega arith))
spelt_front k.Limit bs p = cc (field_front 1 2 6 bs (omega arith), field_front 3 4 4 bs (omega arith))
spelt_front k.Settle bs p = cc (field_front 1 4 4 bs (omega arith))
spelt_front k.Drain bs p = refl
spelt_front k.Bottleneck bs p = refl
spelt_front k.Tally bs p = refl

pub wrong_front : (kind : Kind) (bs : List ℕ) (n : ℕ) → wrong kind (take (length_of kind) bs) n ≡ wrong kind bs n
wrong_front k.Name bs n = cc (field_front 1 2 10 bs (omega arith), field_front 3 8 8 bs (omega arith))
wrong_front _ bs n = refl

-- bytes that begin with a record at its place in a drawing are judged by what is wrong in the record
pub judged_record : (bs : List ℕ) (b : ℕ) (kind : Kind) (stage next : Stage) (n : ℕ)
    → slice_get bs 0 ≡ Some b → kind_of b ≡ Some kind → follows stage kind ≡ Some next → length_of kind ≤ length bs
    → judged bs stage n ≡ fielded (wrong kind (take (length_of kind) bs) n) (kind, next)
judged_record [] b kind stage next n f l p h = cc
judged_record (x ∷ bs) b kind stage next n f l p h =
    let here : x ≡ b = cc in
    let letter : kind_of x ≡ Some kind = ap kind_of here ∙ l in
    ap (λ o. lettered o (x ∷ bs) stage n) letter
    ∙ ap (λ o. placed kind o (x ∷ bs) n) p
    ∙ ap (λ v. cond v (Err EndsEarly) (fielded (wrong kind (x ∷ bs) n) (kind, next))) (le-ltb (length (x ∷ bs)) (length_of kind) h)
    ∙ ap (λ o. fielded o (kind, next)) (sym (wrong_front kind (x ∷ bs) n))
