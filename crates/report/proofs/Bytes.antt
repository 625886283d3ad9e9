-- Lines told apart by their first bytes and by their last.
use Rattle.std.proofs.Common.{◌≡◌, ℕ, ◌+◌, ◌%◌, ◌^◌, ◌<◌, ◌≤◌, eqb, drop, Bool, true, false, ◌≢◌, List, [], ◌∷◌, ◌++◌, codes, decimal, refl, sym, ap, ◌∙◌, subst, ⊎_elim, arith, append_assoc}
use Rattle.std.specs.List.{All}
use Rattle.std.proofs.lemmas.Fmt.{decimal_by_steps, decimal_injective}
use Rattle.std.proofs.lemmas.List.Elements.{All-nil, All-cons, All-head, All-tail, All-push}
use Rattle.std.proofs.lemmas.Bool.{cases_Bool, cond-false, eqb-true, ne_eqb, false≢true}
use Rattle.desk.specs.Lines.{yes_no, limit_line, settled_line}
use Rattle.desk.specs.Laws.{starts_with, is_across}
use Rattle.report.specs.Laws.{is_refusal}
use Rattle.report.specs.Most.{SaysFinished, is_limit, is_drained, is_tally, is_bottleneck}
use Rattle.report.specs.Adding.{is_settled}

-- the first byte
abbrev pub first_byte : List ℕ → ℕ
first_byte [] = 0
first_byte (b ∷ bs) = b

pub first_from_start : (b : ℕ) (bs l : List ℕ) → starts_with (b ∷ bs) l ≡ true → first_byte l ≡ b
first_from_start b bs [] h = absurd (false≢true h)
first_from_start b bs (c ∷ cs) h = ⊎_elim
    (λ (e : eqb b c ≡ true). sym (eqb-true b c e))
    (λ (e : eqb b c ≡ false). absurd (false≢true (sym (cond-false (eqb b c) (starts_with bs cs) false e) ∙ h)))
    (cases_Bool (eqb b c))

pub start_from_first : (b : ℕ) (bs l : List ℕ) → first_byte l ≢ b → starts_with (b ∷ bs) l ≡ false
start_from_first b bs [] ne = refl
start_from_first b bs (c ∷ cs) ne = cond-false (eqb b c) (starts_with bs cs) false (ne_eqb b c (λ e. ne (sym e)))

-- the first bytes of lines
pub across_byte : (l : List ℕ) → is_across l ≡ true → first_byte l ≡ 97
across_byte l is = first_from_start 97 (codes "cross ") l is

pub refusal_byte : (l : List ℕ) → is_refusal l ≡ true → first_byte l ≡ 114
refusal_byte l is = first_from_start 114 (codes "efused ") l is

pub finished_byte : (l : List ℕ) → SaysFinished l → first_byte l ≡ 115
finished_byte l says = ap first_byte says.1

pub no_limit_byte : (l : List ℕ) → first_byte l ≢ 108 → is_limit l ≡ false
no_limit_byte l ne = start_from_first 108 (codes "imit ") l ne

pub no_drained_byte : (l : List ℕ) → first_byte l ≢ 100 → is_drained l ≡ false
no_drained_byte l ne = start_from_first 100 (codes "rained") l ne

pub no_settled_byte : (l : List ℕ) → first_byte l ≢ 115 → is_settled l ≡ false
no_settled_byte l ne = start_from_first 115 (codes "ettled ") l ne

pub tally_byte : (l : List ℕ) → is_tally l ≡ true → first_byte l ≡ 116
tally_byte l is = first_from_start 116 (codes "ally ") l is

pub no_tally_byte : (l : List ℕ) → first_byte l ≢ 116 → is_tally l ≡ false
no_tally_byte l ne = start_from_first 116 (codes "ally ") l ne

pub no_bottleneck_byte : (l : List ℕ) → first_byte l ≢ 98 → is_bottleneck l ≡ false
no_bottleneck_byte l ne = start_from_first 98 (codes "ottleneck ") l ne

-- the last byte
abbrev last_byte : List ℕ → ℕ
last_byte [] = 0
last_byte (b ∷ []) = b
last_byte (b ∷ (c ∷ cs)) = last_byte (c ∷ cs)

abbrev EndsIn : ℕ → List ℕ → Type 0
EndsIn b l = (front : List ℕ) × (l ≡ front ++ (b ∷ []))

last-push : (front : List ℕ) (b : ℕ) → last_byte (front ++ (b ∷ [])) ≡ b
last-push [] b = refl
last-push (c ∷ []) b = refl
last-push (c ∷ (d ∷ ds)) b = last-push (d ∷ ds) b

one_end : (b c : ℕ) (l : List ℕ) → EndsIn b l → EndsIn c l → b ≡ c
one_end b c l x y = sym (last-push x.0 b) ∙ ap last_byte (sym x.1 ∙ y.1) ∙ last-push y.0 c

end_behind : (b : ℕ) (more l : List ℕ) → EndsIn b l → EndsIn b (more ++ l)
end_behind b more l x = (more ++ x.0, ap (λ (z : List ℕ). more ++ z) x.1 ∙ sym (append_assoc more x.0 (b ∷ [])))

-- a settling that says "yes" finished
pub finished_from_yes : (routes litres : ℕ) (finished : Bool) → SaysFinished (settled_line routes litres finished) →
    finished ≡ true
finished_from_yes routes litres true says = refl
finished_from_yes routes litres false says =
    let no : EndsIn 111 (settled_line routes litres false) =
    end_behind 111 (codes "settled ") _ (end_behind 111 (decimal routes) _ (end_behind 111 (codes " ") _
    (end_behind 111 (decimal litres) _ (end_behind 111 (codes " ") (codes "no") (110 ∷ [], refl))))) in
    let yes : EndsIn 115 (codes "settled " ++ (says.0 ++ codes "yes")) =
    end_behind 115 (codes "settled ") _ (end_behind 115 says.0 (codes "yes") (121 ∷ (101 ∷ []), refl)) in
    let same : ◌≡◌ {A = ℕ} 111 115 =
    one_end 111 115 (settled_line routes litres false) no (subst (EndsIn 115) (sym says.1) yes) in
    absurd (let z : ⊥ = omega (arith, same) in z)

-- ---- a line tells its numbers once

abbrev Other : ℕ → ℕ → Type 0
Other b c = c ≢ b

-- two lists with no b in them, each with a b behind it and more, are the same where the whole is
one_front : (b : ℕ) (xs ys more others : List ℕ) → All (Other b) xs → All (Other b) ys →
    xs ++ (b ∷ more) ≡ ys ++ (b ∷ others) → (xs ≡ ys) × (more ≡ others)
one_front b [] [] more others p q e = (refl, cc)
one_front b [] (y ∷ ys) more others p q e = absurd (All-head (Other b) y ys q (let same : y ≡ b = cc in same))
one_front b (x ∷ xs) [] more others p q e = absurd (All-head (Other b) x xs p (let same : x ≡ b = cc in same))
one_front b (x ∷ xs) (y ∷ ys) more others p q e =
    let rest = one_front b xs ys more others (All-tail (Other b) x xs p) (All-tail (Other b) y ys q) cc in
    (let same : x ≡ y = cc in cc (rest.0), rest.1)

-- no number has a space in it
no_space : (n : ℕ) → n < 2 ^ 64 → All (Other 32) (decimal n)
no_space = decimal_by_steps (λ n ds. All (Other 32) ds) one more
  where
    one : (n : ℕ) → n < 10 → All (Other 32) ((48 + n) ∷ [])
    one n low = All-cons (Other 32) (48 + n) [] (λ e. let z : ⊥ = omega (arith, e) in z) (All-nil (Other 32))

    more : (n : ℕ) (ds : List ℕ) → 10 ≤ n → All (Other 32) ds → All (Other 32) (ds ++ ((48 + n % 10) ∷ []))
    more n ds high all = All-push (Other 32) ds (48 + n % 10) all (λ e. let z : ⊥ = omega (arith, e) in z)

pub one_limit : (k q i p : ℕ) → k < 2 ^ 64 → q < 2 ^ 64 → i < 2 ^ 64 → p < 2 ^ 64 → limit_line k q ≡ limit_line i p →
    (k ≡ i) × (q ≡ p)
one_limit k q i p k-fits q-fits i-fits p-fits e =
    let behind : decimal k ++ (32 ∷ decimal q) ≡ decimal i ++ (32 ∷ decimal p) = ap (drop 6) e in
    let parts = one_front 32 (decimal k) (decimal i) (decimal q) (decimal p) (no_space k k-fits) (no_space i i-fits) behind in
    (decimal_injective k i k-fits i-fits parts.0, decimal_injective q p q-fits p-fits parts.1)

pub one_settled : (n d i p : ℕ) (x y : Bool) → n < 2 ^ 64 → d < 2 ^ 64 → i < 2 ^ 64 → p < 2 ^ 64 →
    settled_line n d x ≡ settled_line i p y → d ≡ p
one_settled n d i p x y n-fits d-fits i-fits p-fits e =
    let more = decimal d ++ (32 ∷ yes_no x) in
    let others = decimal p ++ (32 ∷ yes_no y) in
    let behind : decimal n ++ (32 ∷ more) ≡ decimal i ++ (32 ∷ others) = ap (drop 8) e in
    let parts = one_front 32 (decimal n) (decimal i) more others (no_space n n-fits) (no_space i i-fits) behind in
    let same = one_front 32 (decimal d) (decimal p) (yes_no x) (yes_no y) (no_space d d-fits) (no_space p p-fits) parts.1 in
    decimal_injective d p d-fits p-fits same.0
