-- A list of numbers, and marks that say which numbers are in it: one more, and one less.
use Rattle.std.proofs.Common.{◌≡◌, ℕ, ◌+◌, ◌<◌, ◌≤◌, ◌≢◌, Bool, true, false, cond, eqb, List, [], ◌∷◌, ◌++◌, length, get_or, set, replicate, refl, sym, ap, ◌∙◌, subst, ⊎_elim, arith, length-set, length-append}
use Rattle.std.specs.Prelude.{count_by}
use Rattle.std.proofs.lemmas.Bool.{cases_eq, cases_lt, cases_Bool, eq-eqb, ne_eqb}
use Rattle.std.proofs.lemmas.List.{get_or-set_other, get_or_past, get_or-replicate, length-replicate}
use Rattle.std.proofs.lemmas.List.Sums.{sum_by-set, sum_by_push, count_by-le-length}
use Rattle.std.proofs.lemmas.List.Folds.{sum_by-replicate}
use Rattle.std.proofs.lemmas.Grind.{get_or-set_at}
use Rattle.searches.specs.Listing.{IsOneWhere, at_place}

-- 1 for a mark
abbrev one : Bool → ℕ
one b = cond b 1 0

-- each number stands in the list once where it is marked, and not at all elsewhere
abbrev pub Once : List Bool → List ℕ → Type 0
Once marks xs = (v : ℕ) → IsOneWhere (at_place marks v) (count_by (λ u. eqb u v) xs)

-- nothing is marked past the end
pub marked_in : (marks : List Bool) (v : ℕ) → at_place marks v ≡ true → v < length marks
marked_in marks v is = ⊎_elim (λ (low : v < length marks). low)
    (λ (past : length marks ≤ v).
    absurd (let e : false ≡ true = sym (get_or_past marks v false past) ∙ is in cc)) (cases_lt v (length marks))

-- no mark at all
pub once_none : Once (replicate 512 false) []
once_none v = ⊎_elim (λ (low : v < 512). ap one (sym (get_or-replicate 512 v false false low)))
    (λ (past : 512 ≤ v).
    ap one (sym (get_or_past (replicate 512 false) v false (omega (arith, length-replicate {A = Bool} 512 false))))) (cases_lt v 512)

pub counted_none : 0 ≡ count_by (λ (b : Bool). b) (replicate 512 false)
counted_none = omega (arith, sum_by-replicate one 512 false)

-- what one more number adds to the count of u
here : (xs : List ℕ) (v u : ℕ) → u ≡ v → count_by (λ w. eqb w u) (xs ++ v ∷ []) ≡ count_by (λ w. eqb w u) xs + 1
here xs v u same =
    sum_by_push (λ w. one (eqb w u)) xs v ∙ ap (λ b. count_by (λ w. eqb w u) xs + one b) (eq-eqb v u (sym same))

elsewhere : (xs : List ℕ) (v u : ℕ) → u ≢ v → count_by (λ w. eqb w u) (xs ++ v ∷ []) ≡ count_by (λ w. eqb w u) xs
elsewhere xs v u ne =
    let c = sum_by_push (λ w. one (eqb w u)) xs v in
    omega (arith, c, ap one (ne_eqb v u (λ same. ne (sym same))))

module _ (marks : List Bool) (xs : List ℕ) (v : ℕ) (once : Once marks xs) (counted : length xs ≡ count_by (λ b. b) marks) where
  -- v is marked and put behind the list
  module _ (low : v < length marks) (new : get_or marks v false ≡ false) where
    pub once_more : Once (set marks v true) (xs ++ v ∷ [])
    once_more u = ⊎_elim
        (λ (same : u ≡ v).
        let before = ap one (ap (λ w. at_place marks w) same ∙ new) in
        let after = ap one (get_or-set_at marks v u true false same low) in
        let o = once u in
        omega (arith, here xs v u same, before, after))
        (λ (ne : u ≢ v).
        let after = ap one (get_or-set_other marks v u true false ne) in
        let o = once u in
        omega (arith, elsewhere xs v u ne, after))
        (cases_eq u v)

    marked_more : count_by (λ b. b) (set marks v true) ≡ count_by (λ b. b) marks + 1
    marked_more = let s = sum_by-set one marks v true false low in omega (arith, ap one new)

    pub room_more : length xs < length marks
    room_more =
        omega (arith, marked_more, counted, count_by-le-length (λ b. b) (set marks v true), length-set marks v true)

  -- v is the last of the list, and taken away
  module _ (ys : List ℕ) (last : xs ≡ ys ++ v ∷ []) where
    was : (u : ℕ) → count_by (λ w. eqb w u) (ys ++ v ∷ []) ≡ one (at_place marks u)
    was u = subst (λ zs. count_by (λ w. eqb w u) zs ≡ one (at_place marks u)) last (once u)

    pub last_marked : at_place marks v ≡ true
    last_marked = ⊎_elim (λ (yes : at_place marks v ≡ true). yes)
        (λ (no : at_place marks v ≡ false). let w = was v in absurd (omega (arith, here ys v v refl, ap one no)))
        (cases_Bool (at_place marks v))

    pub once_less : Once (set marks v false) ys
    once_less u = ⊎_elim
        (λ (same : u ≡ v).
        let before = ap one (ap (λ w. at_place marks w) same ∙ last_marked) in
        let after = ap one (get_or-set_at marks v u false false same (marked_in marks v last_marked)) in
        let w = was u in
        omega (arith, here ys v u same, before, after))
        (λ (ne : u ≢ v).
        let after = ap one (get_or-set_other marks v u false false ne) in
        let w = was u in
        omega (arith, elsewhere ys v u ne, after))
        (cases_eq u v)

    pub counted_less : length ys ≡ count_by (λ b. b) (set marks v false)
    counted_less =
        let s = sum_by-set one marks v false false (marked_in marks v last_marked) in
        let long : length xs ≡ length ys + 1 = ap length last ∙ length-append ys (v ∷ []) in
        omega (arith, ap one last_marked, counted)
