-- The lines of the reaches that cross a cut.
use Rattle.std.proofs.Common.{◌≡◌, ℕ, zero, suc, ◌+◌, ◌-◌, ◌<◌, ◌≤◌, Bool, false, cond, List, [], ◌∷◌, ◌++◌, length, drop, refl, sym, ap, ◌∙◌, arith, add-one, drop-cons, ⊎_elim}
use Rattle.std.specs.Prelude.{IsTrue}
use Rattle.std.specs.List.{All}
use Rattle.std.proofs.lemmas.List.Elements.{All-head, All-tail}
use Rattle.std.proofs.lemmas.Bool.{cases_Bool, cases_lt}
use Rattle.std.proofs.lemmas.List.{drop_all}
use Rattle.flow.specs.Net.{Arc, no_arc, arc_at, Joined}
use Rattle.flow.specs.Cuts.{Side, crosses}
use Rattle.flow.proofs.Besting.{crossing-same}
use Rattle.network.specs.Touching.{NoneFrom}
use Rattle.naming.specs.Names.{Naming}
use Rattle.desk.specs.Lines.{Lines, across_line, across_lines}

-- two sides that agree at every junction have the same lines
pub across_lines-same : (names : Naming) (near other : Side) (n k : ℕ) (rs : List Arc) → All (Joined n) rs →
    ((v : ℕ) → v < n → near v ≡ other v) → across_lines names near k rs ≡ across_lines names other k rs
across_lines-same names near other n k [] joined same = refl
across_lines-same names near other n k (r ∷ rs) joined same =
    let first : crosses near r ≡ crosses other r = crossing-same near other n r (All-head (Joined n) r rs joined) same in
    let more = across_lines-same names near other n (k + 1) rs (All-tail (Joined n) r rs joined) same in
    ap (λ (b : Bool). cond b (across_line names k r ∷ []) [] ++ across_lines names near (k + 1) rs) first
    ∙ ap (λ (ls : Lines). cond (crosses other r) (across_line names k r ∷ []) [] ++ ls) more

module _ (names : Naming) (near : Side) (rs : List Arc) where
  abbrev Crosses : Arc → Type 0
  Crosses r = IsTrue (crosses near r)

  abbrev lines_from : ℕ → Lines
  lines_from k = across_lines names near k (drop k rs)

  abbrev line_at : Bool → ℕ → Lines
  line_at b k = cond b (across_line names k (arc_at rs k) ∷ []) []

  one : (k : ℕ) → k < length rs → lines_from k ≡ line_at (crosses near (arc_at rs k)) k ++ lines_from (k + 1)
  one k low =
      ap (across_lines names near k) (drop-cons rs k no_arc low)
      ∙ ap (λ (j : ℕ). line_at (crosses near (arc_at rs k)) k ++ across_lines names near (k + 1) (drop j rs)) (sym (add-one k))

  -- a reach that crosses has a line, and another has none
  told : (k : ℕ) → k < length rs → Crosses (arc_at rs k) → lines_from k ≡ across_line names k (arc_at rs k) ∷ lines_from (k + 1)
  told k low is = one k low ∙ ap (λ (b : Bool). line_at b k ++ lines_from (k + 1)) is

  passed : (k : ℕ) → k < length rs → ¬ Crosses (arc_at rs k) → lines_from k ≡ lines_from (k + 1)
  passed k low not =
      let none : crosses near (arc_at rs k) ≡ false =
      ⊎_elim (λ yes. absurd (not yes)) (λ no. no) (cases_Bool (crosses near (arc_at rs k))) in
      one k low ∙ ap (λ (b : Bool). line_at b k ++ lines_from (k + 1)) none

  skipped : (d k i : ℕ) → k + d ≡ i → i ≤ length rs → NoneFrom Crosses rs k i → lines_from k ≡ lines_from i
  skipped zero k i sum low none = let same : k ≡ i = omega arith in ap lines_from same
  skipped (suc d) k i sum low none =
      passed k (omega arith) (none k (omega arith) (omega arith))
      ∙ skipped d (k + 1) i (omega arith) low (λ j from. none j (omega arith))

  pub first_left : (k i : ℕ) → k ≤ i → i < length rs → Crosses (arc_at rs i) → NoneFrom Crosses rs k i →
      lines_from k ≡ across_line names i (arc_at rs i) ∷ lines_from (i + 1)
  first_left k i from low is none = skipped (i - k) k i (omega arith) (omega arith) none ∙ told i low is

  pub none_left : (k : ℕ) → NoneFrom Crosses rs k (length rs) → lines_from k ≡ []
  none_left k none = ⊎_elim
      (λ (low : k < length rs).
      skipped (length rs - k) k (length rs) (omega arith) (omega arith) none
      ∙ ap (across_lines names near (length rs)) (drop_all (length rs) rs (omega arith)))
      (λ (end : length rs ≤ k). ap (across_lines names near k) (drop_all k rs end))
      (cases_lt k (length rs))
