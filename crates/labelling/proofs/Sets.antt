-- A list in which one number is set, as a function of the place.
use Rattle.std.proofs.Common.{◌≡◌, ℕ, ◌<◌, ◌≤◌, ◌≢◌, List, length, set, replicate, refl, ⊎_elim, ◌∙◌, sym, ap, arith, length-set}
use Rattle.std.proofs.Math.Path.{fun_ext}
use Rattle.std.proofs.lemmas.Bool.{cases_eq, cases_lt}
use Rattle.std.proofs.lemmas.List.{get_or-set_other, get_or_past, get_or-replicate, length-replicate}
use Rattle.std.proofs.lemmas.Grind.{get_or-set_at}
use Rattle.std.specs.Prelude.{slice_index}
use Rattle.flow.specs.Labels.{relabelled}
use Rattle.flow.proofs.Labelling.{relabelled_here, relabelled_there}

pub relabelled_from_set : (xs : List ℕ) (i y : ℕ) → i < length xs → slice_index (set xs i y) ≡ relabelled i y (slice_index xs)
relabelled_from_set xs i y low = fun_ext (λ u. ⊎_elim
    (λ (same : u ≡ i). get_or-set_at xs i u y 0 same low ∙ sym (relabelled_here (slice_index xs) i y u same))
    (λ (ne : u ≢ i). get_or-set_other xs i u y 0 ne ∙ sym (relabelled_there (slice_index xs) i y u ne))
    (cases_eq u i))

-- 512 times one number, and one of them set to 0
module _ (n out : ℕ) (low : out < 512) where
  abbrev blank : List ℕ
  blank = set (replicate 512 n) out 0

  pub blank_other : (v : ℕ) → v < 512 → v ≢ out → slice_index (set (replicate 512 n) out 0) v ≡ n
  blank_other v inside ne = get_or-set_other (replicate 512 n) out v 0 0 ne ∙ get_or-replicate 512 v n 0 inside

  pub blank_out : slice_index (set (replicate 512 n) out 0) out ≡ 0
  blank_out = get_or-set_at (replicate 512 n) out out 0 0 refl low

  pub blank_most : (v : ℕ) → slice_index (set (replicate 512 n) out 0) v ≤ n
  blank_most v = ⊎_elim
      (λ (inside : v < 512). ⊎_elim (λ (same : v ≡ out). omega (arith, ap (slice_index blank) same, blank_out))
      (λ (ne : v ≢ out). omega (arith, blank_other v inside ne)) (cases_eq v out))
      (λ (past : 512 ≤ v).
      omega (arith, get_or_past blank v 0 (omega (arith, length-set (replicate 512 n) out 0, length-replicate {A = ℕ} 512 n))))
      (cases_lt v 512)

pub zeros : (v : ℕ) → slice_index (replicate 512 0) v ≡ 0
zeros v = ⊎_elim (λ (inside : v < 512). get_or-replicate 512 v 0 0 inside)
    (λ (past : 512 ≤ v). get_or_past (replicate 512 0) v 0 (omega (arith, length-replicate {A = ℕ} 512 0))) (cases_lt v 512)
