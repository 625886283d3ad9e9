-- Marks spread from the intake along open steps: a queue holds the marked junctions.
use Rattle.std.proofs.Common.{◌≡◌, ℕ, ◌+◌, ◌<◌, ◌≤◌, ◌≢◌, ◌⊎◌, ◌↔◌, true, cond, eqb, List, [], ◌∷◌, ◌++◌, length, get_or, set, replicate, refl, sym, ap, ◌∙◌, subst, ⊎_elim, arith, length-append, length-set}
use Rattle.std.specs.List.{count_by}
use Rattle.std.proofs.Math.Seq.{get_or-append_seam}
use Rattle.std.proofs.Math.ListN.{get_or-append}
use Rattle.std.proofs.lemmas.Bool.{cases_eq, cases_lt, eqb-true, eq-eqb}
use Rattle.std.proofs.lemmas.Bool.Decides.{nat_tests}
use Rattle.std.proofs.lemmas.List.{get_or-set_other, get_or_past, get_or-replicate, length-replicate}
use Rattle.std.proofs.lemmas.List.Sums.{sum_by-set, count_by-le-length}
use Rattle.std.proofs.lemmas.Grind.{get_or-set_at}
use Rattle.flow.specs.Net.{Net, Shaped}
use Rattle.flow.specs.Steps.{begins, finishes, IsOpen}
use Rattle.flow.specs.Routes.{Reached, GoesFirst}
use Rattle.flow.specs.Cuts.{IsBottleneck}
use Rattle.flow.specs.Histories.{marked}
use Rattle.flow.proofs.Walks.{IsWalk-append}
use Rattle.flow.proofs.Besting.{near_along}
use Rattle.routes.specs.declared.step.StepEnd.TheVariants.{Begin}
use Rattle.routes.specs.Ends.{OpensAt}
use Rattle.routes.proofs.Passing.{AllPassed, more_passed}

-- a junction is marked near
abbrev pub Near : List ℕ → ℕ → Type 0
Near marks v = get_or marks v 0 ≡ 1

-- how many are
abbrev nears : List ℕ → ℕ
nears marks = count_by (λ x. eqb x 1) marks

-- the queue is q, and the junctions before place i of it have been looked at
pub record Spread (g : Net) (marks q : List ℕ) (i : ℕ) : Type 0 where
  pub long : length marks ≡ 512
  pub bits : (v : ℕ) → get_or marks v 0 ≤ 1
  pub intake : Near marks g.intake
  -- open steps lead to each marked junction, and it stands in the queue, where no other stands and none stands twice
  pub reached : (v : ℕ) → Near marks v → Reached g v
  pub queued : (v : ℕ) → Near marks v → (k : ℕ) × (k < length q) × (get_or q k 0 ≡ v)
  pub listed : (k : ℕ) → k < length q → Near marks (get_or q k 0)
  pub many : length q ≤ nears marks
  -- open steps from a junction that has been looked at lead to marked ones
  pub done : (k s : ℕ) → k < i → k < length q → IsOpen g.reaches s → begins g.reaches s ≡ get_or q k 0 →
      Near marks (finishes g.reaches s)

-- one junction more is marked
module _ (marks : List ℕ) (u : ℕ) (low : u < length marks) where
  here : (v : ℕ) → v ≡ u → Near (set marks u 1) v
  here v same = get_or-set_at marks u v 1 0 same low

  there : (v : ℕ) → v ≢ u → get_or (set marks u 1) v 0 ≡ get_or marks v 0
  there v ne = get_or-set_other marks u v 1 0 ne

  kept : (v : ℕ) → Near marks v → Near (set marks u 1) v
  kept v near = ⊎_elim (here v) (λ ne. there v ne ∙ near) (cases_eq v u)

  one_bit : ((v : ℕ) → get_or marks v 0 ≤ 1) → (v : ℕ) → get_or (set marks u 1) v 0 ≤ 1
  one_bit bits v = ⊎_elim (λ same. omega (arith, here v same)) (λ ne. omega (arith, there v ne, bits v)) (cases_eq v u)

  one_more : get_or marks u 0 ≡ 0 → nears (set marks u 1) ≡ nears marks + 1
  one_more far = let s = sum_by-set (λ x. cond (eqb x 1) 1 0) marks u 1 0 low in grind (arith, nat_tests)

-- at the start the intake alone is marked
abbrev blank : List ℕ
blank = replicate 512 0

blank_far : (v : ℕ) → get_or blank v 0 ≡ 0
blank_far v = ⊎_elim (λ (inside : v < 512). get_or-replicate 512 v 0 0 inside)
    (λ (past : 512 ≤ v). get_or_past blank v 0 (omega (arith, length-replicate {A = ℕ} 512 0))) (cases_lt v 512)

pub spread_start : (g : Net) → Shaped g → Spread g (set (replicate 512 0) g.intake 1) (g.intake ∷ []) 0
spread_start g shaped = record {
  long = length-set blank g.intake 1 ∙ length-replicate {A = ℕ} 512 0;
  bits = one_bit blank g.intake low (λ v. omega (arith, blank_far v));
  intake = here blank g.intake low g.intake refl;
  reached = λ v near. subst (Reached g) (sym (alone v near)) ([], refl);
  queued = λ v near. (0, omega arith, sym (alone v near));
  listed = λ k l. let first : k ≡ 0 = omega arith in rw first (here blank g.intake low g.intake refl);
  many = omega (arith, one_more blank g.intake low (blank_far g.intake));
  done = λ k s b. absurd (omega arith);
}
  where
    low : g.intake < length blank
    low = omega (arith, shaped.intake_in, shaped.few, length-replicate {A = ℕ} 512 0)

    alone : (v : ℕ) → Near (set blank g.intake 1) v → v ≡ g.intake
    alone v near = ⊎_elim (λ same. same)
        (λ ne. absurd (omega (arith, near, there blank g.intake low v ne, blank_far v))) (cases_eq v g.intake)

module _ (g : Net) (marks q : List ℕ) (i : ℕ) (h : Spread g marks q i) where
  -- when all junctions of the list have been looked at, the marks tell the near side
  pub spread_near : length q ≤ i → IsBottleneck g (marked marks)
  spread_near end v low = (
    λ near. h.reached v (eqb-true (get_or marks v 0) 1 near),
    λ (ss, w). near_along (marked marks) g.reaches closed g.intake ss v w (eq-eqb (get_or marks g.intake 0) 1 h.intake),
  )
    where
      closed : (s : ℕ) → IsOpen g.reaches s → marked marks (begins g.reaches s) ≡ true → marked marks (finishes g.reaches s) ≡ true
      closed s opens near =
          let x = h.queued (begins g.reaches s) (eqb-true (get_or marks (begins g.reaches s) 0) 1 near) in
          eq-eqb (get_or marks (finishes g.reaches s) 0) 1 (h.done x.0 s (omega (arith, x.1)) x.1 opens (sym x.2))

  module _ (l : i < length q) (x u : ℕ) (o : OpensAt Begin g.reaches (get_or q i 0) x) (to : finishes g.reaches x ≡ u)
      (far : get_or marks u 0 ≡ 0) (low : u < 512) where
    inside : u < length marks
    inside = omega (arith, h.long)

    -- an open step leads from the junction that is looked at to one that is not marked: there is room for it, and it is
    -- marked and put behind the others
    pub room : length q < 512
    room = omega (
      arith,
      h.many,
      h.long,
      one_more marks u inside far,
      length-set marks u 1,
      count_by-le-length (λ y. eqb y 1) (set marks u 1),
    )

    longer : length (q ++ u ∷ []) ≡ length q + 1
    longer = length-append q (u ∷ [])

    older : (k : ℕ) → k < length q → get_or (q ++ u ∷ []) k 0 ≡ get_or q k 0
    older k b = get_or-append q (u ∷ []) 0 k b

    newest : get_or (q ++ u ∷ []) (length q) 0 ≡ u
    newest = get_or-append_seam q u [] 0

    pub spread_more : Spread g (set marks u 1) (q ++ u ∷ []) i
    spread_more = record {
      long = length-set marks u 1 ∙ h.long;
      bits = one_bit marks u inside h.bits;
      intake = kept marks u inside g.intake h.intake;
      reached = λ v near. ⊎_elim (λ (same : v ≡ u). subst (Reached g) (sym same) onward)
          (λ (ne : v ≢ u). h.reached v (sym (there marks u inside v ne) ∙ near)) (cases_eq v u);
      queued = λ v near. ⊎_elim (λ (same : v ≡ u). (length q, omega (arith, longer), newest ∙ sym same))
          (λ (ne : v ≢ u).
          let y = h.queued v (sym (there marks u inside v ne) ∙ near) in
          (y.0, omega (arith, longer, y.1), older y.0 y.1 ∙ y.2)) (cases_eq v u);
      listed = λ k b. ⊎_elim
          (λ (old : k < length q).
          ap (λ (v : ℕ). get_or (set marks u 1) v 0) (older k old) ∙ kept marks u inside (get_or q k 0) (h.listed k old))
          (λ (last : length q ≤ k).
          let end : k ≡ length q = omega (arith, longer) in
          here marks u inside (get_or (q ++ u ∷ []) k 0) (ap (λ (j : ℕ). get_or (q ++ u ∷ []) j 0) end ∙ newest))
          (cases_lt k (length q));
      many = omega (arith, longer, h.many, one_more marks u inside far);
      done = λ k s b m opens from.
          let old : k < length q = omega arith in
          kept marks u inside (finishes g.reaches s) (h.done k s b old opens (from ∙ older k old));
    }
      where
        onward : Reached g u
        onward =
            let (ss, w) = h.reached (get_or q i 0) (h.listed i l) in
            (ss ++ x ∷ [], IsWalk-append g.reaches g.intake ss (get_or q i 0) (x ∷ []) u w (o.there, o.opens, to))

-- the junction v at place i is being looked at; its open steps that go before c have been passed
pub record Leaving (g : Net) (marks q : List ℕ) (i v c : ℕ) : Type 0 where
  pub spread : Spread g marks q i
  pub within : i < length q
  pub here : get_or q i 0 ≡ v
  pub passed : AllPassed Begin g.reaches v (λ t. Near marks (finishes g.reaches t)) c

module _ (g : Net) (marks q : List ℕ) (i v c : ℕ) (e : Leaving g marks q i v c) where
  -- step x, to junction u, is passed
  module _ (next x u : ℕ) (o : OpensAt Begin g.reaches v x) (to : u ≡ finishes g.reaches x)
      (now : (s : ℕ) → OpensAt Begin g.reaches v s → (GoesFirst s next ↔ GoesFirst s c ⊎ (s ≡ x))) where
    module _ (far : get_or marks u 0 ≡ 0) (low : u < 512) where
      at_place : OpensAt Begin g.reaches (get_or q i 0) x
      at_place = record { opens = o.opens; there = o.there ∙ sym e.here }

      pub leaving_room : length q < 512
      leaving_room = room g marks q i e.spread e.within x u at_place (sym to) far low

      pub leaving_more : (longer : List ℕ) → longer ≡ q ++ u ∷ [] → Leaving g (set marks u 1) longer i v next
      leaving_more longer more = rw more (record {
        spread = spread_more g marks q i e.spread e.within x u at_place (sym to) far low;
        within = omega (arith, length-append q (u ∷ []), e.within);
        here = get_or-append q (u ∷ []) 0 i e.within ∙ e.here;
        passed = more_passed Begin g.reaches v (λ t. Near (set marks u 1) (finishes g.reaches t)) c next x now
            (λ t p b. kept marks u inside (finishes g.reaches t) (e.passed t p b))
            (here marks u inside (finishes g.reaches x) (sym to));
      })
        where
          inside : u < length marks
          inside = omega (arith, e.spread.long)
