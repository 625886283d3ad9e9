-- Labels spread from the outfall against open steps: a queue holds the labelled junctions, in the order of their labels.
use Rattle.std.proofs.Common.{◌≡◌, ℕ, ◌+◌, ◌<◌, ◌≤◌, ◌≢◌, ◌⊎◌, ◌↔◌, true, false, eqb, List, [], ◌∷◌, ◌++◌, length, get_or, refl, sym, ap, ◌∙◌, subst, inl, inr, ⊎_elim, arith, length-append}
use Rattle.std.specs.List.{Any}
use Rattle.std.proofs.Math.Seq.{get_or-append_seam}
use Rattle.std.proofs.Math.ListN.{get_or-append}
use Rattle.std.proofs.lemmas.Bool.{cases_eq, cases_lt, ne_eqb, eqb-true}
use Rattle.std.proofs.lemmas.List.{get_or_default}
use Rattle.std.proofs.lemmas.List.Folds.{Any-from_list_any}
use Rattle.std.proofs.lemmas.Map.Keys.{IsDistinct-from_apart}
use Rattle.std.proofs.lemmas.Map.Steps.{length-le_from_distinct_below}
use Rattle.flow.specs.Net.{Net, Shaped}
use Rattle.flow.specs.Steps.{begins, finishes, IsOpen}
use Rattle.flow.specs.Routes.{GoesFirst}
use Rattle.flow.specs.Labels.{IsAdmissible, relabelled, ExactLabels}
use Rattle.flow.proofs.Walks.{ends_in}
use Rattle.flow.proofs.Labelling.{relabelled_here, relabelled_there}
use Rattle.routes.specs.declared.step.StepEnd.TheVariants.{Finish}
use Rattle.routes.specs.Ends.{OpensAt}
use Rattle.routes.proofs.Passing.{AllPassed, more_passed, all_passed}

-- the queue is q, f the labels, and the junctions before place i of the queue have been looked at
pub record Spread (g : Net) (f : ℕ → ℕ) (q : List ℕ) (i : ℕ) : Type 0 where
  pub outfall : f g.outfall ≡ 0
  pub most : (v : ℕ) → f v ≤ g.junctions
  -- the queue holds each labelled junction once
  pub apart : (j k : ℕ) → j < k → k < length q → get_or q j 0 ≢ get_or q k 0
  pub low : (k : ℕ) → k < length q → get_or q k 0 < g.junctions
  pub queued : (v : ℕ) → v < g.junctions → f v < g.junctions → (k : ℕ) × (k < length q) × (get_or q k 0 ≡ v)
  -- labels rise along it, no faster than places, and to no more than 1 above the labels from place i on
  pub far : (k : ℕ) → k < length q → f (get_or q k 0) ≤ k
  pub rising : (j k : ℕ) → j ≤ k → k < length q → f (get_or q j 0) ≤ f (get_or q k 0)
  pub near : (j k : ℕ) → i ≤ j → j < length q → k < length q → f (get_or q k 0) ≤ f (get_or q j 0) + 1
  -- each junction in it has an admissible step, but for the outfall
  pub next : (k : ℕ) → k < length q → get_or q k 0 ≢ g.outfall →
      (s : ℕ) × (begins g.reaches s ≡ get_or q k 0) × IsAdmissible f g.reaches s
  -- along no open step to a junction that has been looked at does the label fall by more than 1
  pub done : (k s : ℕ) → k < i → k < length q → IsOpen g.reaches s → finishes g.reaches s ≡ get_or q k 0 →
      f (begins g.reaches s) ≤ f (finishes g.reaches s) + 1

-- different numbers below n are at most n
pub few : (q : List ℕ) (n : ℕ) → ((j k : ℕ) → j < k → k < length q → get_or q j 0 ≢ get_or q k 0) →
    ((k : ℕ) → k < length q → get_or q k 0 < n) → length q ≤ n
few q n apart low =
    length-le_from_distinct_below q n (IsDistinct-from_apart eqb q differ) (λ u is. below u (Any-from_list_any (eqb u) q is))
  where
    differ : (j k d : ℕ) → j < k → k < length q → eqb (get_or q j d) (get_or q k d) ≡ false
    differ j k d b l =
        let one = get_or_default q j d 0 (omega arith) in
        let other = get_or_default q k d 0 l in
        ne_eqb (get_or q j d) (get_or q k d) (λ same. apart j k b l (sym one ∙ same ∙ other))

    below : (u : ℕ) → Any (λ x. eqb u x ≡ true) q → u < n
    below u (k, x, l, at, is) = omega (arith, low k l, eqb-true u x is, at, get_or_default q k x 0 l)

-- a list with one more number at its end
module _ (q : List ℕ) (u : ℕ) where
  long : length (q ++ u ∷ []) ≡ length q + 1
  long = length-append q (u ∷ [])

  older : (k : ℕ) → k < length q → get_or (q ++ u ∷ []) k 0 ≡ get_or q k 0
  older k l = get_or-append q (u ∷ []) 0 k l

  newest : get_or (q ++ u ∷ []) (length q) 0 ≡ u
  newest = get_or-append_seam q u [] 0

  -- what holds of the numbers of q at their places, and of u behind them, holds of all
  each : (P : ℕ → ℕ → Type 0) → ((k : ℕ) → k < length q → P k (get_or q k 0)) → P (length q) u →
      (k : ℕ) → k < length (q ++ u ∷ []) → P k (get_or (q ++ u ∷ []) k 0)
  each P old new k l = ⊎_elim (λ (b : k < length q). subst (P k) (sym (older k b)) (old k b))
      (λ (a : length q ≤ k).
      let last : k ≡ length q = omega (arith, long) in
      subst (λ j. P j (get_or (q ++ u ∷ []) j 0)) (sym last) (subst (P (length q)) (sym newest) new)) (cases_lt k (length q))

module _ (g : Net) (shaped : Shaped g) where
  module _ (f : ℕ → ℕ) (q : List ℕ) (i : ℕ) (h : Spread g f q i) where
    pub short : length q ≤ g.junctions
    short = few q g.junctions h.apart h.low

    -- when all have been, labels are exact
    pub spread_exact : length q ≤ i → ExactLabels g f
    spread_exact end = record {
      labels = record { outfall = h.outfall; falls = λ s opens. falls s opens (cases_lt (f (finishes g.reaches s)) g.junctions) };
      next = λ v low ne less. next v ne (h.queued v low less);
    }
      where
        falls : (s : ℕ) → IsOpen g.reaches s → (f (finishes g.reaches s) < g.junctions) ⊎ (g.junctions ≤ f (finishes g.reaches s)) →
            f (begins g.reaches s) ≤ f (finishes g.reaches s) + 1
        falls s opens (inl less) =
            let x = h.queued (finishes g.reaches s) (ends_in g.junctions g.reaches s shaped.joined opens).1 less in
            h.done x.0 s (omega (arith, x.1)) x.1 opens (sym x.2)
        falls s opens (inr more) = omega (arith, h.most (begins g.reaches s))

        next : (v : ℕ) → v ≢ g.outfall → (k : ℕ) × (k < length q) × (get_or q k 0 ≡ v) →
            (s : ℕ) × (begins g.reaches s ≡ v) × IsAdmissible f g.reaches s
        next v ne (k, l, at) = let x = h.next k l (λ out. ne (sym at ∙ out)) in (x.0, x.1 ∙ at, x.2)

    module _ (l : i < length q) where
      -- a junction that is labelled already has no label above 1 + that of the junction that is looked at
      pub known : (v : ℕ) → v < g.junctions → f v ≢ g.junctions → f v ≤ f (get_or q i 0) + 1
      known v low ne =
          let x = h.queued v low (let m = h.most v in omega arith) in
          omega (arith, h.near i x.0 (omega arith) l x.1, ap f x.2)

      -- a junction u that is not gets that label, c, when an open step x leads from it to the junction that is looked at
      module _ (x u c : ℕ) (o : OpensAt Finish g.reaches (get_or q i 0) x) (from : begins g.reaches x ≡ u)
          (blank : f u ≡ g.junctions) (above : c ≡ f (get_or q i 0) + 1) where
        fresh : (k : ℕ) → k < length q → get_or q k 0 ≢ u
        fresh k b same = omega (arith, h.far k b, short, ap f same, blank)

        apart : (j k : ℕ) → j < k → k < length (q ++ u ∷ []) → get_or (q ++ u ∷ []) j 0 ≢ get_or (q ++ u ∷ []) k 0
        apart j k b e = each q u (λ k w. j < k → get_or (q ++ u ∷ []) j 0 ≢ w)
            (λ k l b same. h.apart j k b l (sym (older q u j (omega arith)) ∙ same))
            (λ b same. fresh j b (sym (older q u j b) ∙ same)) k e b

        low : (k : ℕ) → k < length (q ++ u ∷ []) → get_or (q ++ u ∷ []) k 0 < g.junctions
        low = each q u (λ k w. w < g.junctions) h.low
            (omega (arith, (ends_in g.junctions g.reaches x shaped.joined o.opens).0, from))

        pub room : length q < g.junctions
        room = omega (arith, few (q ++ u ∷ []) g.junctions apart low, long q u)

        abbrev more : ℕ → ℕ
        more = relabelled u c f

        -- the labels of the queue, old and new; no label has become higher
        old : (k : ℕ) → k < length q → more (get_or q k 0) ≡ f (get_or q k 0)
        old k b = relabelled_there f u c (get_or q k 0) (fresh k b)

        new : more u ≡ c
        new = relabelled_here f u c u refl

        c_low : c < g.junctions
        c_low = omega (arith, h.far i l, room)

        pub lower : (v : ℕ) → relabelled u c f v ≤ f v
        lower v = ⊎_elim (λ (same : v ≡ u). omega (arith, relabelled_here f u c v same, ap f same, blank, c_low))
            (λ (ne : v ≢ u). omega (arith, relabelled_there f u c v ne)) (cases_eq v u)

        next : (k : ℕ) → k < length q → get_or q k 0 ≢ g.outfall →
            (s : ℕ) × (begins g.reaches s ≡ get_or q k 0) × IsAdmissible more g.reaches s
        next k b ne =
            let (s, at, a) = h.next k b ne in
            let start : more (begins g.reaches s) ≡ f (begins g.reaches s) = ap more at ∙ old k b ∙ ap f (sym at) in
            let below : f (begins g.reaches s) ≤ k = omega (arith, ap f at, h.far k b) in
            let end = relabelled_there f u c (finishes g.reaches s)
            (λ same. omega (arith, a.falls, ap f same, blank, short, below)) in
            (s, at, record { opens = a.opens; falls = omega (arith, start, end, a.falls) })

        pub spread_more : Spread g (relabelled u c f) (q ++ u ∷ []) i
        spread_more = record {
          outfall = let z = lower g.outfall in omega (arith, h.outfall);
          most = λ v. omega (arith, lower v, h.most v);
          apart = apart;
          low = low;
          queued = λ v inside less. ⊎_elim (λ (same : v ≡ u). (length q, omega (arith, long q u), newest q u ∙ sym same))
              (λ (ne : v ≢ u).
              let y = h.queued v inside (omega (arith, relabelled_there f u c v ne)) in
              (y.0, omega (arith, long q u, y.1), older q u y.0 y.1 ∙ y.2)) (cases_eq v u);
          far = each q u (λ k w. more w ≤ k) (λ k b. omega (arith, old k b, h.far k b)) (omega (arith, new, h.far i l));
          rising = λ j k b m. each q u (λ k w. j ≤ k → more (get_or (q ++ u ∷ []) j 0) ≤ more w)
              (λ k m b. omega (arith, ap more (older q u j (omega arith)), old j (omega arith), old k m, h.rising j k b m))
              (λ b. each q u (λ j w. more w ≤ more u) (λ j m. omega (arith, old j m, new, h.near i j (omega arith) l m))
              (omega arith) j (omega (arith, long q u))) k m b;
          near = λ j k b m n. each q u (λ j w. i ≤ j → more (get_or (q ++ u ∷ []) k 0) ≤ more w + 1)
              (λ j m b. each q u (λ k w. more w ≤ more (get_or q j 0) + 1)
              (λ k n. omega (arith, old j m, old k n, h.near j k b m n))
              (omega (arith, new, old j m, h.rising i j b m)) k n)
              (λ b. each q u (λ k w. more w ≤ more u + 1) (λ k n. omega (arith, old k n, new, h.near i k (omega arith) l n))
              (omega arith) k n) j m b;
          next = each q u (λ k w. w ≢ g.outfall → (s : ℕ) × (begins g.reaches s ≡ w) × IsAdmissible more g.reaches s) next
              (λ ne. (x, from, record { opens = o.opens; falls = omega (arith, ap more from, new, ap more o.there, old i l) }));
          done = λ k s b m opens to.
              let low : k < length q = omega arith in
              let end = to ∙ older q u k low in
              let was = h.done k s b low opens end in
              omega (arith, was, lower (begins g.reaches s), ap more end, old k low, ap f end);
        }

-- the junction v at place i is being looked at; it has the label above − 1, and its open steps that go before c have been
-- passed
pub record Entering (g : Net) (f : ℕ → ℕ) (q : List ℕ) (i v above c : ℕ) : Type 0 where
  pub spread : Spread g f q i
  pub within : i < length q
  pub here : get_or q i 0 ≡ v
  pub label : above ≡ f v + 1
  pub passed : AllPassed Finish g.reaches v (λ t. f (begins g.reaches t) ≤ above) c

module _ (g : Net) (shaped : Shaped g) (f : ℕ → ℕ) (q : List ℕ) (i v above c : ℕ) (e : Entering g f q i v above c) where
  -- step x, from junction u, is passed
  module _ (next x u : ℕ) (o : OpensAt Finish g.reaches v x) (from : u ≡ begins g.reaches x)
      (now : (s : ℕ) → OpensAt Finish g.reaches v s → (GoesFirst s next ↔ GoesFirst s c ⊎ (s ≡ x))) where
    here : OpensAt Finish g.reaches (get_or q i 0) x
    here = record { opens = o.opens; there = o.there ∙ sym e.here }

    level : above ≡ f (get_or q i 0) + 1
    level = e.label ∙ ap (λ w. f w + 1) (sym e.here)

    pub entering_known : f u ≢ g.junctions → Entering g f q i v above next
    entering_known ne = record {
      spread = e.spread;
      within = e.within;
      here = e.here;
      label = e.label;
      passed = more_passed Finish g.reaches v (λ t. f (begins g.reaches t) ≤ above) c next x now e.passed
          (let low = (ends_in g.junctions g.reaches x shaped.joined o.opens).0 in
          let k = known g shaped f q i e.spread e.within (begins g.reaches x) low (λ same. ne (ap f from ∙ same)) in
          omega (arith, k, level));
    }

    module _ (blank : f u ≡ g.junctions) where
      pub entering_room : length q < g.junctions
      entering_room = room g shaped f q i e.spread e.within x u above here (sym from) blank level

      pub entering_more : (after : ℕ → ℕ) (longer : List ℕ) → after ≡ relabelled u above f → longer ≡ q ++ u ∷ [] →
          Entering g after longer i v above next
      entering_more after longer is more = rw (is, more) (record {
        spread = spread_more g shaped f q i e.spread e.within x u above here (sym from) blank level;
        within = omega (arith, length-append q (u ∷ []), e.within);
        here = older q u i e.within ∙ e.here;
        label = let kept = old g shaped f q i e.spread e.within x u above here (sym from) blank level i e.within in
            omega (arith, level, kept, ap (relabelled u above f) e.here);
        passed = more_passed Finish g.reaches v (λ t. relabelled u above f (begins g.reaches t) ≤ above) c next x now
            (λ t p b. omega (
              arith,
              e.passed t p b,
              lower g shaped f q i e.spread e.within x u above here (sym from) blank level (begins g.reaches t),
            ))
            (omega (arith, relabelled_here f u above (begins g.reaches x) (sym from)));
      })
