-- What passes a junction with a chamber, and what sources deliver.
use Rattle.std.proofs.Common.{◌≡◌, ℕ, ◌<◌, eqb, ◌≢◌, List, [], ◌∷◌, ◌++◌, map, length, pos, ◌-ℤ◌, Option, sym, refl, ap, ◌∙◌, ⊎_elim, arith}
use Rattle.std.proofs.lemmas.List.Elements.{All-weaker, All-map}
use Rattle.std.proofs.lemmas.Int.{ints}
use Rattle.std.proofs.lemmas.Bool.{cond-true, cond-false, eq-eqb, ne_eqb}
use Rattle.flow.specs.Net.{Arc, Net, arc_at, FairArc, Sound}
use Rattle.flow.specs.Flows.{sum_of, out_of, into, leaving, entering, delivered}
use Rattle.flow.proofs.Fairness.{fair_all}
use Rattle.flow.proofs.Sums.{sum_of-append, sum_of-zero, sum_of-one, sum_of-same}
use Rattle.layer.specs.Layering.{leaving_from}
use Rattle.layer.specs.Chambered.{twin_of, or_self, left_from, chambered, Chambering}
use Rattle.layer.specs.Gathered.{gathered, SourceArc, SinkArc}
use Rattle.layer.specs.Laws.{ChamberPasses, SourcesDeliver}
use Rattle.layer.proofs.Twins.{left_from_is}

-- a reach that leaves, or enters, another junction adds nothing, and one that leaves or enters this one what it carries
out_other : (v : ℕ) (r : Arc) → r.tail ≢ v → out_of v r ≡ 0
out_other v r ne = cond-false (eqb r.tail v) r.carried 0 (ne_eqb r.tail v ne)

out_here : (v : ℕ) (r : Arc) → r.tail ≡ v → out_of v r ≡ r.carried
out_here v r is = cond-true (eqb r.tail v) r.carried 0 (eq-eqb r.tail v is)

in_other : (v : ℕ) (r : Arc) → r.head ≢ v → into v r ≡ 0
in_other v r ne = cond-false (eqb r.head v) r.carried 0 (ne_eqb r.head v ne)

in_here : (v : ℕ) (r : Arc) → r.head ≡ v → into v r ≡ r.carried
in_here v r is = cond-true (eqb r.head v) r.carried 0 (eq-eqb r.head v is)

module _ (g : Net) (own : List Arc) (e : ℕ) (s : Sound g) (f : Chambering g.junctions (length g.reaches) own)
    (low : e < length own) where
  abbrev n : ℕ
  n = g.junctions

  abbrev v : ℕ
  v = (arc_at own e).tail

  abbrev lift : Arc → Arc
  lift = leaving_from (left_from own)

  -- what leaves v in the network below leaves its twin, and nothing else leaves v but the chamber's reach
  away : (t : ℕ) → left_from own t ≢ v
  away t is = ⊎_elim
      (λ same.
      let at_v : t ≡ v = sym same ∙ is in
      let twin : left_from own v ≡ (arc_at own e).head = ap (λ (o : Option ℕ). or_self o v) (f.alone e low) in
      let z : ⊥ = omega (arith, ap (left_from own) at_v, is, twin, (f.each e low).0, (f.each e low).1) in z)
      (λ p. let z : ⊥ = omega (arith, p.0, is, (f.each e low).0) in z)
      (left_from_is n own f.each t)

  alone : (i : ℕ) → i < length own → i ≢ e → (arc_at own i).tail ≢ v
  alone i less ne is =
      let heads : (arc_at own i).head ≡ (arc_at own e).head = cc (f.alone i less, f.alone e low, ap (twin_of own) is) in
      ne (omega (arith, heads, (f.each i less).1, (f.each e low).1))

  pub chamber_leaves : leaving v (chambered g own).reaches ≡ (arc_at own e).carried
  chamber_leaves =
      let below : sum_of (out_of v) (map lift g.reaches) ≡ 0 =
      sum_of-zero (out_of v) (map lift g.reaches) (All-map (λ r. out_of v r ≡ 0) lift g.reaches
      (All-weaker (FairArc n) (λ r. out_of v (lift r) ≡ 0) (λ r _. out_other v (lift r) (away r.tail)) g.reaches (fair_all g s))) in
      let mine : sum_of (out_of v) own ≡ (arc_at own e).carried =
      sum_of-one (out_of v) own e low (λ i less ne. out_other v (arc_at own i) (alone i less ne)) ∙ out_here v (arc_at own e) refl in
      omega (arith, sum_of-append (out_of v) (map lift g.reaches) own, below, mine)

  pub chamber_enters : entering (arc_at own e).head (chambered g own).reaches ≡ (arc_at own e).carried
  chamber_enters =
      let t = (arc_at own e).head in
      let below : sum_of (into t) (map lift g.reaches) ≡ 0 =
      sum_of-zero (into t) (map lift g.reaches) (All-map (λ r. into t r ≡ 0) lift g.reaches
      (All-weaker (FairArc n) (λ r. into t (lift r) ≡ 0)
      (λ r fair. in_other t (lift r) (λ is. let z : ⊥ = omega (arith, is, fair.0.1, (f.each e low).1) in z))
      g.reaches (fair_all g s))) in
      let mine : sum_of (into t) own ≡ (arc_at own e).carried =
      sum_of-one (into t) own e low
      (λ i less ne. in_other t (arc_at own i) (λ is. ne (omega (arith, is, (f.each i less).1, (f.each e low).1))))
      ∙ in_here t (arc_at own e) refl in
      omega (arith, sum_of-append (into t) (map lift g.reaches) own, below, mine)

pub chamber_passes : ChamberPasses
chamber_passes = record {
  leaves = chamber_leaves;
  enters = chamber_enters;
  limited = λ g own e s f low. omega (arith, chamber_leaves g own e s f low, (f.each e low).2);
}

-- with at least one feeder there are the new intake and the new outfall
opened : (g : Net) (own : List Arc) → 0 < length own →
    delivered (gathered g own) ≡ pos (leaving g.junctions (g.reaches ++ own)) -ℤ pos (entering g.junctions (g.reaches ++ own))
opened g [] some = absurd (let z : ⊥ = omega arith in z)
opened g (x ∷ xs) some = refl

pub sources_deliver : SourcesDeliver
sources_deliver g sources sinks s f some =
    let n = g.junctions in
    let out_below : sum_of (out_of n) g.reaches ≡ 0 = sum_of-zero (out_of n) g.reaches
    (All-weaker (FairArc n) (λ r. out_of n r ≡ 0) (λ r fair. out_other n r (λ is. let z : ⊥ = omega (arith, is, fair.0.0) in z))
    g.reaches (fair_all g s)) in
    let out-sinks : sum_of (out_of n) sinks ≡ 0 = sum_of-zero (out_of n) sinks
    (All-weaker (SinkArc n) (λ r. out_of n r ≡ 0) (λ r k. out_other n r (λ is. let z : ⊥ = omega (arith, is, k.0) in z)) sinks f.to) in
    let out-sources : sum_of (out_of n) sources ≡ sum_of (λ r. r.carried) sources = sum_of-same (out_of n) (λ r. r.carried) sources
    (All-weaker (SourceArc n) (λ r. out_of n r ≡ r.carried) (λ r k. out_here n r k.0) sources f.from) in
    let in-below : sum_of (into n) g.reaches ≡ 0 = sum_of-zero (into n) g.reaches
    (All-weaker (FairArc n) (λ r. into n r ≡ 0) (λ r fair. in_other n r (λ is. let z : ⊥ = omega (arith, is, fair.0.1) in z))
    g.reaches (fair_all g s)) in
    let in-sources : sum_of (into n) sources ≡ 0 = sum_of-zero (into n) sources
    (All-weaker (SourceArc n) (λ r. into n r ≡ 0) (λ r k. in_other n r (λ is. let z : ⊥ = omega (arith, is, k.1) in z))
    sources f.from) in
    let in-sinks : sum_of (into n) sinks ≡ 0 = sum_of-zero (into n) sinks
    (All-weaker (SinkArc n) (λ r. into n r ≡ 0) (λ r k. in_other n r (λ is. let z : ⊥ = omega (arith, is, k.1) in z)) sinks f.to) in
    let out : leaving n (g.reaches ++ (sources ++ sinks)) ≡ sum_of (λ r. r.carried) sources =
    omega (
      arith,
      sum_of-append (out_of n) g.reaches (sources ++ sinks),
      sum_of-append (out_of n) sources sinks,
      out_below,
      out-sinks,
      out-sources,
    ) in
    let back : entering n (g.reaches ++ (sources ++ sinks)) ≡ 0 =
    omega (
      arith,
      sum_of-append (into n) g.reaches (sources ++ sinks),
      sum_of-append (into n) sources sinks,
      in-below,
      in-sources,
      in-sinks,
    ) in
    opened g (sources ++ sinks) some ∙ omega (arith, ints, out, back)
