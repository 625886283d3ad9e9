-- Which reaches of the network below touch a junction of the network with chambers.
use Rattle.std.proofs.Common.{◌≡◌, ℕ, ◌+◌, ◌-◌, ◌<◌, ◌≤◌, true, false, List, map, length, slice_index_or, is_some, Some, None, Option, sym, refl, ap, ◌∙◌, subst, inl, inr, ⊎_elim, arith}
use lib.ListN.{length-map}
use Rattle.flow.specs.Net.{Arc, Net, arc_at, Sound}
use Rattle.flow.proofs.Fairness.{fair_at}
use Rattle.network.specs.declared.interface.Network.{Ghosts}
use Rattle.network.specs.declared.row.Row.{Row}
use Rattle.network.specs.declared.size.Size.{Size}
use Rattle.network.specs.Touching.{Touches, FirstFrom, Touched}
use Rattle.layer.specs.declared.ends.End.TheVariants.{Tail, Head}
use Rattle.layer.specs.Ends.{end_of}
use Rattle.layer.specs.Keeping.{own_arcs, RowAt}
use Rattle.layer.specs.Layering.{leaving_from}
use Rattle.layer.specs.Chambered.{twin_of, or_self, left_from}
use Rattle.layer.proofs.Lifting.{retailed}
use Rattle.layer.proofs.Firsts.{first_alike}
use Rattle.layer.proofs.Twins.{Without, With, cases_twin, left_from_is}
use Rattle.chambers.specs.declared.chambers.Chambers.{Chambers}

pub no_twin : (o : Option ℕ) → is_some o ≡ false → o ≡ None
no_twin (Some t) h = absurd (let z : ◌≡◌ {A = ℕ} 0 1 = cc in omega arith)
no_twin None h = refl

-- of the layer x: r is the answer for the reaches from k on, as its code finds it by its array and its own rows
module _ {N : Type 0} {R : Ghosts N} (x : Chambers N R) (v k : ℕ) (r : Option ℕ) where
  abbrev g : Net
  g = R.meaning x.extended.below

  abbrev rs : List Arc
  rs = g.reaches

  abbrev n : ℕ
  n = g.junctions

  abbrev own : List Arc
  own = own_arcs x.extended.own

  abbrev lifted : List Arc
  lifted = map (leaving_from (left_from own)) rs

  s : Sound g
  s = R.sound x.extended.below

  junctions : x.extended.base.junctions ≡ n
  junctions = ap (λ (z : Size). z.junctions) x.extended.known

  there : (e : ℕ) → e < length rs → arc_at lifted e ≡ leaving_from (left_from own) (arc_at rs e)
  there = (retailed (left_from own)).there rs

  -- where the reaches with the property are those that touch v once they are lifted, the first of the one is that of the other
  alike : (P : Arc → Type 0) →
      ((e : ℕ) → e < length rs → P (arc_at rs e) → Touches v (leaving_from (left_from own) (arc_at rs e))) →
      ((e : ℕ) → e < length rs → Touches v (leaving_from (left_from own) (arc_at rs e)) → P (arc_at rs e)) →
      FirstFrom P rs k r → Touched v lifted k r
  alike P to back h =
      first_alike P (Touches v) rs lifted (length-map rs (leaving_from (left_from own))) k
      (λ e low p. subst (Touches v) (sym (there e low)) (to e low p))
      (λ e low t. back e low (subst (Touches v) (there e low) t))
      r h

  -- a junction of the network below
  module _ (below : v < x.extended.base.junctions) where
    told : is_some (slice_index_or x.twins v None) ≡ is_some (twin_of own v)
    told = ap is_some (x.told v (omega (arith, junctions, s.shaped.few)))

    -- without a chamber it is touched as it was below
    pub touched_plain : false ≡ is_some (slice_index_or x.twins v None) → Touched v rs k r → Touched v lifted k r
    touched_plain lone =
        let itself : left_from own v ≡ v = ap (λ (o : Option ℕ). or_self o v) (no_twin (twin_of own v) (sym (lone ∙ told))) in
        alike (Touches v)
        (λ e less t. ⊎_elim (λ (is : (arc_at rs e).tail ≡ v). inl (ap (left_from own) is ∙ itself)) inr t)
        (λ e less t. ⊎_elim
        (λ (is : left_from own (arc_at rs e).tail ≡ v).
        ⊎_elim (λ same. inl (sym same ∙ is)) (λ p. absurd (let z : ⊥ = omega (arith, p.0, is, junctions) in z))
        (left_from_is n own x.fit.each (arc_at rs e).tail))
        inr t)

    -- what left a chambered junction leaves a new junction
    left_away : is_some (twin_of own v) ≡ true → n ≤ left_from own v
    left_away has = ⊎_elim
        (λ (w : Without own v). absurd (let z : ◌≡◌ {A = ℕ} 0 1 = cc (ap is_some w.0, has) in omega arith))
        (λ (w : With own v).
        let is : left_from own v ≡ (arc_at own w.0).head = ap (λ (o : Option ℕ). or_self o v) w.3 in
        omega (arith, is, (x.fit.each w.0 w.1).1))
        (cases_twin own v)

    -- with a chamber it is touched by what entered it below
    pub touched_chambered : true ≡ is_some (slice_index_or x.twins v None) →
        FirstFrom (λ a. end_of Head a ≡ v) rs k r → Touched v lifted k r
    touched_chambered has =
        let away = left_away (sym (has ∙ told)) in
        alike (λ a. end_of Head a ≡ v)
        (λ e less is. inr is)
        (λ e less t. ⊎_elim
        (λ (is : left_from own (arc_at rs e).tail ≡ v).
        ⊎_elim
        (λ same. let at_v : (arc_at rs e).tail ≡ v = sym same ∙ is in
        absurd (let z : ⊥ = omega (arith, ap (left_from own) at_v, is, away, junctions) in z))
        (λ p. absurd (let z : ⊥ = omega (arith, p.0, is, junctions) in z))
        (left_from_is n own x.fit.each (arc_at rs e).tail))
        (λ is. is) t)

  -- a junction behind those of the network below
  module _ (e : ℕ) (behind : x.extended.base.junctions ≤ v) (is : e ≡ v - x.extended.base.junctions) where
    -- a twin is touched by what left its junction below
    pub touched_twin : (row : Row) → RowAt own e (Some row) →
        FirstFrom (λ a. end_of Tail a ≡ row.tail) rs k r → Touched v lifted k r
    touched_twin row at h =
        let w = (arc_at own e).tail in
        let place : v ≡ n + e = omega (arith, junctions) in
        let to-v : left_from own w ≡ v =
        ap (λ (o : Option ℕ). or_self o w) (x.fit.alone e at.0) ∙ (x.fit.each e at.0).1 ∙ sym place in
        alike (λ a. end_of Tail a ≡ w)
        (λ i less from. inl (ap (left_from own) from ∙ to-v))
        (λ i less t. ⊎_elim
        (λ (from : left_from own (arc_at rs i).tail ≡ v).
        ⊎_elim
        (λ (c : Without own (arc_at rs i).tail).
        let tail = ap (λ (o : Option ℕ). or_self o (arc_at rs i).tail) c.0 in
        absurd (let z : ⊥ = omega (arith, tail, from, (fair_at g s i less).0.0, place) in z))
        (λ (c : With own (arc_at rs i).tail).
        let head = ap (λ (o : Option ℕ). or_self o (arc_at rs i).tail) c.3 in
        let same : c.0 ≡ e = omega (arith, head, from, (x.fit.each c.0 c.1).1, place) in
        sym c.2 ∙ ap (λ (j : ℕ). (arc_at own j).tail) same)
        (cases_twin own (arc_at rs i).tail))
        (λ head. absurd (let z : ⊥ = omega (arith, head, (fair_at g s i less).0.1, place) in z)) t)
        (rw (ap (λ (a : Arc). a.tail) (sym at.1)) h)

    -- no reach touches what is no junction
    pub touched_outside : RowAt own e None → r ≡ None → Touched v lifted k r
    touched_outside past none =
        let out : n + length own ≤ v = omega (arith, junctions, past) in
        alike (λ a. ⊥) (λ i less a. absurd a)
        (λ i less t. ⊎_elim
        (λ from. ⊎_elim
        (λ same. let z : ⊥ = omega (arith, same, from, (fair_at g s i less).0.0, out) in z)
        (λ p. let z : ⊥ = omega (arith, p.1, from, out) in z)
        (left_from_is n own x.fit.each (arc_at rs i).tail))
        (λ to. let z : ⊥ = omega (arith, to, (fair_at g s i less).0.1, out) in z) t)
        (rw none (λ i from low a. a))
