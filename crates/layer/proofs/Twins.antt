-- Twins of junctions, and that chambers over a sound network make a sound network.
use Rattle.std.proofs.Common.{◌≡◌, ℕ, zero, suc, ◌+◌, ◌<◌, ◌≤◌, eqb, ◌⊎◌, List, [], ◌∷◌, map, length, Some, None, Option, sym, refl, ap, ◌∙◌, inl, inr, ⊎_elim, arith}
use Rattle.std.specs.List.{All}
use Rattle.std.proofs.lemmas.List.Elements.{All-from_get_or}
use Rattle.std.proofs.lemmas.Bool.{cases_eq, cond-true, cond-false, eq-eqb, ne_eqb}
use Rattle.flow.specs.Net.{Arc, Net, no_arc, arc_at, FairArc, Sound}
use Rattle.flow.proofs.Fairness.{fair_all, sound_from_fair}
use Rattle.layer.specs.Layering.{leaving_from}
use Rattle.layer.proofs.Lifting.{retailed, all_length, all_fair}
use Rattle.layer.specs.Chambered.{twin_of, or_self, left_from, chambered, ChamberArc, Chambering}

-- v has no chamber; or it has the one whose reach is told
abbrev pub Without : List Arc → ℕ → Type 0
Without own v = (twin_of own v ≡ None) × ((e : ℕ) → e < length own → (arc_at own e).tail ≡ v → ⊥)

abbrev pub With : List Arc → ℕ → Type 0
With own v = (e : ℕ) × (e < length own) × ((arc_at own e).tail ≡ v) × (twin_of own v ≡ Some (arc_at own e).head)

found : (r : Arc) (rs : List Arc) (v : ℕ) → (r.tail ≡ v) ⊎ (r.tail ≡ v → ⊥) → Without rs v ⊎ With rs v →
    Without (r ∷ rs) v ⊎ With (r ∷ rs) v
found r rs v (inl is) rest =
    inr (0, omega arith, is, cond-true (eqb r.tail v) (Some r.head) (twin_of rs v) (eq-eqb r.tail v is))
found r rs v (inr ne) (inl w) =
    let past = cond-false (eqb r.tail v) (Some r.head) (twin_of rs v) (ne_eqb r.tail v ne) in
    inl (past ∙ w.0, none)
  where
    none : (e : ℕ) → e < length (r ∷ rs) → (arc_at (r ∷ rs) e).tail ≡ v → ⊥
    none zero h = ne
    none (suc e) h = w.1 e (omega arith)
found r rs v (inr ne) (inr w) =
    let past = cond-false (eqb r.tail v) (Some r.head) (twin_of rs v) (ne_eqb r.tail v ne) in
    inr (suc w.0, omega (arith, w.1), w.2, past ∙ w.3)

pub cases_twin : (own : List Arc) (v : ℕ) → Without own v ⊎ With own v
cases_twin [] v = inl (refl, λ e h. absurd (let z : ⊥ = omega arith in z))
cases_twin (r ∷ rs) v = found r rs v (cases_eq r.tail v) (cases_twin rs v)

module _ (n : ℕ) (own : List Arc) (each : (e : ℕ) → e < length own → ChamberArc n e (arc_at own e)) where
  -- what leaves a junction leaves it, or one of the new junctions
  pub left_from_is : (v : ℕ) → (left_from own v ≡ v) ⊎ ((n ≤ left_from own v) × (left_from own v < n + length own))
  left_from_is v = ⊎_elim
      (λ (w : Without own v). inl (ap (λ (o : Option ℕ). or_self o v) w.0))
      (λ (w : With own v).
      let is : left_from own v ≡ (arc_at own w.0).head = ap (λ (o : Option ℕ). or_self o v) w.3 in
      let arc = each w.0 w.1 in
      inr (omega (arith, is, arc.1), omega (arith, is, arc.1, w.1)))
      (cases_twin own v)

  lifted_fair : (r : Arc) → FairArc n r → FairArc (n + length own) (leaving_from (left_from own) r)
  lifted_fair r s =
      let from = left_from_is r.tail in (
        (
          ⊎_elim (λ e. omega (arith, e, s.0.0)) (λ p. p.1) from,
          omega (arith, s.0.1),
          ⊎_elim (λ e same. s.0.2 (sym e ∙ same)) (λ p same. let z : ⊥ = omega (arith, p.0, s.0.1, same) in z) from,
        ),
        s.1,
        s.2,
      )

  own_fair : All (FairArc (n + length own)) own
  own_fair = All-from_get_or (FairArc (n + length own)) own no_arc (λ e low.
      let arc = each e low in (
        (omega (arith, arc.0), omega (arith, arc.1), λ same. let z : ⊥ = omega (arith, arc.0, arc.1, same) in z),
        arc.2,
        arc.3,
      ))

pub chambering_sound : (g : Net) (own : List Arc) → Sound g → Chambering g.junctions (length g.reaches) own →
    Sound (chambered g own)
chambering_sound g own s f =
    let n = g.junctions in
    let up = retailed (left_from own) in
    let out = left_from_is n own f.each g.outfall in
    sound_from_fair (chambered g own) (omega (arith, s.shaped.two)) f.small
    (omega (arith, f.short, all_length (leaving_from (left_from own)) (map (leaving_from (left_from own))) up g.reaches own))
    (omega (arith, s.shaped.intake_in))
    (⊎_elim (λ e. omega (arith, e, s.shaped.outfall_in)) (λ p. p.1) out)
    (λ same. ⊎_elim (λ e. s.shaped.ends_differ (same ∙ e)) (λ p. let z : ⊥ = omega (arith, p.0, s.shaped.intake_in, same) in z) out)
    (all_fair (leaving_from (left_from own)) (map (leaving_from (left_from own))) up g.reaches own n (n + length own)
    (lifted_fair n own f.each) (fair_all g s) (own_fair n own f.each))
