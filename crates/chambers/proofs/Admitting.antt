-- An entry that no check is against: what is known of it, and what it makes of the chambers and of the network.
use Rattle.std.proofs.Common.{◌≡◌, ℕ, ◌+◌, ◌<◌, ◌≤◌, Bool, true, false, cond, eqb, ◌≢◌, List, [], ◌∷◌, ◌++◌, map, length, get_or, set, Some, None, Option, sym, refl, ap, ◌∙◌, subst, ⊎_elim, append_assoc, arith, get_or-set_other, get_or-set_same}
use Rattle.std.specs.List.{All}
use Rattle.std.proofs.lemmas.List.Elements.{All-weaker, All-from_get_or, All-head, All-tail}
use Rattle.std.proofs.lemmas.List.{length_push, get_or_push, get_or_append_left, map-append}
use Rattle.std.proofs.lemmas.List.Folds.{map_fixed}
use Rattle.std.proofs.lemmas.Bool.{cases_eq, cases_lt, eq-eqb, ne_eqb, cond-true, cond-false}
use Rattle.std.proofs.lemmas.Bool.Decides.{nat_tests}
use Rattle.refusal.specs.Checks.{first_of}
use Rattle.flow.specs.Bounds.{most_junctions, most_reaches, highest_setting}
use Rattle.flow.specs.Net.{Arc, Net, no_arc, arc_at, FairArc, Sound}
use Rattle.flow.proofs.Fairness.{fair_all}
use Rattle.network.specs.declared.interface.Network.{Ghosts}
use Rattle.network.specs.declared.size.Size.{Size}
use Rattle.layer.specs.declared.extended.Extended.{Extended}
use Rattle.layer.specs.Keeping.{own_arcs}
use Rattle.layer.specs.Layering.{leaving_from}
use Rattle.layer.specs.Chambered.{twin_of, or_self, left_from, chambered, ChamberArc, Chambering}
use Rattle.layer.proofs.Twins.{left_from_is}
use Rattle.chambers.specs.Bounds.{most_chambers}
use Rattle.chambers.specs.Entering.{chamber_checks, chamber_reach, instead, with_chamber}
use Rattle.chambers.specs.declared.chambers.Chambers.{Chambers}
use Rattle.chambers.specs.Standing.{chambers_net}
use Rattle.chambers.proofs.Touches.{no_twin}

record Admitted (g : Net) (own : List Arc) (v q : ℕ) : Type 0 where
  inside : v < g.junctions
  lone : twin_of own v ≡ None
  low : q ≤ highest_setting
  room : length own < most_chambers
  small : g.junctions + length own + 1 ≤ most_junctions
  short : length g.reaches + length own + 1 ≤ most_reaches

admitted : (g : Net) (own : List Arc) (v q : ℕ) → first_of (chamber_checks g own v q) ≡ None → Admitted g own v q
admitted g own v q h = record {
  inside = grind (arith, nat_tests);
  lone = no_twin (twin_of own v) (grind (arith, nat_tests));
  low = grind (arith, nat_tests);
  room = grind (arith, nat_tests);
  small = grind (arith, nat_tests);
  short = grind (arith, nat_tests);
}

-- twins in a list of chambers and one more
abbrev or_else : Option ℕ → Option ℕ → Option ℕ
or_else (Some t) o = Some t
or_else None o = o

none_or : (o : Option ℕ) → or_else o None ≡ o
none_or (Some t) = refl
none_or None = refl

or_cond : (b : Bool) (t : ℕ) (o p : Option ℕ) → cond b (Some t) (or_else o p) ≡ or_else (cond b (Some t) o) p
or_cond true t o p = refl
or_cond false t o p = refl

twins_both : (own others : List Arc) (w : ℕ) → twin_of (own ++ others) w ≡ or_else (twin_of own w) (twin_of others w)
twins_both [] others w = refl
twins_both (r ∷ rs) others w =
    ap (λ (o : Option ℕ). cond (eqb r.tail w) (Some r.head) o) (twins_both rs others w)
    ∙ or_cond (eqb r.tail w) r.head (twin_of rs w) (twin_of others w)

module _ (own : List Arc) (x : Arc) where
  -- the new chamber's junction has no other
  twin_new : twin_of own x.tail ≡ None → twin_of (own ++ (x ∷ [])) x.tail ≡ Some x.head
  twin_new lone =
      twins_both own (x ∷ []) x.tail ∙ ap (λ (o : Option ℕ). or_else o (twin_of (x ∷ []) x.tail)) lone
      ∙ cond-true (eqb x.tail x.tail) (Some x.head) None (eq-eqb x.tail x.tail refl)

  twin_other : (w : ℕ) → w ≢ x.tail → twin_of (own ++ (x ∷ [])) w ≡ twin_of own w
  twin_other w ne =
      twins_both own (x ∷ []) w
      ∙ ap (or_else (twin_of own w)) (cond-false (eqb x.tail w) (Some x.head) None (ne_eqb x.tail w (λ e. ne (sym e))))
      ∙ none_or (twin_of own w)

  twin_kept : (w t : ℕ) → twin_of own w ≡ Some t → twin_of (own ++ (x ∷ [])) w ≡ Some t
  twin_kept w t h = twins_both own (x ∷ []) w ∙ ap (λ (o : Option ℕ). or_else o (twin_of (x ∷ []) w)) h

-- what holds of each reach of a list and of one more holds of each reach of both
each_push : (P : ℕ → Arc → Type 0) (rs : List Arc) (x : Arc) → ((e : ℕ) → e < length rs → P e (arc_at rs e)) → P (length rs) x →
    (e : ℕ) → e < length (rs ++ (x ∷ [])) → P e (arc_at (rs ++ (x ∷ [])) e)
each_push P rs x each new e low = ⊎_elim
    (λ (less : e < length rs). subst (P e) (sym (get_or_append_left rs (x ∷ []) no_arc e less)) (each e less))
    (λ (more : length rs ≤ e).
    let is : e ≡ length rs = omega (arith, length_push rs x) in
    subst (λ (i : ℕ). P i (arc_at (rs ++ (x ∷ [])) i)) (sym is)
    (subst (P (length rs)) (sym (get_or_push rs x no_arc (length rs) refl)) new))
    (cases_lt e (length rs))

-- two ways to change each reach of a list that agree on each of its reaches
map_twice : (f h k : Arc → Arc) (rs : List Arc) → All (λ r. f r ≡ h (k r)) rs → map f rs ≡ map h (map k rs)
map_twice f h k [] same = refl
map_twice f h k (r ∷ rs) same =
    cc (All-head (λ r. f r ≡ h (k r)) r rs same, map_twice f h k rs (All-tail (λ r. f r ≡ h (k r)) r rs same))

-- chambers that fit a network fit it still with one more that no check is against
pub fit_more : (g : Net) (own : List Arc) (v q : ℕ) → Chambering g.junctions (length g.reaches) own →
    first_of (chamber_checks g own v q) ≡ None →
    Chambering g.junctions (length g.reaches) (own ++ (chamber_reach g own v q ∷ []))
fit_more g own v q fit ok =
    let new = chamber_reach g own v q in
    let a = admitted g own v q ok in
    record {
      small = omega (arith, length_push own new, a.small);
      short = omega (arith, length_push own new, a.short);
      each = each_push (ChamberArc g.junctions) own new fit.each (a.inside, refl, omega arith, omega (arith, a.low));
      alone = each_push (λ _ r. twin_of (own ++ (new ∷ [])) r.tail ≡ Some r.head) own new
          (λ e low. twin_kept own new (arc_at own e).tail (arc_at own e).head (fit.alone e low))
          (twin_new own new a.lone);
    }

-- x is the layer before the entry of a chamber at v with limit q, and y the extended network in it after the entry
module _ {N : Type 0} {R : Ghosts N} (x : Chambers N R) (v q : ℕ)
    (ok : first_of (chamber_checks (R.meaning x.extended.below) (own_arcs x.extended.own) v q) ≡ None)
    (y : Extended N R) (below : y.below ≡ x.extended.below) (mine : own_arcs y.own ≡
    own_arcs x.extended.own ++ (chamber_reach (R.meaning x.extended.below) (own_arcs x.extended.own) v q ∷ [])) where
  abbrev g : Net
  g = R.meaning x.extended.below

  abbrev n : ℕ
  n = g.junctions

  abbrev own : List Arc
  own = own_arcs x.extended.own

  abbrev twin : ℕ
  twin = n + length own

  abbrev new : Arc
  new = chamber_reach g own v q

  abbrev more : List Arc
  more = own ++ (new ∷ [])

  s : Sound g
  s = R.sound x.extended.below

  a : Admitted g own v q
  a = admitted g own v q ok

  same : R.meaning y.below ≡ g
  same = ap R.meaning below

  -- the chambers still fit, and the array with the new twin tells the twins
  pub fit_entered : Chambering (R.meaning y.below).junctions (length (R.meaning y.below).reaches) (own_arcs y.own)
  fit_entered = rw (same, mine) (fit_more g own v q x.fit ok)

  pub told_entered : (i : ℕ) (o : Option ℕ) → i ≡ v → o ≡ Some (x.extended.base.junctions + length own) → length x.twins ≡ 512 →
      (w : ℕ) → w < 512 → get_or (set x.twins i o) w None ≡ twin_of (own_arcs y.own) w
  told_entered i o here is wide w low =
      rw (here, is, ap (λ (z : Size). z.junctions) x.extended.known, mine)
      (⊎_elim
      (λ (at : w ≡ v).
      let there : v < length x.twins = omega (arith, a.inside, a.small) in
      rw at (get_or-set_same x.twins v (Some twin) None there ∙ sym (twin_new own new a.lone)))
      (λ (ne : w ≢ v). get_or-set_other x.twins v w (Some twin) None ne ∙ x.told w low ∙ sym (twin_other own new w ne))
      (cases_eq w v))

  -- what leaves a junction of the network below once the chamber is there
  left_more : (w : ℕ) → w < n → left_from more w ≡ instead v twin (left_from own w)
  left_more w low = ⊎_elim at_v elsewhere (cases_eq w v)
    where
      at_v : w ≡ v → left_from more w ≡ instead v twin (left_from own w)
      at_v is =
          let here : left_from more v ≡ twin = ap (λ (o : Option ℕ). or_self o v) (twin_new own new a.lone) in
          let itself : left_from own v ≡ v = ap (λ (o : Option ℕ). or_self o v) a.lone in
          let moved : instead v twin (left_from own v) ≡ twin =
          cond-true (eqb (left_from own v) v) twin (left_from own v) (eq-eqb (left_from own v) v itself) in
          subst (λ (u : ℕ). left_from more u ≡ instead v twin (left_from own u)) (sym is) (here ∙ sym moved)

      elsewhere : w ≢ v → left_from more w ≡ instead v twin (left_from own w)
      elsewhere ne =
          let away : left_from own w ≢ v = λ e. ⊎_elim (λ still. ne (sym still ∙ e))
          (λ p. let z : ⊥ = omega (arith, p.0, e, a.inside) in z) (left_from_is n own x.fit.each w) in
          ap (λ (o : Option ℕ). or_self o w) (twin_other own new w ne)
          ∙ sym (cond-false (eqb (left_from own w) v) twin (left_from own w) (ne_eqb (left_from own w) v away))

  -- a reach of the network below leaves v's twin in place of v, and a chamber's reach leaves what it left
  below_again : All (λ r. leaving_from (left_from more) r ≡ leaving_from (instead v twin) (leaving_from (left_from own) r)) g.reaches
  below_again = All-weaker (FairArc n)
      (λ r. leaving_from (left_from more) r ≡ leaving_from (instead v twin) (leaving_from (left_from own) r))
      (λ r fair. ap (λ (t : ℕ). leaving_from (λ _. t) r) (left_more r.tail fair.0.0)) g.reaches (fair_all g s)

  own_still : All (λ r. leaving_from (instead v twin) r ≡ r) own
  own_still = All-from_get_or (λ r. leaving_from (instead v twin) r ≡ r) own no_arc (λ e low.
      let r = arc_at own e in
      let away : r.tail ≢ v = λ is.
      let z : ◌≡◌ {A = ℕ} 0 1 = cc (x.fit.alone e low, a.lone, ap (twin_of own) is) in
      let none : ⊥ = omega arith in none in
      ap (λ (t : ℕ). leaving_from (λ _. t) r) (cond-false (eqb r.tail v) twin r.tail (ne_eqb r.tail v away)))

  reaches_more : map (leaving_from (left_from more)) g.reaches ++ more ≡ (with_chamber v q (chambers_net x)).reaches
  reaches_more =
      let step = leaving_from (instead v twin) in
      let was = map (leaving_from (left_from own)) g.reaches in
      ap (λ (xs : List Arc). xs ++ more)
      (map_twice (leaving_from (left_from more)) step (leaving_from (left_from own)) g.reaches below_again)
      ∙ ap (λ (xs : List Arc). map step was ++ (xs ++ (new ∷ []))) (sym (map_fixed step own own_still))
      ∙ sym (append_assoc (map step was) (map step own) (new ∷ []))
      ∙ ap (λ (xs : List Arc). xs ++ (new ∷ [])) (sym (map-append step was own))

  -- the network with the new chamber, said of the network as it was
  pub net_entered : chambered (R.meaning y.below) (own_arcs y.own) ≡ with_chamber v q (chambers_net x)
  net_entered =
      let make : ℕ → ℕ → List Arc → Net = λ j o rs. record { junctions = j; intake = g.intake; outfall = o; reaches = rs } in
      let rs = map (leaving_from (left_from more)) g.reaches ++ more in
      let junctions : n + length more ≡ twin + 1 = omega (arith, length_push own new) in
      rw (same, mine)
      (ap (λ (j : ℕ). make j (left_from more g.outfall) rs) junctions
      ∙ ap (λ (o : ℕ). make (twin + 1) o rs) (left_more g.outfall s.shaped.outfall_in)
      ∙ ap (make (twin + 1) (instead v twin (left_from own g.outfall))) reaches_more)
