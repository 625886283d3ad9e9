-- A change of one reach of a network with chambers. The chambers' reaches keep their ends by it.
use Rattle.std.proofs.Common.{◌≡◌, ℕ, suc, ◌<◌, List, [], ◌∷◌, ◌++◌, map, length, slice_index_or, None, Option, Result, sym, refl, ap, ◌∙◌, subst, arith}
use mathlib.Core.List.{map_congr_left}
use Rattle.refusal.specs.declared.Part.TheVariants as parts
use Rattle.refusal.specs.declared.Refusal.{Refusal}
use Rattle.flow.specs.Net.{Arc, Net, arc_at}
use Rattle.flow.specs.Changes.{with_reaches}
use Rattle.network.specs.declared.interface.Network.{Ghosts}
use Rattle.network.specs.declared.size.Size.{Size}
use Rattle.network.specs.declared.change.Change.{Change}
use Rattle.network.specs.Answers.{size_of}
use Rattle.network.specs.Changing.{Changed}
use Rattle.network.proofs.Setting.{changed_net}
use Rattle.layer.specs.declared.extended.Extended.{Extended}
use Rattle.layer.specs.Keeping.{own_arcs, SameEnds}
use Rattle.layer.specs.Extending.{ExtendedChange}
use Rattle.layer.specs.Layering.{leaving_from}
use Rattle.layer.specs.Chambered.{twin_of, or_self, left_from, chambered, Chambering}
use Rattle.layer.proofs.Lifting.{retailed}
use Rattle.chambers.specs.declared.chambers.Chambers.{Chambers}
use Rattle.chambers.specs.Standing.{chambers_net, chambers_giver}

-- chambers whose reaches have the same ends have the same twins
pub twins_same : (own after : List Arc) → SameEnds own after → (v : ℕ) → twin_of after v ≡ twin_of own v
twins_same [] [] s v = refl
twins_same [] (x ∷ xs) s v = absurd (let z : ⊥ = omega (arith, s.0) in z)
twins_same (r ∷ rs) [] s v = absurd (let z : ⊥ = omega (arith, s.0) in z)
twins_same (r ∷ rs) (x ∷ xs) s v =
    let here = s.1 0 (omega arith) in
    cc (here.0, here.1, twins_same rs xs (omega (arith, s.0), λ e low. s.1 (suc e) (omega arith)) v)

-- x is the layer before a change, and y the extended network in it after the change
module _ {N : Type 0} {R : Ghosts N} (x : Chambers N R) (y : Extended N R) (base : y.base ≡ x.extended.base)
    (ends : SameEnds (own_arcs x.extended.own) (own_arcs y.own)) where
  abbrev own : List Arc
  own = own_arcs x.extended.own

  abbrev after : List Arc
  after = own_arcs y.own

  abbrev g : Net
  g = R.meaning x.extended.below

  abbrev h : Net
  h = R.meaning y.below

  size : size_of h ≡ size_of g
  size = sym y.known ∙ base ∙ x.extended.known

  junctions : h.junctions ≡ g.junctions
  junctions = ap (λ (z : Size). z.junctions) size

  -- the chambers still fit, and the array still tells the twins
  pub fit_still : Chambering h.junctions (length h.reaches) after
  fit_still = record {
    small = omega (arith, junctions, ends.0, x.fit.small);
    short = omega (arith, ap (λ (z : Size). z.reaches) size, ends.0, x.fit.short);
    each = λ e low.
        let there : e < length own = omega (arith, ends.0) in
        let arc = x.fit.each e there in
        let same = ends.1 e there in
        let bounds = y.bounded e low in
        (omega (arith, junctions, same.0, arc.0), omega (arith, junctions, same.1, arc.1), bounds.0, bounds.1);
    alone = λ e low.
        let there : e < length own = omega (arith, ends.0) in
        let same = ends.1 e there in
        cc (twins_same own after ends (arc_at after e).tail, same.0, same.1, x.fit.alone e there);
  }

  pub told_still : (v : ℕ) → v < 512 → slice_index_or x.twins v None ≡ twin_of after v
  told_still v low = x.told v low ∙ sym (twins_same own after ends v)

  left_same : (v : ℕ) → left_from after v ≡ left_from own v
  left_same v = ap (λ (o : Option ℕ). or_self o v) (twins_same own after ends v)

  lifted_same : (rs : List Arc) → map (leaving_from (left_from after)) rs ≡ map (leaving_from (left_from own)) rs
  lifted_same rs = map_congr_left (λ r _. ap (λ (t : ℕ). leaving_from (λ _. t) r) (left_same r.tail))

  chambered_same : chambered h after ≡ with_reaches (chambered g own) (map (leaving_from (left_from own)) h.reaches ++ after)
  chambered_same =
      let intake = ap (λ (z : Size). z.intake) size in
      let outfall = ap (λ (z : Size). z.outfall) size in
      rw (lifted_same h.reaches, left_same h.outfall, ends.0, junctions, intake, outfall)

  -- the change of the list of all reaches is one of the network with its chambers
  pub change_done : (c : Change) (k : ℕ) (r : Result Unit Refusal) → ExtendedChange c parts.Chambers x.extended k r y →
      Changed c (chambers_net x) (chambers_giver x) k r (chambered h after)
  change_done c k r done =
      let f = leaving_from (left_from own) in
      subst (Changed c (chambers_net x) (chambers_giver x) k r) (sym chambered_same)
      (changed_net c (chambers_net x) (chambers_giver x) k r (map f h.reaches ++ after)
      (done f (map f) (retailed (left_from own))))
