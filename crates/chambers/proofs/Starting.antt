-- A layer without a chamber is the network below.
use Rattle.std.proofs.Common.{◌≡◌, ℕ, ◌+◌, ◌<◌, List, [], ◌++◌, map, length, get_or, replicate, None, Option, ap, ◌∙◌, append-nil, arith}
use Rattle.std.proofs.lemmas.List.{map-id, get_or-replicate}
use Rattle.flow.specs.Net.{Arc, Net}
use Rattle.network.specs.declared.interface.Network.{Ghosts}
use Rattle.layer.specs.declared.extended.Extended.{Extended}
use Rattle.layer.specs.Keeping.{own_arcs}
use Rattle.layer.specs.Layering.{leaving_from}
use Rattle.layer.specs.Chambered.{twin_of, left_from, chambered, Chambering}

-- y is the extended network in the layer
module _ {N : Type 0} {R : Ghosts N} (y : Extended N R) (none : own_arcs y.own ≡ []) where
  abbrev g : Net
  g = R.meaning y.below

  pub none_fit : Chambering g.junctions (length g.reaches) (own_arcs y.own)
  none_fit =
      let s = (R.sound y.below).shaped in
      rw none (record {
        small = omega (arith, s.few);
        short = omega (arith, s.listed);
        each = λ e low. absurd (let z : ⊥ = omega arith in z);
        alone = λ e low. absurd (let z : ⊥ = omega arith in z);
      })

  pub none_told : (v : ℕ) → v < 512 → get_or (replicate 512 None) v None ≡ twin_of (own_arcs y.own) v
  none_told v low = rw none (get_or-replicate {A = Option ℕ} 512 v None None low)

  pub none_net : chambered g (own_arcs y.own) ≡ g
  none_net =
      let make : ℕ → List Arc → Net = λ n rs. record { junctions = n; intake = g.intake; outfall = g.outfall; reaches = rs } in
      let rs = map (leaving_from (left_from [])) g.reaches in
      let same : g.junctions + 0 ≡ g.junctions = omega arith in
      rw none (ap (λ (n : ℕ). make n (rs ++ [])) same ∙ ap (make g.junctions) (append-nil rs ∙ map-id g.reaches))
