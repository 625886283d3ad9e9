-- What a layer of chambers means as a network, and that it is a sound one.
use Rattle.std.specs.Prelude.{ℕ}
use Rattle.refusal.specs.declared.Part.{Part}
use Rattle.refusal.specs.declared.Part.TheVariants as parts
use Rattle.flow.specs.Net.{Net, Sound}
use Rattle.network.specs.declared.interface.Network.{Ghosts}
use Rattle.layer.specs.Keeping.{own_arcs}
use Rattle.layer.specs.Layering.{layer_giver}
use Rattle.layer.specs.Chambered.{chambered}
use Rattle.layer.proofs.Twins.{chambering_sound}
use Rattle.chambers.specs.declared.chambers.Chambers.{Chambers}

-- of a layer over any network, by what that network means and which part answers for its reaches
module _ {N : Type 0} {R : Ghosts N} where
  abbrev pub chambers_net : Chambers N R → Net
  chambers_net x = chambered (R.meaning x.extended.below) (own_arcs x.extended.own)

  -- the layer answers for the chambers' reaches
  abbrev pub chambers_giver : Chambers N R → ℕ → Part
  chambers_giver x = layer_giver parts.Chambers (R.meaning x.extended.below) (R.giver x.extended.below)

  -- the chambers fit the network below, so it is a sound network
  pub chambers_sound : (x : Chambers N R) → Sound (chambers_net x)
  chambers_sound x =
      chambering_sound (R.meaning x.extended.below) (own_arcs x.extended.own) (R.sound x.extended.below) x.fit
