-- What a gathering means as a network, and that it is a sound one.
use Rattle.std.specs.Prelude.{ℕ, take, drop}
use Rattle.refusal.specs.declared.Part.{Part}
use Rattle.refusal.specs.declared.Part.TheVariants as parts
use Rattle.flow.specs.Net.{Net, Sound}
use Rattle.network.specs.declared.interface.Network.{Ghosts}
use Rattle.layer.specs.Keeping.{own_arcs}
use Rattle.layer.specs.Extending.{extended_giver}
use Rattle.layer.specs.Gathered.{gathered}
use Rattle.layer.proofs.Feeding.{gathered_sound}
use Rattle.gathering.specs.declared.gathering.Gathering.{Gathering}
use Rattle.gathering.specs.Entering.{Feeders}

-- of a gathering over any network, by what that network means and which part answers for its reaches
module _ {N : Type 0} {R : Ghosts N} where
  -- the feeders: the first are the sources'
  abbrev pub feeders_of : Gathering N R → Feeders
  feeders_of x = record {
    sources = take x.sources (own_arcs x.extended.own);
    sinks = drop x.sources (own_arcs x.extended.own);
  }

  abbrev pub gathering_net : Gathering N R → Net
  gathering_net x = gathered (R.meaning x.extended.below) (own_arcs x.extended.own)

  -- the layer answers for the feeders
  abbrev pub gathering_giver : Gathering N R → ℕ → Part
  gathering_giver x = extended_giver parts.Gathering x.extended

  -- every gathering is a sound network
  pub gathering_sound : (x : Gathering N R) → Sound (gathering_net x)
  gathering_sound x =
      gathered_sound (R.meaning x.extended.below) x.sources (own_arcs x.extended.own) (R.sound x.extended.below) x.fit
