-- A network below, and the reaches of a layer behind its reaches.
use Rattle.std.specs.Prelude.{◌≡◌, ℕ, List, ◌++◌, length, None, Option, Result}
use Rattle.refusal.specs.declared.Refusal.{Refusal}
use Rattle.refusal.specs.declared.Part.{Part}
use Rattle.flow.specs.Net.{Arc}
use Rattle.network.specs.declared.interface.Network.{Ghosts}
use Rattle.network.specs.declared.change.Change.{Change}
use Rattle.network.specs.Touching.{Touched}
use Rattle.network.specs.Changing.{ChangedIn}
use Rattle.layer.specs.declared.extended.Extended.{Extended}
use Rattle.layer.specs.Keeping.{own_arcs}
use Rattle.layer.specs.Layering.{layer_giver}
use Rattle.layer.specs.Lifting.{Lifts}

-- the first from k on that touches v, behind any m reaches of which none from k on does
abbrev pub TouchedBehind : ℕ → ℕ → List Arc → ℕ → Option ℕ → Type 0
TouchedBehind v m own k r = (front : List Arc) → length front ≡ m → Touched v front k None → Touched v (front ++ own) k r

-- of a layer over any network, by what that network means and which part answers for its reaches
module _ {N : Type 0} {R : Ghosts N} where
  -- all reaches, those of the network below first
  abbrev pub all_reaches : Extended N R → List Arc
  all_reaches x = (R.meaning x.below).reaches ++ own_arcs x.own

  -- the part answers for the layer's own reaches
  abbrev pub extended_giver : Part → Extended N R → ℕ → Part
  extended_giver part x = layer_giver part (R.meaning x.below) (R.giver x.below)

  -- a change of reach k of them all, however the layer shows the reaches of the network below
  abbrev pub ExtendedChange : Change → Part → Extended N R → ℕ → Result Unit Refusal → Extended N R → Type 0
  ExtendedChange c part x k r y = (f : Arc → Arc) (lift : List Arc → List Arc) → Lifts f lift →
      ChangedIn c (lift (R.meaning x.below).reaches ++ own_arcs x.own) (extended_giver part x) k r
      (lift (R.meaning y.below).reaches ++ own_arcs y.own)
