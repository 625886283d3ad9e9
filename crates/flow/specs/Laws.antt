-- Laws about networks, each proved and named in the contract of a function of this crate.
use Rattle.std.specs.Prelude.{◌≡◌, ℕ, ◌+◌, ◌*◌, ◌<◌, ◌≤◌, ◌≢◌, ◌↔◌, List, length, pos}
use Rattle.flow.specs.Bounds.{most_reaches, highest_limit}
use Rattle.flow.specs.Net.{Arc, Net, Sound, arc_at}
use Rattle.flow.specs.Steps.{begins, finishes, headroom}
use Rattle.flow.specs.Flows.{leaving, entering, delivered}
use Rattle.flow.specs.Changes.{carrying, reach_changed, recarried, relimited, drained, Alike}

-- a network stays sound when a reach is set to carry no more than its limit, when a limit is set to no less than is
-- carried and no more than a reach may have, and when all is drained
pub record KeepsSound : Type 0 where
  pub carry : (g : Net) (k a : ℕ) → Sound g → a ≤ (arc_at g.reaches k).limit → Sound (recarried k a g)
  pub limit : (g : Net) (k q : ℕ) → Sound g → (arc_at g.reaches k).carried ≤ q → q ≤ highest_limit → Sound (relimited k q g)
  pub drain : (g : Net) → Sound g → Sound (drained g)

-- a change of reach k changes reach k alone: the others, and how many there are, stay
pub record OneChanged : Type 0 where
  pub count : (f : Arc → Arc) (k : ℕ) (g : Net) → length (reach_changed f k g).reaches ≡ length g.reaches
  pub here : (f : Arc → Arc) (k : ℕ) (g : Net) → k < length g.reaches →
      arc_at (reach_changed f k g).reaches k ≡ f (arc_at g.reaches k)
  pub there : (f : Arc → Arc) (k j : ℕ) (g : Net) → j ≢ k → arc_at (reach_changed f k g).reaches j ≡ arc_at g.reaches j

-- a drained network delivers nothing, and every reach of it carries nothing and keeps its ends and its limit
pub record DrainedIsDry : Type 0 where
  pub nothing : (g : Net) → delivered (drained g) ≡ pos 0
  pub each : (g : Net) (k : ℕ) → arc_at (drained g).reaches k ≡ carrying 0 (arc_at g.reaches k)

-- step 2k goes along reach k from its tail to its head, and step 2k + 1 goes the same way back; their headrooms add up to
-- the limit of the reach
pub record TwoSteps : Type 0 where
  pub forth : (rs : List Arc) (k : ℕ) →
      (begins rs (2 * k) ≡ (arc_at rs k).tail) × (finishes rs (2 * k) ≡ (arc_at rs k).head)
  pub back : (rs : List Arc) (k : ℕ) →
      (begins rs (2 * k + 1) ≡ (arc_at rs k).head) × (finishes rs (2 * k + 1) ≡ (arc_at rs k).tail)
  pub fill : (g : Net) (k : ℕ) → Sound g →
      headroom g.reaches (2 * k) + headroom g.reaches (2 * k + 1) ≡ (arc_at g.reaches k).limit

-- what leaves and what enters a junction is at most the highest limit times the most reaches: 2,048,000,000
abbrev pub AmountsBounded : Type 0
AmountsBounded = (g : Net) (v : ℕ) → Sound g →
    (leaving v g.reaches ≤ highest_limit * most_reaches) × (entering v g.reaches ≤ highest_limit * most_reaches)

-- two networks are alike but for what they carry exactly when they agree in junctions, intake and outfall, and reach by
-- reach in tail, head and limit
pub record SameScheme (g h : Net) : Type 0 where
  pub junctions : g.junctions ≡ h.junctions
  pub intake : g.intake ≡ h.intake
  pub outfall : g.outfall ≡ h.outfall
  pub count : length g.reaches ≡ length h.reaches
  pub tails : (k : ℕ) → k < length g.reaches → (arc_at g.reaches k).tail ≡ (arc_at h.reaches k).tail
  pub heads : (k : ℕ) → k < length g.reaches → (arc_at g.reaches k).head ≡ (arc_at h.reaches k).head
  pub limits : (k : ℕ) → k < length g.reaches → (arc_at g.reaches k).limit ≡ (arc_at h.reaches k).limit

abbrev pub AlikeMeans : Type 0
AlikeMeans = (g h : Net) → Alike g h ↔ SameScheme g h
