-- Whether the shape of a network is sound can be decided; and so the one settling of a network with a budget is a function.
use Rattle.std.proofs.Common.{◌≡◌, ℕ, ◌<◌, ◌≤◌, ◌≢◌, ◌⊎◌, false, List, [], ◌∷◌, length, inl, inr, arith}
use Rattle.std.specs.List.{All}
use Rattle.std.proofs.lemmas.Bool.{cases_eq, cases_lt}
use Rattle.std.proofs.lemmas.List.Elements.{All-nil, All-cons, All-head, All-tail}
use Rattle.flow.specs.Bounds.{most_junctions, most_reaches, highest_limit}
use Rattle.flow.specs.Net.{Arc, Net, Joined, Shaped}
use Rattle.flow.specs.Histories.{Outcome, IsSettling}
use Rattle.flow.proofs.Answering.{settling_found}

-- it holds, or it does not
abbrev Either : Type 0 → Type 0
Either P = P ⊎ (P → ⊥)

below : (a b : ℕ) → Either (a < b)
below a b = either (cases_lt a b)
  where
    either : (a < b) ⊎ (b ≤ a) → Either (a < b)
    either (inl low) = inl low
    either (inr high) = inr (λ low. omega arith)

at_most : (a b : ℕ) → Either (a ≤ b)
at_most a b = either (cases_lt b a)
  where
    either : (b < a) ⊎ (a ≤ b) → Either (a ≤ b)
    either (inl above) = inr (λ most. omega arith)
    either (inr most) = inl most

differ : (a b : ℕ) → Either (a ≢ b)
differ a b = either (cases_eq a b)
  where
    either : (a ≡ b) ⊎ (a ≢ b) → Either (a ≢ b)
    either (inl same) = inr (λ ne. ne same)
    either (inr ne) = inl ne

both : {P Q : Type 0} → Either P → Either Q → Either (P × Q)
both (inl p) (inl q) = inl (p, q)
both (inl p) (inr never) = inr (λ x. never x.1)
both (inr never) q = inr (λ x. never x.0)

each : (P : Arc → Type 0) → ((r : Arc) → Either (P r)) → (rs : List Arc) → Either (All P rs)
each P test [] = inl (All-nil P)
each P test (r ∷ rs) = go (test r) (each P test rs)
  where
    go : Either (P r) → Either (All P rs) → Either (All P (r ∷ rs))
    go (inl p) (inl ps) = inl (All-cons P r rs p ps)
    go (inl p) (inr never) = inr (λ all. never (All-tail P r rs all))
    go (inr never) ps = inr (λ all. never (All-head P r rs all))

-- the parts of a sound shape
module _ (g : Net) where
  abbrev Bounds : Type 0
  Bounds = (2 ≤ g.junctions) × ((g.junctions ≤ most_junctions) × (length g.reaches ≤ most_reaches))

  abbrev Ends : Type 0
  Ends = (g.intake < g.junctions) × ((g.outfall < g.junctions) × (g.intake ≢ g.outfall))

  abbrev Lists : Type 0
  Lists = All (Joined g.junctions) g.reaches × All (λ r. r.limit ≤ highest_limit) g.reaches

  fair : (r : Arc) → Either (Joined g.junctions r)
  fair r = flat (both (below r.tail g.junctions) (both (below r.head g.junctions) (differ r.tail r.head)))
    where
      flat : Either ((r.tail < g.junctions) × ((r.head < g.junctions) × (r.tail ≢ r.head))) → Either (Joined g.junctions r)
      flat (inl j) = inl (j.0, j.1.0, j.1.1)
      flat (inr never) = inr (λ j. never (j.0, (j.1, j.2)))

  pub shaped_or_not : Shaped g ⊎ (Shaped g → ⊥)
  shaped_or_not = go (both bounds (both ends lists))
    where
      bounds : Either (Bounds)
      bounds = both (at_most 2 g.junctions) (both (at_most g.junctions most_junctions) (at_most (length g.reaches) most_reaches))

      ends : Either (Ends)
      ends = both (below g.intake g.junctions) (both (below g.outfall g.junctions) (differ g.intake g.outfall))

      lists : Either (Lists)
      lists = both (each (Joined g.junctions) fair g.reaches)
          (each (λ r. r.limit ≤ highest_limit) (λ r. at_most r.limit highest_limit) g.reaches)

      go : Either (Bounds × (Ends × Lists)) → Either (Shaped g)
      go (inl (b, (e, l))) = inl (record {
        two = b.0;
        few = b.1.0;
        listed = b.1.1;
        intake_in = e.0;
        outfall_in = e.1.0;
        ends_differ = e.1.1;
        joined = l.0;
        limits = l.1;
      })
      go (inr never) = inr (λ s. never
          ((s.two, (s.few, s.listed)), ((s.intake_in, (s.outfall_in, s.ends_differ)), (s.joined, s.limits))))

-- the routes that the plain machine pushes, and what settling answers
abbrev pub Settling : Type 0
Settling = List (List ℕ) × Outcome

-- where the shape is not sound, nothing is pushed
settling_by : (budget : ℕ) (g : Net) → Shaped g ⊎ (Shaped g → ⊥) → Settling
settling_by budget g (inl shaped) = let x = settling_found g budget shaped in (x.0, x.1)
settling_by budget g (inr never) = ([], record { routes = 0; litres = 0; finished = false })

pub settling_of : ℕ → Net → Settling
settling_of budget g = settling_by budget g (shaped_or_not g)

settling_by-is : (budget : ℕ) (g : Net) (d : Shaped g ⊎ (Shaped g → ⊥)) → Shaped g →
    IsSettling g budget (settling_by budget g d).0 (settling_by budget g d).1
unfolding settling_by
settling_by-is budget g (inl shaped) s = (settling_found g budget shaped).2
settling_by-is budget g (inr never) s = absurd (never s)

pub settling_of-is : (budget : ℕ) (g : Net) → Shaped g →
    IsSettling g budget (settling_of budget g).0 (settling_of budget g).1
unfolding settling_of
settling_of-is budget g s = settling_by-is budget g (shaped_or_not g) s
