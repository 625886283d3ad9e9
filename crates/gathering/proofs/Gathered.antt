-- The network with its feeders: what its reaches are, and what a change comes to on it.
use Rattle.std.proofs.Common.{◌≡◌, ℕ, List, [], ◌∷◌, ◌++◌, length, Result, sym, refl, ap, ◌∙◌, subst, arith}
use Rattle.std.proofs.lemmas.List.{append-nil}
use Rattle.refusal.specs.declared.Part.{Part}
use Rattle.refusal.specs.declared.Refusal.{Refusal}
use Rattle.flow.specs.Net.{Arc, Net}
use Rattle.flow.specs.Changes.{with_reaches}
use Rattle.network.specs.declared.change.Change.{Change}
use Rattle.network.specs.declared.size.Size.{Size}
use Rattle.network.specs.Answers.{size_of}
use Rattle.network.specs.Changing.{ChangedIn, Changed}
use Rattle.network.proofs.Setting.{changed_net}
use Rattle.layer.specs.Gathered.{gathered}

-- a network of the same size has other reaches, and all else stays
same_size : (g after : Net) → size_of after ≡ size_of g → after ≡ with_reaches g after.reaches
same_size g after same =
    ap (λ (z : Size). record { junctions = z.junctions; intake = z.intake; outfall = z.outfall; reaches = after.reaches }) same

-- the reaches of the network below, and then the feeders
gathered_reaches : (g : Net) (own : List Arc) → (gathered g own).reaches ≡ g.reaches ++ own
gathered_reaches g [] = sym (append-nil g.reaches)
gathered_reaches g (f ∷ fs) = refl

-- other reaches below and other feeders, as many as before: the list of reaches is another, and all else stays
other_reaches : (g after : Net) (own mine : List Arc) → after ≡ with_reaches g after.reaches → length mine ≡ length own →
    with_reaches (gathered g own) (after.reaches ++ mine) ≡ gathered after mine
other_reaches g after [] [] frame long = ap (with_reaches g) (append-nil after.reaches) ∙ sym frame
other_reaches g after [] (y ∷ ys) frame long = absurd (let z : ⊥ = omega (arith, long) in z)
other_reaches g after (x ∷ xs) [] frame long = absurd (let z : ⊥ = omega (arith, long) in z)
other_reaches g after (x ∷ xs) (y ∷ ys) frame long =
    sym (ap (λ (z : Net). with_reaches (gathered z (x ∷ xs)) (after.reaches ++ (y ∷ ys))) frame)

-- a change in the list of all reaches is a change of the network
pub gathered_changed : (c : Change) (giver : ℕ → Part) (k : ℕ) (r : Result Unit Refusal) (g after : Net) (own mine : List Arc) →
    size_of after ≡ size_of g → length mine ≡ length own → ChangedIn c (g.reaches ++ own) giver k r (after.reaches ++ mine) →
    Changed c (gathered g own) giver k r (gathered after mine)
gathered_changed c giver k r g after own mine same long h =
    subst (λ (z : Net). Changed c (gathered g own) giver k r z) (other_reaches g after own mine (same_size g after same) long)
    (changed_net c (gathered g own) giver k r (after.reaches ++ mine)
    (subst (λ (rs : List Arc). ChangedIn c rs giver k r (after.reaches ++ mine)) (sym (gathered_reaches g own)) h))
