-- What networks have in common that are alike but for what they carry.
use Rattle.std.proofs.Common.{◌≡◌, ℕ, ◌<◌, ◌≤◌, cond, List, [], ◌∷◌, map, set, length, refl, sym, ap, ◌∙◌, subst, arith}
use lib.ListN.{length-map}
use Rattle.std.specs.List.{All}
use Rattle.std.proofs.lemmas.List.{get_or-map, map-set, set-get_or, ext_get_or}
use Rattle.std.proofs.lemmas.List.Elements.{All-map}
use Rattle.flow.specs.Bounds.{highest_limit}
use Rattle.flow.specs.Net.{Arc, Net, no_arc, arc_at, Joined, Shaped}
use Rattle.flow.specs.Steps.{along_reach, goes_back, begins_at, finishes_at, begins, finishes}
use Rattle.flow.specs.Flows.{sum_of}
use Rattle.flow.specs.Changes.{carrying, with_reaches, drained, Alike}
use Rattle.flow.specs.Cuts.{Side, IsCut, crosses, limit_across, cut_sum, crossing_count}
use Rattle.flow.specs.Laws.{SameScheme, AlikeMeans}
use Rattle.flow.proofs.Sums.{sum_of-map}
use Rattle.flow.proofs.Changing.{drained_at}

-- the reaches with nothing carried. Of two networks that are alike they are the same
abbrev pub bare : List Arc → List Arc
bare rs = map (carrying 0) rs

pub bare-alike : (g h : Net) → Alike g h → bare g.reaches ≡ bare h.reaches
bare-alike g h a = ap (λ (x : Net). x.reaches) a

-- and they are what they were when one reach carries another amount
pub bare-set : (rs : List Arc) (k a : ℕ) → bare rs ≡ bare (set rs k (carrying a (arc_at rs k)))
bare-set rs k a =
    let put = map-set (carrying 0) rs k (carrying a (arc_at rs k)) in
    let here : set (bare rs) k (carrying 0 (arc_at rs k)) ≡ set (bare rs) k (arc_at (bare rs) k) =
    ap (set (bare rs) k) (sym (drained_at rs k)) in
    sym (put ∙ here ∙ set-get_or (bare rs) k no_arc)

-- reach k of both is the same but for what it carries; so the ends of each step are the same
pub arc-alike : (rs qs : List Arc) → bare rs ≡ bare qs → (k : ℕ) → carrying 0 (arc_at rs k) ≡ carrying 0 (arc_at qs k)
arc-alike rs qs a k = sym (drained_at rs k) ∙ ap (λ (xs : List Arc). arc_at xs k) a ∙ drained_at qs k

pub begins-alike : (rs qs : List Arc) → bare rs ≡ bare qs → (s : ℕ) → begins rs s ≡ begins qs s
begins-alike rs qs a s = ap (begins_at (goes_back s)) (arc-alike rs qs a (along_reach s))

pub finishes-alike : (rs qs : List Arc) → bare rs ≡ bare qs → (s : ℕ) → finishes rs s ≡ finishes qs s
finishes-alike rs qs a s = ap (finishes_at (goes_back s)) (arc-alike rs qs a (along_reach s))

pub length-alike : (rs qs : List Arc) → bare rs ≡ bare qs → length rs ≡ length qs
length-alike rs qs a = sym (length-map rs (carrying 0)) ∙ ap length a ∙ length-map qs (carrying 0)

-- sums to which a reach adds the same whatever it carries
pub cut_sum-alike : (near : Side) (rs qs : List Arc) → bare rs ≡ bare qs → cut_sum near rs ≡ cut_sum near qs
cut_sum-alike near rs qs a =
    let f : Arc → ℕ = limit_across near in
    sym (sum_of-map f (carrying 0) rs) ∙ ap (sum_of f) a ∙ sum_of-map f (carrying 0) qs

pub crossing_count-alike : (near : Side) (rs qs : List Arc) → bare rs ≡ bare qs →
    crossing_count near rs ≡ crossing_count near qs
crossing_count-alike near rs qs a =
    let f : Arc → ℕ = λ r. cond (crosses near r) 1 0 in
    sym (sum_of-map f (carrying 0) rs) ∙ ap (sum_of f) a ∙ sum_of-map f (carrying 0) qs

-- a network is alike to itself drained
bare-bare : (rs : List Arc) → bare (bare rs) ≡ bare rs
bare-bare [] = refl
bare-bare (r ∷ rs) = ap (λ (xs : List Arc). carrying 0 r ∷ xs) (bare-bare rs)

pub Alike-drained : (g : Net) → Alike g (drained g)
Alike-drained g = ap (with_reaches g) (sym (bare-bare g.reaches))

-- what holds of all reaches made from others holds of the others, each in its new form
All-unmap : (P : Arc → Type 0) (f : Arc → Arc) (rs : List Arc) → All P (map f rs) → All (λ r. P (f r)) rs
All-unmap P f rs all k d low =
    subst P (get_or-map f rs k d (f d) low) (all k (f d) (omega (arith, length-map rs f)))

-- the shape of a network goes over to one that is alike, by way of the drained one
Shaped-drained : (g : Net) → Shaped g → Shaped (drained g)
Shaped-drained g s = record {
  two = s.two;
  few = s.few;
  listed = omega (arith, length-map g.reaches (carrying 0), s.listed);
  intake_in = s.intake_in;
  outfall_in = s.outfall_in;
  ends_differ = s.ends_differ;
  joined = All-map (Joined g.junctions) (carrying 0) g.reaches s.joined;
  limits = All-map (λ r. r.limit ≤ highest_limit) (carrying 0) g.reaches s.limits;
}

Shaped-undrained : (g : Net) → Shaped (drained g) → Shaped g
Shaped-undrained g s = record {
  two = s.two;
  few = s.few;
  listed = omega (arith, length-map g.reaches (carrying 0), s.listed);
  intake_in = s.intake_in;
  outfall_in = s.outfall_in;
  ends_differ = s.ends_differ;
  joined = All-unmap (Joined g.junctions) (carrying 0) g.reaches s.joined;
  limits = All-unmap (λ r. r.limit ≤ highest_limit) (carrying 0) g.reaches s.limits;
}

pub Shaped-alike : (g h : Net) → Alike g h → Shaped g → Shaped h
Shaped-alike g h a s = Shaped-undrained h (subst Shaped a (Shaped-drained g s))

pub junctions-alike : (g h : Net) → Alike g h → g.junctions ≡ h.junctions
junctions-alike g h a = ap (λ (x : Net). x.junctions) a

pub IsCut-alike : (near : Side) (g h : Net) → Alike g h → IsCut g near → IsCut h near
IsCut-alike near g h a c = record {
  intake_near = ap (λ (x : Net). near x.intake) (sym a) ∙ c.intake_near;
  outfall_far = ap (λ (x : Net). near x.outfall) (sym a) ∙ c.outfall_far;
}

-- networks are alike when they agree number by number
same_scheme : (g h : Net) → Alike g h → SameScheme g h
same_scheme g h a = record {
  junctions = junctions-alike g h a;
  intake = ap (λ (x : Net). x.intake) a;
  outfall = ap (λ (x : Net). x.outfall) a;
  count = length-alike g.reaches h.reaches (bare-alike g h a);
  tails = λ k low. ap (λ (r : Arc). r.tail) (arc-alike g.reaches h.reaches (bare-alike g h a) k);
  heads = λ k low. ap (λ (r : Arc). r.head) (arc-alike g.reaches h.reaches (bare-alike g h a) k);
  limits = λ k low. ap (λ (r : Arc). r.limit) (arc-alike g.reaches h.reaches (bare-alike g h a) k);
}

abbrev dry_arc : ℕ → ℕ → ℕ → Arc
dry_arc t h l = record { tail = t; head = h; limit = l; carried = 0 }

dry-same : (r q : Arc) → r.tail ≡ q.tail → r.head ≡ q.head → r.limit ≡ q.limit → carrying 0 r ≡ carrying 0 q
dry-same r q tails heads limits =
    ap (λ (x : ℕ). dry_arc x r.head r.limit) tails ∙ ap (λ (x : ℕ). dry_arc q.tail x r.limit) heads
    ∙ ap (dry_arc q.tail q.head) limits

abbrev net : ℕ → ℕ → ℕ → List Arc → Net
net n i o rs = record { junctions = n; intake = i; outfall = o; reaches = rs }

same_alike : (g h : Net) → SameScheme g h → Alike g h
same_alike g h s =
    ap (λ (x : ℕ). net x g.intake g.outfall (bare g.reaches)) s.junctions
    ∙ ap (λ (x : ℕ). net h.junctions x g.outfall (bare g.reaches)) s.intake
    ∙ ap (λ (x : ℕ). net h.junctions h.intake x (bare g.reaches)) s.outfall
    ∙ ap (net h.junctions h.intake h.outfall) (ext_get_or no_arc (bare g.reaches) (bare h.reaches) as_long each)
  where
    as_long : length (bare g.reaches) ≡ length (bare h.reaches)
    as_long = length-map g.reaches (carrying 0) ∙ s.count ∙ sym (length-map h.reaches (carrying 0))

    each : (k : ℕ) → k < length (bare g.reaches) → arc_at (bare g.reaches) k ≡ arc_at (bare h.reaches) k
    each k low =
        let here : k < length g.reaches = omega (arith, length-map g.reaches (carrying 0)) in
        let same = dry-same (arc_at g.reaches k) (arc_at h.reaches k) (s.tails k here) (s.heads k here) (s.limits k here) in
        drained_at g.reaches k ∙ same ∙ sym (drained_at h.reaches k)

pub alike_means : AlikeMeans
alike_means g h = (same_scheme g h, same_alike g h)
