-- Routes pushed one after another, and the plain machine.
use Rattle.std.proofs.Common.{◌≡◌, ℕ, zero, suc, ◌+◌, ◌-◌, ◌*◌, ◌≤◌, ◌⊎◌, List, [], ◌∷◌, ◌++◌, length, refl, sym, ap₂, ◌∙◌, subst, inl, inr, arith, length-append}
use Rattle.std.proofs.lemmas.Int.{ints}
use Rattle.flow.specs.Net.{Net, Shaped}
use Rattle.flow.specs.Flows.{IsFlow}
use Rattle.flow.specs.Changes.{Alike}
use Rattle.flow.specs.Routes.{Finished, IsShortest, IsFirst}
use Rattle.flow.specs.Pushes.{pushed, pushed_all, EachPushed, litres_of, Settles}
use Rattle.flow.specs.RouteLaws.{IsRaised}
use Rattle.flow.proofs.Likeness.{Shaped-alike}
use Rattle.flow.proofs.Pushing.{Apart, Alike-pushed, raised}
use Rattle.flow.proofs.Labelling.{apart_from_fall}
use Rattle.flow.proofs.Firsts.{first_unique}
use Rattle.flow.proofs.Distances.{shortest_labels}
use Rattle.flow.proofs.Finding.{first_found}
use Rattle.flow.proofs.Running.{descent_along, runs_bounded}

-- a shortest route goes along no reach twice
pub shortest_apart : (g : Net) (ss : List ℕ) → IsShortest g ss → Apart ss
shortest_apart g ss is =
    let x = shortest_labels g ss is in
    let down = descent_along g x.0 x.1 ss is.route x.2 in
    apart_from_fall x.0 g.reaches g.intake ss g.outfall down.walk down.falls

-- routes pushed one after another
pub Alike-pushed_all : (routes : List (List ℕ)) (g : Net) → Alike g (pushed_all routes g)
Alike-pushed_all [] g = refl
Alike-pushed_all (ss ∷ more) g = Alike-pushed ss g ∙ Alike-pushed_all more (pushed ss g)

pub Shaped-pushed : (g : Net) (ss : List ℕ) → Shaped g → Shaped (pushed ss g)
Shaped-pushed g ss shaped = Shaped-alike g (pushed ss g) (Alike-pushed ss g) shaped

pub pushed_all-append : (xs ys : List (List ℕ)) (g : Net) → pushed_all (xs ++ ys) g ≡ pushed_all ys (pushed_all xs g)
pushed_all-append [] ys g = refl
pushed_all-append (ss ∷ xs) ys g = pushed_all-append xs ys (pushed ss g)

pub litres_of-append : (xs ys : List (List ℕ)) (g : Net) →
    litres_of g (xs ++ ys) ≡ litres_of g xs + litres_of (pushed_all xs g) ys
litres_of-append [] ys g = omega arith
litres_of-append (ss ∷ xs) ys g = omega (arith, litres_of-append xs ys (pushed ss g))

module _ (P : Net → List ℕ → Type 0) where
  pub EachPushed-append : (g : Net) (xs ys : List (List ℕ)) → EachPushed P g xs → EachPushed P (pushed_all xs g) ys →
      EachPushed P g (xs ++ ys)
  EachPushed-append g [] ys p q = q
  EachPushed-append g (ss ∷ xs) ys p q = (p.0, EachPushed-append (pushed ss g) xs ys p.1 q)

  pub EachPushed-at : (g : Net) (xs : List (List ℕ)) (ss : List ℕ) (ys : List (List ℕ)) →
      EachPushed P g (xs ++ ss ∷ ys) → P (pushed_all xs g) ss
  EachPushed-at g [] ss ys p = p.0
  EachPushed-at g (ts ∷ xs) ss ys p = EachPushed-at (pushed ts g) xs ss ys p.1

pub shortest_from_first : (g : Net) (routes : List (List ℕ)) → EachPushed IsFirst g routes →
    EachPushed IsShortest g routes
shortest_from_first g [] p = tt
shortest_from_first g (ss ∷ more) p = (p.0.shortest, shortest_from_first (pushed ss g) more p.1)

-- what pushing shortest routes adds
pub raised_all : (g : Net) (routes : List (List ℕ)) → Shaped g → IsFlow g → EachPushed IsShortest g routes →
    IsRaised g (pushed_all routes g) (litres_of g routes)
raised_all g [] shaped flow each = record { alike = refl; flow = flow; more = omega (arith, ints) }
raised_all g (ss ∷ more) shaped flow each =
    let x = raised g ss each.0.route (shortest_apart g ss each.0) shaped flow in
    let y = raised_all (pushed ss g) more (Shaped-pushed g ss shaped) x.flow each.1 in
    record { alike = x.alike ∙ y.alike; flow = y.flow; more = omega (arith, ints, x.more, y.more) }

-- the plain machine pushes one list of routes
stops_early : (g : Net) (budget : ℕ) (ss : List ℕ) (more : List (List ℕ)) → Settles g budget [] →
    ¬ Settles g budget (ss ∷ more)
stops_early g budget ss more p q = either p.stops
  where
    either : Finished g ⊎ (0 ≡ budget) → ⊥
    either (inl finished) = finished ss q.firsts.0.shortest.route
    either (inr spent) = omega (arith, q.spent)

Settles-rest : (g : Net) (budget : ℕ) (ss : List ℕ) (more : List (List ℕ)) → Settles g budget (ss ∷ more) →
    Settles (pushed ss g) (budget - 1) more
Settles-rest g budget ss more p = record { firsts = p.firsts.1; spent = omega (arith, p.spent); stops = either p.stops }
  where
    either : Finished (pushed_all more (pushed ss g)) ⊎ (suc (length more) ≡ budget) →
        Finished (pushed_all more (pushed ss g)) ⊎ (length more ≡ budget - 1)
    either (inl finished) = inl finished
    either (inr spent) = inr (omega arith)

pub settles_unique : (g : Net) (budget : ℕ) (xs ys : List (List ℕ)) → Settles g budget xs → Settles g budget ys →
    xs ≡ ys
settles_unique g budget [] [] p q = refl
settles_unique g budget [] (y ∷ ys) p q = absurd (stops_early g budget y ys p q)
settles_unique g budget (x ∷ xs) [] p q = absurd (stops_early g budget x xs q p)
settles_unique g budget (x ∷ xs) (y ∷ ys) p q =
    let same : x ≡ y = first_unique g x y p.firsts.0 q.firsts.0 in
    let rest : Settles (pushed x g) (budget - 1) ys =
    subst (λ ss. Settles (pushed ss g) (budget - 1) ys) (sym same) (Settles-rest g budget y ys q) in
    ap₂ ◌∷◌ same (settles_unique (pushed x g) (budget - 1) xs ys (Settles-rest g budget x xs p) rest)

-- and there is one
abbrev Settled : Net → ℕ → Type 0
Settled g budget = (routes : List (List ℕ)) × Settles g budget routes

Settles-more : (g : Net) (b : ℕ) (ss : List ℕ) (more : List (List ℕ)) → IsFirst g ss → Settles (pushed ss g) b more →
    Settles g (suc b) (ss ∷ more)
Settles-more g b ss more is p = record { firsts = (is, p.firsts); spent = omega (arith, p.spent); stops = either p.stops }
  where
    either : Finished (pushed_all more (pushed ss g)) ⊎ (length more ≡ b) →
        Finished (pushed_all more (pushed ss g)) ⊎ (suc (length more) ≡ suc b)
    either (inl finished) = inl finished
    either (inr spent) = inr (omega arith)

pub settles_found : (g : Net) (budget : ℕ) → Shaped g → Settled g budget
settles_found g zero shaped = ([], record { firsts = tt; spent = omega arith; stops = inr refl })
settles_found g (suc b) shaped =
    either (first_found g shaped) (λ ss. settles_found (pushed ss g) b (Shaped-pushed g ss shaped))
  where
    either : ((ss : List ℕ) × IsFirst g ss) ⊎ Finished g → ((ss : List ℕ) → Settled (pushed ss g) b) → Settled g (suc b)
    either (inr finished) rest = ([], record { firsts = tt; spent = omega arith; stops = inl finished })
    either (inl (ss, is)) rest = let x = rest ss in (ss ∷ x.0, Settles-more g b ss x.0 is x.1)

-- a budget of m × (n − 1) is enough
pub enough : (g : Net) (budget : ℕ) (routes : List (List ℕ)) → Shaped g → Settles g budget routes →
    length g.reaches * (g.junctions - 1) ≤ budget → Finished (pushed_all routes g)
enough g budget routes shaped p big = either p.stops (first_found (pushed_all routes g) shaped_then)
  where
    shaped_then : Shaped (pushed_all routes g)
    shaped_then = Shaped-alike g (pushed_all routes g) (Alike-pushed_all routes g) shaped

    -- one route more would be too many
    no_more : (ss : List ℕ) → IsFirst (pushed_all routes g) ss → length routes ≡ budget → ⊥
    no_more ss is spent =
        let each = shortest_from_first g routes p.firsts in
        let more = EachPushed-append IsShortest g routes (ss ∷ []) each (is.shortest, tt) in
        omega (arith, (runs_bounded g (routes ++ ss ∷ []) shaped more).total, length-append routes (ss ∷ []))

    either : Finished (pushed_all routes g) ⊎ (length routes ≡ budget) →
        ((ss : List ℕ) × IsFirst (pushed_all routes g) ss) ⊎ Finished (pushed_all routes g) →
        Finished (pushed_all routes g)
    either (inl finished) next = finished
    either (inr spent) (inr finished) = finished
    either (inr spent) (inl (ss, is)) = absurd (no_more ss is spent)
