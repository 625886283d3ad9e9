-- What pushing a route does to a network.
use Rattle.std.proofs.Common.{◌≡◌, ℕ, ◌+◌, ◌<◌, ◌≤◌, ◌≢◌, min, Bool, true, false, cond, List, [], ◌∷◌, ◌==◌, refl, sym, ap, ◌∙◌, subst, arith, get_or-set_other}
use Rattle.std.specs.Bool.{⊤}
use Rattle.std.specs.List.{All, AllByRecursion}
use Rattle.std.proofs.lemmas.List.Elements.{All-set, All-get_or}
use Rattle.std.proofs.lemmas.Bool.Decides.{nat_tests}
use Rattle.std.proofs.lemmas.Int.{ints}
use Rattle.flow.specs.Net.{Arc, Net, no_arc, Within, Shaped, Sound}
use Rattle.flow.specs.Steps.{along_reach, goes_back, arc_of, headroom_at, begins, finishes, headroom, IsOpen}
use Rattle.flow.specs.Flows.{out_of, into, leaving, entering, IsFlow}
use Rattle.flow.specs.Changes.{carrying, with_reaches, Alike}
use Rattle.flow.specs.Routes.{IsWalk, IsRoute}
use Rattle.flow.specs.Pushes.{least_headroom, amount_after, shifted, shifted_along, pushed}
use Rattle.flow.specs.RouteLaws.{IsRaised}
use Rattle.flow.proofs.Sums.{sum_of-set}
use Rattle.flow.proofs.Walks.{open_in}
use Rattle.flow.proofs.Likeness.{bare, bare-set, begins-alike, finishes-alike, Shaped-alike}

-- none of the steps goes along the reach of s
abbrev pub Off : ℕ → List ℕ → Type 0
Off s ss = AllByRecursion (λ t. along_reach t ≢ along_reach s) ss

-- no two of them go along one reach
abbrev pub Apart : List ℕ → Type 0
Apart [] = ⊤
Apart (s ∷ ss) = Off s ss × Apart ss

-- each of them has at least d of headroom
abbrev pub Roomy : ℕ → List Arc → List ℕ → Type 0
Roomy d rs ss = AllByRecursion (λ t. d ≤ headroom rs t) ss

-- a network is alike but for what it carries when water is shifted along steps

pub bare-shifted : (d : ℕ) (rs : List Arc) (s : ℕ) → bare rs ≡ bare (shifted d rs s)
bare-shifted d rs s = bare-set rs (along_reach s) (amount_after d (goes_back s) (arc_of rs s))

pub bare-along : (d : ℕ) (rs : List Arc) (ss : List ℕ) → bare rs ≡ bare (shifted_along d rs ss)
bare-along d rs [] = refl
bare-along d rs (s ∷ ss) = bare-shifted d rs s ∙ bare-along d (shifted d rs s) ss

pub Alike-pushed : (ss : List ℕ) (g : Net) → Alike g (pushed ss g)
Alike-pushed ss g = ap (with_reaches g) (bare-along (least_headroom g.reaches ss) g.reaches ss)

-- a step along another reach keeps its headroom, so a walk along other reaches stays a walk

pub headroom-kept : (d : ℕ) (rs : List Arc) (s t : ℕ) → along_reach t ≢ along_reach s →
    headroom (shifted d rs s) t ≡ headroom rs t
headroom-kept d rs s t ne =
    ap (headroom_at (goes_back t)) (get_or-set_other rs (along_reach s) (along_reach t) _ no_arc ne)

pub IsWalk-kept : (d : ℕ) (rs : List Arc) (s from : ℕ) (ss : List ℕ) (to : ℕ) → Off s ss →
    IsWalk rs from ss to → IsWalk (shifted d rs s) from ss to
IsWalk-kept d rs s from [] to off w = w
IsWalk-kept d rs s from (t ∷ ts) to off w =
    let starts = begins-alike rs (shifted d rs s) (bare-shifted d rs s) t in
    let ends = finishes-alike rs (shifted d rs s) (bare-shifted d rs s) t in
    let rest = IsWalk-kept d rs s (finishes rs t) ts to off.1 w.2 in (
      sym starts ∙ w.0,
      omega (arith, w.1, headroom-kept d rs s t off.0),
      subst (λ v. IsWalk (shifted d rs s) v ts to) ends rest,
    )

Roomy-kept : (c d : ℕ) (rs : List Arc) (s : ℕ) (ss : List ℕ) → Off s ss → Roomy c rs ss → Roomy c (shifted d rs s) ss
Roomy-kept c d rs s [] off roomy = roomy
Roomy-kept c d rs s (t ∷ ts) off roomy =
    (omega (arith, roomy.0, headroom-kept d rs s t off.0), Roomy-kept c d rs s ts off.1 roomy.1)

-- a walk along which d litres can be shifted; what is left of it when they are shifted along its first step
pub record CanTake (d : ℕ) (rs : List Arc) (from : ℕ) (ss : List ℕ) (to : ℕ) : Type 0 where
  pub walk : IsWalk rs from ss to
  pub apart : Apart ss
  pub roomy : Roomy d rs ss

pub CanTake-rest : (d : ℕ) (rs : List Arc) (from s : ℕ) (ss : List ℕ) (to : ℕ) → CanTake d rs from (s ∷ ss) to →
    CanTake d (shifted d rs s) (finishes rs s) ss to
CanTake-rest d rs from s ss to can = record {
  walk = IsWalk-kept d rs s (finishes rs s) ss to can.apart.0 can.walk.2;
  apart = can.apart.1;
  roomy = Roomy-kept d d rs s ss can.apart.0 can.roomy.1;
}

-- d litres more along a reach, forth or back: what that does to the sums of what leaves and of what enters a junction,
-- where x says that its tail is there, and y that its head is
moved : (back x y : Bool) (d : ℕ) (r : Arc) (leaves leaves' enters enters' : ℕ) → d ≤ headroom_at back r →
    leaves' + cond x r.carried 0 ≡ leaves + cond x (amount_after d back r) 0 →
    enters' + cond y r.carried 0 ≡ enters + cond y (amount_after d back r) 0 →
    leaves' + enters + cond (cond back x y) d 0 ≡ leaves + enters' + cond (cond back y x) d 0
moved true true true d r l l' e e' fits tails heads = omega arith
moved true true false d r l l' e e' fits tails heads = omega arith
moved true false true d r l l' e e' fits tails heads = omega arith
moved true false false d r l l' e e' fits tails heads = omega arith
moved false true true d r l l' e e' fits tails heads = omega arith
moved false true false d r l l' e e' fits tails heads = omega arith
moved false false true d r l l' e e' fits tails heads = omega arith
moved false false false d r l l' e e' fits tails heads = omega arith

either_end : (back : Bool) (x y v : ℕ) → (cond back x y == v) ≡ cond back (x == v) (y == v)
either_end true x y v = refl
either_end false x y v = refl

-- one step shifts d from the balance of the junction where it finishes to that of the junction where it begins
step_balance : (d : ℕ) (rs : List Arc) (s v : ℕ) → IsOpen rs s → d ≤ headroom rs s →
    leaving v (shifted d rs s) + entering v rs + cond (finishes rs s == v) d 0
    ≡ leaving v rs + entering v (shifted d rs s) + cond (begins rs s == v) d 0
step_balance d rs s v opens fits =
    let r : Arc = arc_of rs s in
    let r' : Arc = carrying (amount_after d (goes_back s) r) r in
    let tails = sum_of-set (out_of v) rs (along_reach s) r' (open_in rs s opens) in
    let heads = sum_of-set (into v) rs (along_reach s) r' (open_in rs s opens) in
    rw (either_end (goes_back s) r.tail r.head v, either_end (goes_back s) r.head r.tail v)
    (moved (goes_back s) (r.tail == v) (r.head == v) d r _ _ _ _ fits tails heads)

-- and so does a walk
along_balance : (d : ℕ) (rs : List Arc) (v from : ℕ) (ss : List ℕ) (to : ℕ) → CanTake d rs from ss to →
    leaving v (shifted_along d rs ss) + entering v rs + cond (to == v) d 0
    ≡ leaving v rs + entering v (shifted_along d rs ss) + cond (from == v) d 0
along_balance d rs v from [] to can = rw can.walk refl
along_balance d rs v from (s ∷ ss) to can =
    let start : cond (begins rs s == v) d 0 ≡ cond (from == v) d 0 = ap (λ (u : ℕ). cond (u == v) d 0) can.walk.0 in
    let rest = along_balance d (shifted d rs s) v (finishes rs s) ss to (CanTake-rest d rs from s ss to can) in
    omega (arith, step_balance d rs s v can.walk.1 can.roomy.0, rest)

-- no reach carries more than its limit afterwards
amount_fits : (back : Bool) (d : ℕ) (r : Arc) → r.carried ≤ r.limit → d ≤ headroom_at back r →
    amount_after d back r ≤ r.limit
amount_fits true d r within fits = omega arith
amount_fits false d r within fits = omega arith

within_along : (d : ℕ) (rs : List Arc) (from : ℕ) (ss : List ℕ) (to : ℕ) → CanTake d rs from ss to →
    All (λ r. r.carried ≤ r.limit) rs → All (λ r. r.carried ≤ r.limit) (shifted_along d rs ss)
within_along d rs from [] to can within = within
within_along d rs from (s ∷ ss) to can within =
    let k : ℕ = along_reach s in
    let here = All-get_or (λ r. r.carried ≤ r.limit) rs k no_arc (open_in rs s can.walk.1) within in
    let fits = amount_fits (goes_back s) d (arc_of rs s) here can.roomy.0 in
    within_along d (shifted d rs s) (finishes rs s) ss to (CanTake-rest d rs from s ss to can)
    (All-set (λ r. r.carried ≤ r.limit) rs k _ fits within)

-- the least headroom is no more than that of each step, and above 0
Roomy-least : (rs : List Arc) (ss : List ℕ) → Roomy (least_headroom rs ss) rs ss
Roomy-least rs [] = tt
Roomy-least rs (s ∷ []) = (omega arith, tt)
Roomy-least rs (s ∷ (t ∷ ts)) = (omega arith, weaker (t ∷ ts) (Roomy-least rs (t ∷ ts)))
  where
    least : ℕ
    least = least_headroom rs (t ∷ ts)

    weaker : (us : List ℕ) → Roomy least rs us → Roomy (min (headroom rs s) least) rs us
    weaker [] roomy = tt
    weaker (u ∷ us) roomy = (omega (arith, roomy.0), weaker us roomy.1)

least_above : (rs : List Arc) (from s : ℕ) (ss : List ℕ) (to : ℕ) → IsWalk rs from (s ∷ ss) to →
    0 < least_headroom rs (s ∷ ss)
least_above rs from s [] to w = w.1
least_above rs from s (t ∷ ts) to w = omega (arith, w.1, least_above rs (finishes rs s) t ts to w.2)

pub least_above_0 : (g : Net) (ss : List ℕ) → Shaped g → IsRoute g ss → 0 < least_headroom g.reaches ss
least_above_0 g [] shaped r = absurd (shaped.ends_differ r)
least_above_0 g (s ∷ ss) shaped r = least_above g.reaches g.intake s ss g.outfall r

-- a route along no reach twice
module _ (g : Net) (ss : List ℕ) (r : IsRoute g ss) (apart : Apart ss) where
  -- what is pushed
  abbrev d : ℕ
  d = least_headroom g.reaches ss

  pub can_take : CanTake (least_headroom g.reaches ss) g.reaches g.intake ss g.outfall
  can_take = record { walk = r; apart = apart; roomy = Roomy-least g.reaches ss }

  Within-pushed : Within g → Within (pushed ss g)
  Within-pushed within = within_along d g.reaches g.intake ss g.outfall can_take within

  pub Sound-pushed : Sound g → Sound (pushed ss g)
  Sound-pushed sound = record {
    shaped = Shaped-alike g (pushed ss g) (Alike-pushed ss g) sound.shaped;
    within = Within-pushed sound.within;
  }

  balance : (v : ℕ) →
      leaving v (pushed ss g).reaches + entering v g.reaches + cond (g.outfall == v) d 0
      ≡ leaving v g.reaches + entering v (pushed ss g).reaches + cond (g.intake == v) d 0
  balance v = along_balance d g.reaches v g.intake ss g.outfall can_take

  balance_between : IsFlow g → (v : ℕ) → v < g.junctions → v ≢ g.intake → v ≢ g.outfall →
      leaving v (pushed ss g).reaches ≡ entering v (pushed ss g).reaches
  balance_between flow v low not_in not_out =
      let no_more : cond (g.intake == v) d 0 ≡ 0 = grind (arith, nat_tests) in
      let no_less : cond (g.outfall == v) d 0 ≡ 0 = grind (arith, nat_tests) in
      omega (arith, balance v, flow.balanced v low not_in not_out)

  balance_at_intake : g.intake ≢ g.outfall →
      leaving g.intake (pushed ss g).reaches + entering g.intake g.reaches
      ≡ leaving g.intake g.reaches + entering g.intake (pushed ss g).reaches + d
  balance_at_intake differ =
      let more : cond (g.intake == g.intake) d 0 ≡ d =
      grind (arith, nat_tests) in
      let no_less : cond (g.outfall == g.intake) d 0 ≡ 0 = grind (arith, nat_tests) in
      omega (arith, balance g.intake)

  pub raised : Shaped g → IsFlow g → IsRaised g (pushed ss g) d
  raised shaped flow = record {
    alike = Alike-pushed ss g;
    flow = record { within = Within-pushed flow.within; balanced = balance_between flow };
    more = let more = balance_at_intake shaped.ends_differ in omega (arith, ints);
  }
