-- What passes a cut.
use Rattle.std.proofs.Common.{◌≡◌, ℕ, ◌+◌, ◌<◌, ◌≤◌, ◌≢◌, false, cond, List, [], ◌∷◌, refl, ap, ◌∙◌, ⊎_elim, arith}
use Rattle.std.specs.List.{All}
use Rattle.std.proofs.lemmas.List.Elements.{All-weaker}
use Rattle.std.proofs.lemmas.Bool.{cases_eq}
use Rattle.flow.specs.Net.{Arc, Net, Joined, Shaped}
use Rattle.flow.specs.Flows.{sum_of, leaving, entering, IsFlow}
use Rattle.flow.specs.Cuts.{Side, IsCut, limit_across, cut_sum}
use Rattle.flow.specs.CutLaws.{amount_across, carried_across, exchanged}
use Rattle.flow.proofs.Sums.{sum_of-below}
use Rattle.flow.proofs.Junctions.{sum_below, sum_below-differ, by_junction}

-- what reaches carry whose tail is near, and whose head is near
abbrev from_near : Side → List Arc → ℕ
from_near near rs = sum_of (λ r. cond (near r.tail) r.carried 0) rs

abbrev to_near : Side → List Arc → ℕ
to_near near rs = sum_of (λ r. cond (near r.head) r.carried 0) rs

-- the two differ by what crosses, forth and back
near_balance : (near : Side) (rs : List Arc) →
    from_near near rs + carried_across (exchanged near) rs ≡ to_near near rs + carried_across near rs
near_balance near [] = refl
near_balance near (r ∷ rs) = grind (arith, near_balance near rs)

module _ (g : Net) (near : Side) (shaped : Shaped g) (flow : IsFlow g) (cut : IsCut g near) where
  -- at each near junction but the intake as much leaves as enters
  balanced : (v : ℕ) → v < g.junctions → v ≢ g.intake →
      cond (near v) (leaving v g.reaches) 0 ≡ cond (near v) (entering v g.reaches) 0
  balanced v low ne = ⊎_elim
      (λ (out : v ≡ g.outfall). let far : near v ≡ false = ap near out ∙ cut.outfall_far in rw far refl)
      (λ (other : v ≢ g.outfall). ap (λ (x : ℕ). cond (near v) x 0) (flow.balanced v low ne other)) (cases_eq v g.outfall)

  -- so what leaves the intake and what enters it differ by what crosses, too
  pub cut_balance : leaving g.intake g.reaches + carried_across (exchanged near) g.reaches
      ≡ entering g.intake g.reaches + carried_across near g.reaches
  cut_balance =
      let n : ℕ = g.junctions in
      let out : ℕ → ℕ = λ v. cond (near v) (leaving v g.reaches) 0 in
      let in' : ℕ → ℕ = λ v. cond (near v) (entering v g.reaches) 0 in
      let tails_in = All-weaker (Joined n) (λ r. r.tail < n) (λ r j. j.0) g.reaches shaped.joined in
      let heads_in = All-weaker (Joined n) (λ r. r.head < n) (λ r j. j.1) g.reaches shaped.joined in
      let tails : sum_below out n ≡ from_near near g.reaches =
      by_junction (λ r. r.tail) (λ r. r.carried) near n g.reaches tails_in in
      let heads : sum_below in' n ≡ to_near near g.reaches =
      by_junction (λ r. r.head) (λ r. r.carried) near n g.reaches heads_in in
      let differ : sum_below out n + in' g.intake ≡ sum_below in' n + out g.intake =
      sum_below-differ out in' g.intake n shaped.intake_in balanced in
      let leaves : out g.intake ≡ leaving g.intake g.reaches = rw cut.intake_near refl in
      let enters : in' g.intake ≡ entering g.intake g.reaches = rw cut.intake_near refl in
      omega (arith, near_balance near g.reaches)

-- what crosses a cut is at most its sum
pub amount_across-le : (near : Side) (r : Arc) → r.carried ≤ r.limit → amount_across near r ≤ limit_across near r
amount_across-le near r fits = grind arith

pub carried_across-le : (near : Side) (rs : List Arc) → All (λ r. r.carried ≤ r.limit) rs →
    carried_across near rs ≤ cut_sum near rs
carried_across-le near rs within =
    sum_of-below (amount_across near) (limit_across near) (λ r. r.carried ≤ r.limit) (amount_across-le near) rs within
