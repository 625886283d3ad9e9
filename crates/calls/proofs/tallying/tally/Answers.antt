use Rattle.std.proofs.Common.{◌≡◌, ℕ, ◌≢◌, cond, eqb, pos, ◌+ℤ◌, ap, ◌∙◌, arith}
use Rattle.std.proofs.lemmas.Int.{ints}
use Rattle.std.proofs.lemmas.Bool.Decides.{nat_tests}
use Rattle.flow.specs.Flows.{out_of, into, leaving, entering}
use Rattle.flow.proofs.Changing.{amounts_bounded}
use Rattle.network.specs.declared.size.Size.{Size}
use Rattle.network.specs.Answers.{arc_in}
use Rattle.network.specs.Going.{reaches_left}
use Rattle.calls.proofs.tallying.tally.Goals.{then-reach-size, else-reach-size}
use Rattle.calls.proofs.tallying.tally.Goals as goal

-- what counts of an amount n where an end a of a reach is the junction v, and where it is not
at_end : (a v n : ℕ) → a ≡ v → cond (eqb a v) n 0 ≡ n
at_end a v n e = grind (arith, nat_tests)

elsewhere : (a v n : ℕ) → a ≢ v → cond (eqb a v) n 0 ≡ 0
elsewhere a v n d = grind (arith, nat_tests)

-- no sum of what reaches carry leaves 64 bits
pub loop-reach-init : goal.loop-reach-init
loop-reach-init g c =
    let was = g.N.Network.meaning c.args.net.now in
    let few = amounts_bounded was was.intake (g.N.Network.sound c.args.net.now) in
    let all = ap (reaches_left g.N.Network.meaning) c.into_iter-reach-iterator.ensures.into_iter_gives ∙ c.of-reach-items.ensures in
    rw all (tt, tt, ap (λ (s : Size). s.intake) c.size-size.ensures, few.0, few.1, omega arith, omega arith, omega (arith, ints))

pub loop-reach-preserved-then-reach-size-2 : goal.loop-reach-preserved-then-reach-size-2
loop-reach-preserved-then-reach-size-2 g c =
    let v = (g.N.Network.meaning c.args.net.now).intake in
    let reach = c.in-Some.reach in
    let out = ap (leaving v) c.in-Some.ensures.steps in
    let back = ap (entering v) c.in-Some.ensures.steps in
    let i = c.loop-reach.invariant in
    let gone : c.if-reach-size.sum ≡ c.loop-reach.sum +ℤ pos (out_of v (arc_in reach)) = elim c.if-reach-size.branch [
      | then-reach-size w ↦ omega (arith, ints, at_end, i.2)
      | else-reach-size w ↦ omega (arith, ints, elsewhere, i.2)
    ] in
    let come : into v (arc_in reach) ≡ reach.carried = omega (arith, at_end, i.2) in
    (tt, tt, i.2, i.3, i.4, omega (arith, out, i.5), omega (arith, back, i.6), omega (arith, ints, out, back, i.5, i.6, i.7))
