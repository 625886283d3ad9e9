-- What a network delivers is what settlings have added since the last draining.
use Rattle.std.proofs.Common.{◌≡◌, ℕ, List, [], ◌∷◌, pos, refl, arith}
use Rattle.std.proofs.lemmas.Int.{ints}
use Rattle.flow.specs.Net.{Net, Shaped, arc_at}
use Rattle.flow.specs.Flows.{out_of, into, delivered, IsFlow}
use Rattle.flow.specs.Changes.{limiting}
use Rattle.flow.specs.Histories.{Event, settling, limit_change, draining, after_call, after_calls, Happens, IsHistory, CommissionedDry, litres_after, litres_counted}
use Rattle.flow.proofs.Sums.{sum_of-set_same, out_of-le, into-le}
use Rattle.flow.proofs.Changing.{drained_is_dry}
use Rattle.flow.proofs.Machining.{shortest_from_first, raised_all}
use Rattle.flow.proofs.Lasting.{lasting_call, dry_sum}

-- one call
adds_call : (e : Event) (g : Net) (a : ℕ) → Shaped g → IsFlow g → delivered g ≡ pos a → Happens e g →
    delivered (after_call e g) ≡ pos (litres_after e a)
adds_call (settling budget routes answer) g a shaped flow so h =
    let x = raised_all g routes shaped flow (shortest_from_first g routes h.settles.firsts) in
    omega (arith, ints, x.more, h.adds)
adds_call (limit_change k q) g a shaped flow so h =
    let out = sum_of-set_same (out_of g.intake) g.reaches k (limiting q (arc_at g.reaches k)) refl in
    let in' = sum_of-set_same (into g.intake) g.reaches k (limiting q (arc_at g.reaches k)) refl in
    omega (arith, ints)
adds_call draining g a shaped flow so h = drained_is_dry.nothing g
adds_call e g a shaped flow so h = so

-- and calls one after another
pub adds_up : (es : List Event) (g : Net) (a : ℕ) → Shaped g → IsFlow g → delivered g ≡ pos a → IsHistory es g →
    delivered (after_calls es g) ≡ pos (litres_counted es a)
adds_up [] g a shaped flow so h = so
adds_up (e ∷ es) g a shaped flow so h =
    let x = lasting_call e g shaped flow h.0 in
    adds_up es (after_call e g) (litres_after e a) x.shaped x.flow (adds_call e g a shaped flow so h.0) h.1

-- a network that carries nothing delivers nothing
pub dry_delivers : (g : Net) → CommissionedDry g → delivered g ≡ pos 0
dry_delivers g c = omega (
  arith,
  ints,
  dry_sum g c (out_of g.intake) (out_of-le g.intake),
  dry_sum g c (into g.intake) (into-le g.intake),
)
