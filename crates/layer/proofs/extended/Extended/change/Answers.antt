use Rattle.std.proofs.Common.{◌≡◌, ◌+◌, ◌-◌, ◌<◌, ◌≤◌, length, ap, arith}
use Rattle.network.specs.declared.size.Size.{Size}
use Rattle.network.proofs.Setting.{changed_list}
use Rattle.layer.specs.Keeping.{own_arcs}
use Rattle.layer.specs.Extending.{extended_giver}
use Rattle.layer.proofs.Lifting.{changed_below, changed_own, gives_below, gives_own}
use Rattle.layer.proofs.extended.Extended.change.Goals as goal

pub returns-then-k-count-clause-done : goal.returns-then-k-count-clause-done
returns-then-k-count-clause-done g c f lift l =
    let x = c.args.self.now in
    let net = g.N.Network.meaning x.below in
    let giver = g.N.Network.giver x.below in
    let k = c.args.k in
    let low : k < length net.reaches = omega (arith, ap (λ (z : Size). z.reaches) x.known) in
    changed_below f lift l net.reaches (own_arcs x.own) c.args.change giver (extended_giver c.args.part x) k low
    (gives_below c.args.part net giver k low) _ c.change.result
    (changed_list c.args.change net giver k c.change.result _ c.change.ensures.done)

pub returns-clause-done : goal.returns-clause-done
returns-clause-done g c f lift l =
    let x = c.args.self.now in
    let net = g.N.Network.meaning x.below in
    let giver = g.N.Network.giver x.below in
    let k = c.args.k in
    let base = ap (λ (z : Size). z.reaches) x.known in
    let is : length net.reaches + (k - x.base.reaches) ≡ k = omega (arith, base) in
    let past : length net.reaches ≤ k = omega (arith, base) in
    changed_own f lift l net.reaches (own_arcs x.own) c.args.change c.args.part (extended_giver c.args.part x) k
    (k - x.base.reaches) is (gives_own c.args.part net giver k past) _ c.change-2.result c.change-2.ensures.done
