use Rattle.std.proofs.Common.{arith}
use Rattle.labelling.proofs.Raising.{relabel_low, Bounded-set}
use Rattle.labelling.proofs.labelling.Labelling.relabel.Goals as goal

pub invariant_of-self : goal.invariant_of-self
invariant_of-self g c =
    let x = c.args.self.now in
    let n = g.N.Network.meaning c.args.net.now in
    let shaped = (g.N.Network.sound c.args.net.now).shaped in
    let label = c.label_above-label.result in
    let low = relabel_low n x.labels c.args.junction label shaped x.bounded c.label_above-label.ensures in
    record { bounded = Bounded-set x.labels c.from-at.result label (omega arith) (omega arith) low x.bounded }
