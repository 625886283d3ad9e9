use Rattle.std.proofs.Common.{◌<◌, length, refl, arith}
use Rattle.flow.proofs.Walks.{ends_in}
use Rattle.labelling.proofs.Sets.{relabelled_from_set}
use Rattle.labelling.proofs.labelling.Labelling.advance.Goals as goal

pub returns-clause-told : goal.returns-clause-told
returns-clause-told g c =
    let n = g.N.Network.meaning c.args.net.now in
    let shaped = (g.N.Network.sound c.args.net.now).shaped in
    let found = c.in_ok-step.ensures in
    let s = c.in_ok-step.step.number in
    let at = found.1 in
    let low : c.args.junction < length c.args.self.now.current =
    omega (arith, (ends_in n.junctions n.reaches s shaped.joined at.admissible.opens).0, at.there, shaped.few) in
    (found, (refl, rw c.from.ensures (relabelled_from_set c.args.self.now.current c.args.junction s low)))
