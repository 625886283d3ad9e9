use Rattle.std.proofs.Common.{arith}
use Rattle.flow.proofs.Walks.{ends_in}
use Rattle.searches.proofs.dd2.BegunDd2.add_begin.Goals as goal

pub returns-in-Some-clause-begin : goal.returns-in-Some-clause-begin
returns-in-Some-clause-begin g c = λ opens.
    let n = g.N.Network.meaning c.args.net.now in
    let shaped = (g.N.Network.sound c.args.net.now).shaped in
    let ends = ends_in n.junctions n.reaches c.args.step shaped.joined opens in
    rw (← c.in-Some.ensures.1) (c.add.ensures.told.here (omega (arith, ends.0, shaped.few, c.in-Some.ensures.1)))
