use Rattle.std.proofs.Common.{◌≤◌, length, sym, ap, subst, arith}
use Rattle.flow.specs.Net.{Net}
use Rattle.layer.specs.Keeping.{own_arcs}
use Rattle.gathering.specs.Entering.{feeder}
use Rattle.gathering.specs.Standing.{feeders_of}
use Rattle.gathering.proofs.Accepted.{accepted}
use Rattle.gathering.proofs.Entered.{parted, Known, put_in, long_in, placed_low, known_more}
use Rattle.gathering.proofs.gathering.Gathering.enter.Goals as goal

pub invariant_of-self : goal.invariant_of-self
invariant_of-self g c =
    let x = c.args.self.now in
    let net = g.N.Network.meaning x.extended.below in
    let own = own_arcs x.extended.own in
    let after = own_arcs c.insert.new.self.own in
    let role = c.args.role in
    let v = c.args.junction in
    let stated = c.args.stated in
    let known : Known net (feeders_of x) = record { few_sources = x.few_sources; few_sinks = x.few_sinks; fit = x.fit } in
    let ok = accepted role net (feeders_of x) v stated c.in_ok-judge.ensures in
    let at = c.place_of-at.result in
    let more = put_in role x.sources own after (feeder role net v stated) _ x.within at.0 at.1 c.place_of-at.ensures _
    c.insert.result c.unwrap.ensures c.feeder-feeder.ensures c.insert.ensures.own in
    let low = placed_low role x.sources own x.within at.0 at.1 c.place_of-at.ensures in
    let long = long_in own after _ at.0 low.0 _ c.insert.result c.unwrap.ensures c.insert.ensures.own in
    let new = subst (λ (h : Net). Known h (parted at.1 after)) (ap g.N.Network.meaning (sym c.insert.ensures.below))
    (subst (Known net) (sym more) (known_more net (feeders_of x) v stated known role ok)) in
    record {
      within = let w : at.1 ≤ length after = omega (arith, low.1, long) in w;
      few_sources = new.few_sources;
      few_sinks = new.few_sinks;
      fit = new.fit;
    }

pub returns-clause-feeders : goal.returns-clause-feeders
returns-clause-feeders g c =
    let x = c.args.self.now in
    put_in c.args.role x.sources (own_arcs x.extended.own) _ _ _ x.within c.place_of-at.result.0 c.place_of-at.result.1
    c.place_of-at.ensures _ c.insert.result c.unwrap.ensures c.feeder-feeder.ensures c.insert.ensures.own
