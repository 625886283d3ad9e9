use Rattle.std.proofs.Common.{◌≡◌, [], ◌∷◌, ◌++◌, None, rules, ◌∙◌}
use Rattle.refusal.specs.Checks.{first_of}
use Rattle.drawing.specs.Records.{chamber}
use Rattle.drawing.specs.Ahead.{ahead, item}
use Rattle.layer.specs.Keeping.{own_arcs}
use Rattle.chambers.specs.Entering.{chamber_checks, chamber_reach}
use Rattle.entries.proofs.Onward.{chamber_more, chamber_left}
use Rattle.entries.proofs.reading.enter_chambers.Goals as goal

pub reading-preserved : goal.reading-preserved
reading-preserved g c =
    let x = c.reading.layer in
    let first = c.args.layer.now.extended.below in
    let net = g.N.Network.meaning first in
    let j = c.in-Ok-Some-Chamber.junction in
    let q = c.in-Ok-Some-Chamber.limit in
    let place = c.place-place.result in
    let own = own_arcs x.extended.own in
    let told : ahead c.reading.reader ≡ item place (chamber j q) (ahead c.next.new.self) = search rules in
    let free : first_of (chamber_checks net own j q) ≡ None = search rules in
    let more : own_arcs c.enter.new.self.extended.own ≡ own ++ (chamber_reach net own j q ∷ []) = search rules in (
      c.enter.ensures.below ∙ c.reading.invariant.0,
      λ names. chamber_more names (ahead c.reading.reader) (ahead c.next.new.self) place j q net (g.N.Network.giver first) own
          (own_arcs c.enter.new.self.extended.own) told free more
          ∙ c.reading.invariant.1 names,
      chamber_left (ahead c.reading.reader) (ahead c.next.new.self) place j q net own (own_arcs c.enter.new.self.extended.own)
          told free more
          ∙ c.reading.invariant.2,
    )
