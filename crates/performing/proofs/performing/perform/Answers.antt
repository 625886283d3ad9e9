use Rattle.std.proofs.Common.{Ok, rules}
use Rattle.performing.specs.declared.answer.Answer.TheVariants as answer
use Rattle.performing.proofs.Leading.{promised}
use Rattle.performing.proofs.performing.perform.Goals as goal

pub returns-in-Settle-clause-promise : goal.returns-in-Settle-clause-promise
returns-in-Settle-clause-promise g c =
    promised _ _ (g.N.Network.giver c.args.net.now) c.args.call c.args.marks.now c.args.marks.now
    (Ok (answer.Settled c.settle-search.result.1)) (g.N.Network.sound c.args.net.now).shaped (search rules)

pub returns-in-Limit-clause-promise : goal.returns-in-Limit-clause-promise
returns-in-Limit-clause-promise g c =
    promised _ _ (g.N.Network.giver c.args.net.now) c.args.call c.args.marks.now c.args.marks.now _
    (g.N.Network.sound c.args.net.now).shaped (search rules)

pub returns-in-Drain-clause-promise : goal.returns-in-Drain-clause-promise
returns-in-Drain-clause-promise g c =
    promised _ _ (g.N.Network.giver c.args.net.now) c.args.call c.args.marks.now c.args.marks.now (Ok answer.Drained)
    (g.N.Network.sound c.args.net.now).shaped (search rules)

pub returns-in-Tally-clause-promise : goal.returns-in-Tally-clause-promise
returns-in-Tally-clause-promise g c =
    promised _ _ (g.N.Network.giver c.args.net.now) c.args.call c.args.marks.now c.args.marks.now (Ok (answer.Tally c.tally.result))
    (g.N.Network.sound c.args.net.now).shaped (search rules)

pub returns-in-Bottleneck-clause-promise : goal.returns-in-Bottleneck-clause-promise
returns-in-Bottleneck-clause-promise g c =
    promised _ _ (g.N.Network.giver c.args.net.now) c.args.call c.args.marks.now c.bottleneck.new.marks _
    (g.N.Network.sound c.args.net.now).shaped (search rules)

pub returns-in-Size-clause-promise : goal.returns-in-Size-clause-promise
returns-in-Size-clause-promise g c =
    promised _ _ (g.N.Network.giver c.args.net.now) c.args.call c.args.marks.now c.args.marks.now (Ok (answer.Size c.size.result))
    (g.N.Network.sound c.args.net.now).shaped (search rules)

pub returns-in-Reach-clause-promise : goal.returns-in-Reach-clause-promise
returns-in-Reach-clause-promise g c =
    promised _ _ (g.N.Network.giver c.args.net.now) c.args.call c.args.marks.now c.args.marks.now _
    (g.N.Network.sound c.args.net.now).shaped (search rules)

pub returns-in-Touch-clause-promise : goal.returns-in-Touch-clause-promise
returns-in-Touch-clause-promise g c =
    promised _ _ (g.N.Network.giver c.args.net.now) c.args.call c.args.marks.now c.args.marks.now (Ok (answer.Touched c.touch.result))
    (g.N.Network.sound c.args.net.now).shaped (search rules)
