use Rattle.std.proofs.Common.{rules, arith}
use Rattle.std.proofs.lemmas.Grind.{common_steps}
use Rattle.chambers.proofs.Admitting.{fit_entered, told_entered, net_entered}
use Rattle.chambers.proofs.chambers.Chambers.enter.Goals as goal

pub invariant_of-self-clause-fit : goal.invariant_of-self-clause-fit
invariant_of-self-clause-fit g c =
    fit_entered c.args.self.now c.args.junction c.args.limit c.in_ok-judge.ensures c.insert.new.self (search rules)
    (grind (arith, common_steps))

pub invariant_of-self-clause-told : goal.invariant_of-self-clause-told
invariant_of-self-clause-told g c =
    told_entered c.args.self.now c.args.junction c.args.limit c.in_ok-judge.ensures c.insert.new.self (search rules)
    (grind (arith, common_steps)) _ _ c.from.ensures (search rules) (omega arith)

pub returns-clause-net : goal.returns-clause-net
returns-clause-net g c =
    net_entered c.args.self.now c.args.junction c.args.limit c.in_ok-judge.ensures c.insert.new.self (search rules)
    (grind (arith, common_steps))
