use Rattle.std.proofs.Common.{rules, ap, ◌∙◌}
use Rattle.chambers.proofs.Starting.{none_fit, none_told, none_net}
use Rattle.chambers.proofs.chambers.Chambers.new.Goals as goal

pub invariant_of-result-clause-fit : goal.invariant_of-result-clause-fit
invariant_of-result-clause-fit g c = none_fit c.new.result c.new.ensures.own

pub invariant_of-result-clause-told : goal.invariant_of-result-clause-told
invariant_of-result-clause-told g c = search (rules, none_told)

pub returns-clause-net : goal.returns-clause-net
returns-clause-net g c = none_net c.new.result c.new.ensures.own ∙ ap g.N.Network.meaning c.new.ensures.below
