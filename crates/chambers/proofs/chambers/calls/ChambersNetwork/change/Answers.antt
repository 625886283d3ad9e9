use Rattle.std.proofs.Common.{rules}
use Rattle.chambers.proofs.Changes.{fit_still, told_still, change_done}
use Rattle.chambers.proofs.chambers.calls.ChambersNetwork.change.Goals as goal

pub invariant_of-self-clause-fit : goal.invariant_of-self-clause-fit
invariant_of-self-clause-fit g c = search (rules, fit_still)

pub invariant_of-self-clause-told : goal.invariant_of-self-clause-told
invariant_of-self-clause-told g c = search (rules, told_still)

pub returns-clause-done : goal.returns-clause-done
returns-clause-done g c = search (rules, change_done)
