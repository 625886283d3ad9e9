use Rattle.std.proofs.Common.{nat_lt, rules, tests}
use Rattle.std.proofs.lemmas.Iterator.Consumers.{YieldsList-from_first}
use Rattle.std.proofs.lemmas.Iterator.Search.{any_from_yields_List}
use Rattle.network.specs.Answers.{arc_in}
use Rattle.network.specs.Going.{reaches_left}
use Rattle.layer.proofs.entering.carries_any.Goals as goal

pub returns : goal.returns
returns g c =
    any_from_yields_List (λ r. nat_lt 0 r.carried) c.any.new.self _ c.any.result c.any.ensures.ran
    (YieldsList-from_first arc_in (reaches_left g.N.Network.meaning) {s = c.of-reaches.result}
    (g.N.Network.meaning c.args.net.now).reaches c.of-reaches.ensures)
    (λ x b q k. search (rules, tests))
