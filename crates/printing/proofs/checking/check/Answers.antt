use Rattle.std.proofs.Common.{◌∙◌}
use Rattle.printing.proofs.Accepting.{decided, never_none}
use Rattle.printing.proofs.checking.check.Goals as goal

pub returns-in-Some : goal.returns-in-Some
returns-in-Some c =
    let is = c.in_ok-desk.ensures.lines ∙ c.in-Some.ensures in
    rw c.verdict.ensures (decided _ _ _ _ c.in-Some.line is c.in_ok-desk.ensures.once)

pub returns-in-None : goal.returns-in-None
returns-in-None c =
    let is = c.in_ok-desk.ensures.lines ∙ c.in-None.ensures.0 in
    let told = rw is at c.in_ok-desk.ensures.once in
    absurd (never_none _ _ told)
