use Rattle.std.proofs.Common.{rules}
use Rattle.chambers.proofs.Touches.{touched_plain, touched_chambered, touched_twin, touched_outside}
use Rattle.chambers.proofs.chambers.Chambers.touch_below.Goals as goal

pub returns-in_err-row : goal.returns-in_err-row
returns-in_err-row g c =
    touched_outside c.args.self.now c.args.junction c.args.k _ _ (search rules) c.from.ensures (search rules) (search rules)

pub returns-then-junction-junctions : goal.returns-then-junction-junctions
returns-then-junction-junctions g c =
    touched_twin c.args.self.now c.args.junction c.args.k _ _ (search rules) c.from.ensures c.in_ok-row.row (search rules)
    (search rules)

pub returns-then-has_twin : goal.returns-then-has_twin
returns-then-has_twin g c =
    touched_chambered c.args.self.now c.args.junction c.args.k _ (search rules) (search rules) (search rules)

pub returns-else-has_twin : goal.returns-else-has_twin
returns-else-has_twin g c =
    touched_plain c.args.self.now c.args.junction c.args.k _ (search rules) (search rules) (search rules)
