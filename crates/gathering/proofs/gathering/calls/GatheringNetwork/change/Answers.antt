use Rattle.std.proofs.Common.{sym, ◌∙◌}
use Rattle.layer.specs.Keeping.{own_arcs}
use Rattle.layer.proofs.Lifting.{unlifted}
use Rattle.gathering.specs.Standing.{gathering_giver}
use Rattle.gathering.proofs.Gathered.{gathered_changed}
use Rattle.gathering.proofs.gathering.calls.GatheringNetwork.change.Goals as goal

pub returns-clause-done : goal.returns-clause-done
returns-clause-done g c =
    let x = c.args.self.now in
    let y = c.change.new.self in
    let all = c.change.ensures in
    gathered_changed c.args.change (gathering_giver x) c.args.k c.change.result (g.N.Network.meaning x.extended.below)
    (g.N.Network.meaning y.below) (own_arcs x.extended.own) (own_arcs y.own) (sym y.known ∙ all.base ∙ x.extended.known)
    all.ends.0 (all.done (λ r. r) (λ rs. rs) unlifted)
