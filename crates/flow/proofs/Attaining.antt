-- The most that a flow can deliver is the least sum of a cut: a network that is drained and settled attains it.
use Rattle.std.proofs.Common.{◌≡◌, ℕ, ◌-◌, ◌*◌, List, length, pos, ◌∙◌, sym, ap, arith}
use Rattle.flow.specs.Net.{Net, Shaped}
use Rattle.flow.specs.Flows.{delivered, IsFlow}
use Rattle.flow.specs.Changes.{drained, Alike}
use Rattle.flow.specs.Pushes.{pushed_all, litres_of, Settles}
use Rattle.flow.specs.RouteLaws.{IsRaised}
use Rattle.flow.specs.Cuts.{Side, IsCut, cut_sum, IsBottleneck}
use Rattle.flow.proofs.Likeness.{bare-alike, Shaped-alike, Alike-drained, cut_sum-alike, IsCut-alike}
use Rattle.flow.proofs.Besting.{best_cut}
use Rattle.flow.proofs.Finding.{bottleneck_found}
use Rattle.flow.proofs.Machining.{shortest_from_first, raised_all, settles_found, enough}
use Rattle.flow.proofs.Lasting.{drained_flow}

pub equality : (g : Net) → Shaped g →
    (h : Net) × (near : Side) × Alike g h × IsFlow h × IsCut g near × (delivered h ≡ pos (cut_sum near g.reaches))
equality g shaped = settled (settles_found start budget dry_shaped)
  where
    start : Net
    start = drained g

    budget : ℕ
    budget = length start.reaches * (start.junctions - 1)

    dry_shaped : Shaped start
    dry_shaped = Shaped-alike g start (Alike-drained g) shaped

    settled : (routes : List (List ℕ)) × Settles start budget routes →
        (h : Net) × (near : Side) × Alike g h × IsFlow h × IsCut g near × (delivered h ≡ pos (cut_sum near g.reaches))
    settled (routes, settles) = named (bottleneck_found end (Shaped-alike g end alike shaped))
      where
        end : Net
        end = pushed_all routes start

        raised : IsRaised start end (litres_of start routes)
        raised = raised_all start routes dry_shaped (drained_flow g) (shortest_from_first start routes settles.firsts)

        alike : Alike g end
        alike = Alike-drained g ∙ raised.alike

        named : (near : Side) × IsBottleneck end near →
            (h : Net) × (near : Side) × Alike g h × IsFlow h × IsCut g near × (delivered h ≡ pos (cut_sum near g.reaches))
        named (near, is) =
            let finished = enough start budget routes dry_shaped settles (omega arith) in
            let best = best_cut end near (Shaped-alike g end alike shaped) raised.flow finished is in
            let sums = cut_sum-alike near end.reaches g.reaches (bare-alike end g (sym alike)) in
            (end, near, alike, raised.flow, IsCut-alike near end g (sym alike) best.cut, best.tight ∙ ap pos sums)
