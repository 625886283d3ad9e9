use Rattle.std.proofs.Common.{[], refl, rules}
use Rattle.desk.specs.Lines.{line_text}
use Rattle.desk.specs.Rest.{rest}
use Rattle.report.proofs.Telling.{one_more}
use Rattle.report.proofs.printed.tell.Goals as goal

pub loop-line-init : goal.loop-line-init
loop-line-init g c = (tt, tt, λ p. record { bytes = []; put = record { wrote = search rules; plain = p }; split = refl })

pub loop-line-preserved : goal.loop-line-preserved
loop-line-preserved g c =
    let left = rest g.N.Network.meaning g.N.Network.giver in (
      tt,
      tt,
      λ p. one_more g.W.Write.write_str_gives (left c.into_iter-line-iterator.result) (left c.loop-line.line-iterator)
          (line_text c.in-Some.line) (left c.next.new.self) c.args.f.now c.loop-line.f _ c.in-Some.ensures.steps
          (c.loop-line.invariant.2 p) (search rules),
    )
