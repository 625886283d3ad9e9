use Rattle.std.proofs.Common.{[], refl}
use Rattle.desk.specs.Lines.{line_text}
use Rattle.desk.specs.Rest.{rest}
use Rattle.printing.proofs.Writing.{one_more, puts_none}
use Rattle.printing.proofs.lines.put_lines.Goals as goal

pub loop-line-init : goal.loop-line-init
loop-line-init g c = (tt, tt, record { bytes = []; put = puts_none c.args.room.now; split = refl })

pub loop-line-preserved : goal.loop-line-preserved
loop-line-preserved g c =
    let left = rest g.N.Network.meaning g.N.Network.giver in (
      tt,
      tt,
      one_more (left c.into_iter-line-iterator.result) (left c.loop-line.line-iterator) (line_text c.in-Some.line)
          (left c.next.new.self) c.args.room.now c.loop-line.room c.put_line.new.room c.put.new.self c.in-Some.ensures.steps
          c.loop-line.invariant.2 c.put_line.ensures c.put.ensures,
    )
