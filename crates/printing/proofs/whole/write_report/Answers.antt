use Rattle.std.proofs.Common.{◌≡◌, ℕ, List, [], ◌∷◌, ◌++◌, append-nil, rules}
use Rattle.desk.specs.Lines.{text}
use Rattle.report.specs.Reported.{reported}
use Rattle.printing.specs.declared.room.Room.{Room}
use Rattle.printing.specs.Bytes.{written}
use Rattle.printing.specs.Putting.{Puts}
use Rattle.printing.proofs.Writing.{whole, puts_then}
use Rattle.printing.proofs.whole.write_report.Goals as goal
use Rattle.printing.proofs.whole.write_report.Goals.{in-Ok, in-Err}

-- one line, and its end
ended : (r s t : Room) (l : List ℕ) → Puts r l s → Puts s (10 ∷ []) t → Puts r (text (l ∷ [])) t
ended r s t l p q = rw (append-nil (l ++ (10 ∷ []))) (puts_then r s t l (10 ∷ []) p q)

pub returns-clause-bytes : goal.returns-clause-bytes
returns-clause-bytes g c =
    let all = text (reported 1024 c.args.drawing.now) in
    let put : Puts c.new-room.result all c.match-open.room = elim c.match-open.branch [
      | in-Ok w ↦ rw (w.room-is, w.in-Ok.ensures.lines) w.put_lines.ensures
      | in-Err w ↦ rw (w.room-is, w.in-Err.ensures.lines) (ended _ _ _ _ w.put_refusal.ensures w.put.ensures)
    ] in
    let done : c.match-open.room.out.now ≡ written all c.args.out.now =
    whole c.new-room.result c.match-open.room all c.args.out.now c.new-room.ensures.len c.new-room.ensures.out put in
    search rules
