use Rattle.std.proofs.Common.{take, encode_utf8_all}
use Rattle.printing.specs.Putting.{Puts}
use Rattle.printing.proofs.lines.put_name.Given as goal

-- the bytes so far are put
abbrev pub invariant-loop-byte : goal.invariant-loop-byte
invariant-loop-byte l = Puts l.initial.room (encode_utf8_all (take l.byte-index l.name)) l.room
