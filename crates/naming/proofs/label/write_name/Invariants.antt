use Rattle.std.proofs.Common.{take, encode_utf8_all}
use Rattle.std.specs.Fmt.{IsPlainFormatter, HasWritten}
use Rattle.naming.proofs.label.write_name.Given as goal

-- the bytes so far are written
abbrev pub invariant-loop-byte : goal.invariant-loop-byte
invariant-loop-byte g l =
    IsPlainFormatter l.initial.f →
    HasWritten g.W.Write.write_str_gives l.initial.f (encode_utf8_all (take l.byte-index l.name)) l.f
