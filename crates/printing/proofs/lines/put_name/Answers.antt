use Rattle.std.proofs.Common.{◌≡◌, ℕ, ◌+◌, ◌<◌, List, [], ◌∷◌, ◌++◌, length}
use Rattle.std.proofs.Common.{take, get_or, encode_utf8, encode_utf8_all, sym, ap, ◌∙◌, append-nil, arith}
use Rattle.std.proofs.lemmas.Str.{encodes-append}
use Rattle.std.proofs.lemmas.List.{take_more}
use Rattle.printing.specs.Putting.{Puts}
use Rattle.printing.proofs.Writing.{puts_none, puts_then}
use Rattle.printing.proofs.lines.put_name.Goals as goal

one_more : (bs : List ℕ) (i c : ℕ) → i < length bs → c ≡ get_or bs i 0 →
    encode_utf8_all (take i bs) ++ encode_utf8 c ≡ encode_utf8_all (take (i + 1) bs)
one_more bs i c low is =
    ap (λ (x : ℕ). encode_utf8_all (take i bs) ++ encode_utf8 x) is
    ∙ ap (λ (text : List ℕ). encode_utf8_all (take i bs) ++ text) (sym (append-nil (encode_utf8 (get_or bs i 0))))
    ∙ sym (encodes-append (take i bs) (get_or bs i 0 ∷ []))
    ∙ ap encode_utf8_all (sym (take_more bs i 0 low))

pub loop-byte-init : goal.loop-byte-init
loop-byte-init c = puts_none c.args.room.now

pub loop-byte-preserved : goal.loop-byte-preserved
loop-byte-preserved c =
    let bs = c.args.name.now in
    let i = c.loop-byte.byte-index in
    let put : Puts c.loop-byte.room (encode_utf8 c.from.result) c.put.new.self =
    rw c.encode_utf8.ensures.value at c.put.ensures in
    let all = puts_then c.args.room.now c.loop-byte.room c.put.new.self (encode_utf8_all (take i bs)) (encode_utf8 c.from.result)
    c.loop-byte.invariant put in
    rw (one_more bs i c.from.result (omega arith) c.from.ensures) at all
