use Rattle.std.proofs.Common.{◌≡◌, ℕ, ◌+◌, List, [], ◌∷◌, ◌++◌, take, get_or, encode_utf8, encode_utf8_all, refl, sym, ap, ◌∙◌, arith, append-nil, ◌<◌, length}
use Rattle.std.proofs.Output.{has_written_append, has_written_of_eq}
use Rattle.std.proofs.lemmas.Str.{encodes-append}
use Rattle.std.proofs.lemmas.List.{take_more}
use Rattle.naming.proofs.label.write_name.Goals as goal

one_more : (bs : List ℕ) (i c : ℕ) → i < length bs → c ≡ get_or bs i 0 →
    encode_utf8_all (take i bs) ++ encode_utf8 c ≡ encode_utf8_all (take (i + 1) bs)
one_more bs i c low is =
    ap (λ (x : ℕ). encode_utf8_all (take i bs) ++ encode_utf8 x) is
    ∙ ap (λ (text : List ℕ). encode_utf8_all (take i bs) ++ text) (sym (append-nil (encode_utf8 (get_or bs i 0))))
    ∙ sym (encodes-append (take i bs) (get_or bs i 0 ∷ []))
    ∙ ap encode_utf8_all (sym (take_more bs i 0 low))

pub loop-byte-preserved : goal.loop-byte-preserved
loop-byte-preserved g c = λ plain.
    let so_far = c.loop-byte.invariant plain in
    let more = has_written_append _ _ _ _ _ _ so_far (c.in_ok-write_char.ensures.writes so_far.plain refl) in
    has_written_of_eq _ _ _ _ _ (one_more c.args.name.now c.loop-byte.byte-index c.from.result (omega arith) c.from.ensures) more
