-- A network whose first reaches are drained, and one reach more.
use Rattle.std.proofs.Common.{◌≡◌, ℕ, ◌+◌, ◌<◌, ◌++◌, map, length, take, drop, ap, ◌∙◌, arith, length-append, length-drop, length-take}
use lib.ListN.{length-map}
use Rattle.std.proofs.lemmas.List.Edits.{map_over_more}
use Rattle.std.proofs.lemmas.List.{get_or_default}
use Rattle.flow.specs.Net.{Net, no_arc, arc_at}
use Rattle.flow.specs.Changes.{carrying, with_reaches, recarried}

-- the first k reaches carry nothing, the others what they carried
abbrev pub dried_to : ℕ → Net → Net
dried_to k g = with_reaches g (map (carrying 0) (take k g.reaches) ++ drop k g.reaches)

dried_length : (k : ℕ) (g : Net) → length (dried_to k g).reaches ≡ length g.reaches
dried_length k g = simp (length-append, length-map, length-take, length-drop) (omega arith)

-- the step of the loop: where the first k reaches are dry, and reach k is set to carry 0, one reach more is dry
pub dried_more : (was before after : Net) (k : ℕ) → k < length was.reaches → before ≡ dried_to k was →
    after ≡ recarried k 0 before → after ≡ dried_to (k + 1) was
dried_more was before after k low so done =
    let there : k < length before.reaches = omega (arith, ap (λ (g : Net). length g.reaches) so, dried_length k was) in
    let same = get_or_default before.reaches k no_arc (arc_at before.reaches k) there in
    let dry = map_over_more (carrying 0) was.reaches before.reaches k (arc_at before.reaches k) low
    (ap (λ (g : Net). g.reaches) so) same in
    done ∙ ap (λ (g : Net). with_reaches g (recarried k 0 before).reaches) so ∙ ap (with_reaches was) dry
