-- Sources and sinks over a sound network make a sound network.
use Rattle.std.proofs.Common.{ℕ, ◌+◌, ◌<◌, ◌≤◌, List, [], ◌∷◌, ◌++◌, length, take, drop, subst, arith, length-append}
use Rattle.std.specs.List.{All}
use Rattle.std.proofs.lemmas.List.Elements.{All-weaker, All-append}
use Rattle.std.proofs.lemmas.List.{take-append-drop}
use Rattle.flow.specs.Net.{Arc, Net, FairArc, Sound}
use Rattle.flow.proofs.Fairness.{fair_all, sound_from_fair}
use Rattle.layer.specs.Gathered.{gathered, SourceArc, SinkArc, FeedersFit}

-- a feeder's two ends are among the junctions and the two new ones
source_fair : (n : ℕ) (r : Arc) → SourceArc n r → FairArc (n + 2) r
source_fair n r s =
    ((omega (arith, s.0), omega (arith, s.1), λ same. let z : ⊥ = omega (arith, s.0, s.1, same) in z), s.2, s.3)

sink_fair : (n : ℕ) (r : Arc) → SinkArc n r → FairArc (n + 2) r
sink_fair n r s =
    ((omega (arith, s.0), omega (arith, s.1), λ same. let z : ⊥ = omega (arith, s.0, s.1, same) in z), s.2, s.3)

wider : (n : ℕ) (r : Arc) → FairArc n r → FairArc (n + 2) r
wider n r s = ((omega (arith, s.0.0), omega (arith, s.0.1), s.0.2), s.1, s.2)

opened_sound : (g : Net) (own : List Arc) → Sound g → (0 < length own → g.junctions + 2 ≤ 512) →
    length g.reaches + length own ≤ 2048 → All (FairArc (g.junctions + 2)) own → Sound (gathered g own)
opened_sound g [] s small short fair = s
opened_sound g (f ∷ fs) s small short fair =
    let n = g.junctions in
    sound_from_fair (gathered g (f ∷ fs)) (omega arith) (small (omega arith))
    (omega (arith, short, length-append g.reaches (f ∷ fs))) (omega arith) (omega arith)
    (λ same. let z : ⊥ = omega (arith, same) in z)
    (All-append (FairArc (n + 2)) g.reaches (f ∷ fs)
    (All-weaker (FairArc n) (FairArc (n + 2)) (wider n) g.reaches (fair_all g s)) fair)

-- the first s feeders are the sources'
pub gathered_sound : (g : Net) (s : ℕ) (own : List Arc) → Sound g →
    FeedersFit g.junctions (length g.reaches) (take s own) (drop s own) → Sound (gathered g own)
gathered_sound g s own sound f =
    let n = g.junctions in
    let both = length-append (take s own) (drop s own) in
    let whole = take-append-drop s own in
    let fair = All-append (FairArc (n + 2)) (take s own) (drop s own)
    (All-weaker (SourceArc n) (FairArc (n + 2)) (source_fair n) (take s own) f.from)
    (All-weaker (SinkArc n) (FairArc (n + 2)) (sink_fair n) (drop s own) f.to) in
    subst (λ (fs : List Arc). Sound (gathered g fs)) whole
    (opened_sound g (take s own ++ drop s own) sound (λ some. f.small (omega (arith, both))) (omega (arith, both, f.short)) fair)
