-- Marks that are written over others.
use Rattle.std.proofs.Common.{◌≡◌, ℕ, ◌<◌, ◌≤◌, Bool, true, false, List, length, take, get_or, eqb, sym, ◌∙◌, arith, length-take}
use Rattle.std.proofs.lemmas.List.{ext_get_or, get_or-take}
use Rattle.std.proofs.lemmas.Bool.Decides.{nat_tests}
use Rattle.std.proofs.lemmas.List.FromFn.{get_or-map-range_with_len}
use Rattle.flow.specs.Net.{Net, Shaped}
use Rattle.flow.specs.Cuts.{Side, IsBottleneck, cut_sum, crossing_count}
use Rattle.flow.specs.Histories.{marked, mark, marks_of}
use Rattle.flow.specs.Bottlenecks.{near_of, bottleneck_sum, bottleneck_count}
use Rattle.flow.proofs.Answering.{marks_of-length}
use Rattle.flow.proofs.Besting.{cut_sum-same, crossing_count-same}
use Rattle.flow.proofs.Marking.{one_near}

bit_back : (x : ℕ) (b : Bool) → x ≤ 1 → eqb x 1 ≡ b → x ≡ mark b
bit_back x true low e = grind (arith, nat_tests)
bit_back x false low e = grind (arith, nat_tests)

-- the first n of marks that tell the bottleneck are its marks
pub first_marks : (g : Net) (xs : List ℕ) → Shaped g → ((v : ℕ) → get_or xs v 0 ≤ 1) → IsBottleneck g (marked xs) →
    g.junctions ≤ length xs → take g.junctions xs ≡ marks_of (near_of g) g.junctions
first_marks g xs shaped bits is enough =
    ext_get_or 0 (take g.junctions xs) (marks_of (near_of g) g.junctions)
    (omega (arith, front, marks_of-length (near_of g) g.junctions)) each
  where
    front : length (take g.junctions xs) ≡ g.junctions
    front = omega (arith, length-take g.junctions xs)

    each : (v : ℕ) → v < length (take g.junctions xs) → get_or (take g.junctions xs) v 0 ≡ get_or (marks_of (near_of g) g.junctions) v 0
    each v l =
        let low : v < g.junctions = omega (arith, front) in
        get_or-take g.junctions xs v 0 low
        ∙ bit_back (get_or xs v 0) (near_of g v) (bits v) (one_near g (marked xs) shaped is v low)
        ∙ sym (get_or-map-range_with_len (λ u. mark (near_of g u)) 0 g.junctions v v 0 low (omega arith))

-- and so the sum and the number of what crosses are those of the bottleneck
pub same_sum : (g : Net) (near : Side) → Shaped g → IsBottleneck g near → cut_sum near g.reaches ≡ bottleneck_sum g
same_sum g near shaped is = cut_sum-same near (near_of g) g.junctions g.reaches shaped.joined (one_near g near shaped is)

pub same_count : (g : Net) (near : Side) → Shaped g → IsBottleneck g near → crossing_count near g.reaches ≡ bottleneck_count g
same_count g near shaped is =
    crossing_count-same near (near_of g) g.junctions g.reaches shaped.joined (one_near g near shaped is)
