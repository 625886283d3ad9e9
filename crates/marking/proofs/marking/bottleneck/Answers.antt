use Rattle.std.proofs.Common.{◌≡◌, ℕ, ◌≤◌, ◌++◌, drop, ap₂, true, false, refl, sym, ap, ◌∙◌, List, [], ◌∷◌, length, ltb, arith}
use Rattle.std.proofs.lemmas.Bool.Decides.{nat_tests}
use Rattle.refusal.specs.declared.Part.TheVariants.{Network}
use Rattle.refusal.specs.Checks.{check}
use Rattle.refusal.proofs.Checking.{caught, passed}
use Rattle.flow.specs.Bottlenecks.{has_route, bottleneck_sum, bottleneck_count, marked_over}
use Rattle.flow.specs.Histories.{marked}
use Rattle.flow.proofs.Marking.{one_near, marked_tells}
use Rattle.network.specs.declared.size.Size.{Size}
use Rattle.marking.specs.declared.crossing.Bottleneck.{Bottleneck}
use Rattle.marking.proofs.Writing.{first_marks, same_sum, same_count}
use Rattle.marking.proofs.marking.bottleneck.Goals as goal

-- the first check does not apply, and the second tells whether the outfall is near
enough : (n m : ℕ) → n ≤ m → ltb m n ≡ false
enough n m all = grind (arith, nat_tests)

pub returns-then-is_near : goal.returns-then-is_near
returns-then-is_near g c =
    let n = g.N.Network.meaning c.args.net.now in
    let shaped = (g.N.Network.sound c.args.net.now).shaped in
    let near = c.near_marks-near.ensures.near in
    let count = c.from-n.ensures ∙ ap (λ (s : Size). s.junctions) c.size-size.ensures in
    let marks = c.args.marks.now in
    let out : marked c.near_marks-near.result n.outfall ≡ has_route n =
    one_near n (marked c.near_marks-near.result) shaped near n.outfall shaped.outfall_in in
    let is : has_route n ≡ true =
    sym out ∙ ap (marked c.near_marks-near.result) (sym (ap (λ (s : Size). s.outfall) c.size-size.ensures)) ∙ sym c.is_near.ensures
    ∙ c.if-is_near.true in
    let all : n.junctions ≤ length marks = let not = c.if-marks-n.false in omega (arith, count) in
    let first = passed (ltb (length marks) n.junctions) 8 Network (check (has_route n) 10 Network ∷ [])
    (enough n.junctions (length marks) all) in
    rw c.new-then-is_near.ensures (record {
      judged = (first ∙ caught (has_route n) 10 Network [] is, refl);
      answer = tt;
      marks = refl;
    })

pub returns : goal.returns
returns g c =
    let n = g.N.Network.meaning c.args.net.now in
    let shaped = (g.N.Network.sound c.args.net.now).shaped in
    let e = c.near_marks-near.ensures in
    let xs = c.near_marks-near.result in
    let count = c.from-n.ensures ∙ ap (λ (s : Size). s.junctions) c.size-size.ensures in
    let marks = c.args.marks.now in
    let out : marked xs n.outfall ≡ has_route n = one_near n (marked xs) shaped e.near n.outfall shaped.outfall_in in
    let is : has_route n ≡ false =
    sym out ∙ ap (marked xs) (sym (ap (λ (s : Size). s.outfall) c.size-size.ensures)) ∙ sym c.is_near.ensures ∙ c.if-is_near.false in
    let all : n.junctions ≤ length marks = let not = c.if-marks-n.false in omega (arith, count) in
    let first = passed (ltb (length marks) n.junctions) 8 Network (check (has_route n) 10 Network ∷ [])
    (enough n.junctions (length marks) all) in
    let front = first_marks n xs shaped e.bits e.near (omega (arith, e.long, shaped.few)) in
    let written : c.copy_from_slice.new.self ++ drop c.from-n.result marks ≡ marked_over n marks =
    rw (c.copy_from_slice.ensures.after, count) (ap (λ (ms : List ℕ). ms ++ drop n.junctions marks) front) in
    let sum : c.across.result.sum ≡ bottleneck_sum n = c.across.ensures.sum ∙ same_sum n (marked xs) shaped e.near in
    let crossing : c.across.result.crossing ≡ bottleneck_count n = c.across.ensures.crossing ∙ same_count n (marked xs) shaped e.near in
    let told = marked_tells n marks shaped is all in
    record {
      judged = first ∙ passed (has_route n) 10 Network [] is;
      answer = (
        ap₂ (λ (x y : ℕ). made x y) sum crossing,
        rw (written, sum, crossing) told,
      );
      marks = written;
    }
  where
    made : ℕ → ℕ → Bottleneck
    made x y = record { sum = x; crossing = y }
