use Rattle.std.proofs.Common.{◌≡◌, ℕ, ◌∙◌, set, replicate, subst, arith}
use Rattle.std.specs.Prelude.{slice_index}
use Rattle.labelling.proofs.Sets.{blank_out, blank_other, blank_most}
use Rattle.labelling.proofs.exact.unlabelled.Goals as goal

pub returns-clause-outfall : goal.returns-clause-outfall
returns-clause-outfall c =
    let n = c.args.size.junctions in
    let out = c.from.result in
    subst (λ (v : ℕ). slice_index (set (replicate 512 n) out 0) v ≡ 0) c.from.ensures (blank_out n out (omega (arith, c.requires)))

pub returns-clause-blank : goal.returns-clause-blank
returns-clause-blank c = λ v inside ne.
    blank_other c.args.size.junctions c.from.result (omega (arith, c.requires)) v inside (λ same. ne (same ∙ c.from.ensures))

pub returns-clause-most : goal.returns-clause-most
returns-clause-most c = blank_most c.args.size.junctions c.from.result (omega (arith, c.requires))
