use Rattle.std.proofs.Common.{◌≡◌, ℕ, ◌<◌, ◌≤◌, ◌∙◌, sym, ap, ⊎_elim, inl, arith}
use Rattle.std.proofs.Math.Path.{fun_ext}
use Rattle.std.proofs.lemmas.Bool.{true≢false, cases_lt, eq-eqb}
use Rattle.std.proofs.lemmas.List.{get_or_past}
use Rattle.network.specs.declared.size.Size.{Size}
use Rattle.labelling.specs.Keeping.{label_of}
use Rattle.labelling.specs.Gaps.{IsGap, raised_above}
use Rattle.labelling.proofs.Closing.{up_to_gap, fits_closed}
use Rattle.labelling.proofs.labelling.Labelling.close_gap.Goals as goal

pub returns-clause-told : goal.returns-clause-told
returns-clause-told g c =
    let x = c.args.self.now in
    let y = c.loop-v.self in
    let n = (g.N.Network.meaning c.args.net.now).junctions in
    let i = c.loop-v.invariant in
    let count = ap (λ (s : Size). s.junctions) c.size-n.ensures in
    let none : IsGap (label_of x) c.args.gap = λ v low same.
    true≢false (sym (eq-eqb (label_of x v) c.args.gap same) ∙ c.if-contains.ensures.cases v 0 (omega arith) (omega arith)) in
    let each : (u : ℕ) → label_of y u ≡ raised_above n c.args.gap (label_of x) u = λ u. ⊎_elim
    (λ (low : u < 512). rw (← count) (i.done u (omega arith)))
    (λ (past : 512 ≤ u).
    let rest = i.rest u (omega arith) in
    let zero = get_or_past x.labels u 0 (omega arith) in
    rest ∙ sym (up_to_gap n c.args.gap (label_of x) u (omega (arith, zero))))
    (cases_lt u 512) in
    record { labels = inl (none, fun_ext each); current = i.current }

pub returns-clause-fits : goal.returns-clause-fits
returns-clause-fits g c = fits_closed (g.N.Network.meaning c.args.net.now) (g.N.Network.sound c.args.net.now).shaped c.args.gap
    c.args.self.now c.loop-v.self (returns-clause-told g c)
