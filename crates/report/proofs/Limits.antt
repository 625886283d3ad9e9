-- The limits that calls set, and the limits that lines tell.
use Rattle.std.proofs.Common.{◌≡◌, ℕ, ◌≤◌, false, List, [], ◌∷◌, ◌++◌, length, set, refl, sym, ap, ◌∙◌, subst, inl, inr, ⊎_elim, arith, length-set}
use Rattle.std.proofs.lemmas.Bool.{both_ways}
use Rattle.std.specs.List.{All}
use Rattle.std.proofs.lemmas.List.{map-set}
use Rattle.std.proofs.lemmas.List.Elements.{All-head, All-tail}
use Rattle.flow.specs.Bounds.{most_reaches}
use Rattle.flow.specs.Net.{Arc, Net, arc_at}
use Rattle.flow.specs.Changes.{carrying, limiting, with_reaches, relimited, drained, Alike}
use Rattle.flow.specs.Histories.{Event, settling, limit_change, draining, tally, bottleneck, reading, refusal, after_call, after_calls, Happens, IsHistory}
use Rattle.flow.proofs.Changing.{drained_at}
use Rattle.flow.proofs.Likeness.{bare, bare-alike, length-alike, Alike-drained}
use Rattle.flow.proofs.Machining.{Alike-pushed_all}
use Rattle.desk.specs.Lines.{Lines}
use Rattle.report.specs.Accounts.{OneRefusal, TellsCalls}
use Rattle.report.specs.Most.{is_limit, Relimited}
use Rattle.report.proofs.Bytes.{across_byte, refusal_byte, no_limit_byte, one_limit}
use Rattle.report.proofs.Splitting.{IsAcross, Says, headed}

-- what a call does to the limits of a network, and what calls do
abbrev pub limit_set : Event → Net → Net
limit_set (limit_change k q) g = relimited k q g
limit_set e g = g

abbrev pub limits_set : List Event → Net → Net
limits_set [] g = g
limits_set (e ∷ es) g = limits_set es (limit_set e g)

-- a limit is set and the network is drained, in either order
drained_relimited : (k q : ℕ) (g : Net) → drained (relimited k q g) ≡ relimited k q (drained g)
drained_relimited k q g =
    let put = map-set (carrying 0) g.reaches k (limiting q (arc_at g.reaches k)) in
    let same = ap (λ (r : Arc). set (bare g.reaches) k (limiting q r)) (sym (drained_at g.reaches k)) in
    ap (with_reaches g) (put ∙ same)

-- networks that are alike but for what they carry stay so when a call happens on one and only its limit is set on the other
pub alike_limit : (e : Event) (g h : Net) → Alike g h → Alike (limit_set e g) (after_call e h)
alike_limit (settling budget routes answer) g h a = a ∙ Alike-pushed_all routes h
alike_limit (limit_change k q) g h a = drained_relimited k q g ∙ ap (relimited k q) a ∙ sym (drained_relimited k q h)
alike_limit draining g h a = a ∙ Alike-drained h
alike_limit e g h a = a

pub alike_limits : (es : List Event) (g h : Net) → Alike g h → Alike (limits_set es g) (after_calls es h)
alike_limits [] g h a = a
alike_limits (e ∷ es) g h a = alike_limits es (limit_set e g) (after_call e h) (alike_limit e g h a)

-- a line that is no limit's sets none
no_limit : (l : List ℕ) (ls : Lines) (g h : Net) → is_limit l ≡ false → Relimited ls g h → Relimited (l ∷ ls) g h
no_limit l ls g h none r = inr (none, r)

-- so do lines of crossing reaches
across_no_limit : (across ls : Lines) (g h : Net) → All IsAcross across → Relimited ls g h → Relimited (across ++ ls) g h
across_no_limit [] ls g h each r = r
across_no_limit (l ∷ across) ls g h each r =
    let first = across_byte l (All-head IsAcross l across each) in
    let none = no_limit_byte l (λ same. let z : ⊥ = omega (arith, first, same) in z) in
    inr (none, across_no_limit across ls g h (All-tail IsAcross l across each) r)

-- the line of a call sets what the call sets, which happened on a network that is alike but for what it carries
limit_told : (e : Event) (l : List ℕ) (ls : Lines) (g at h : Net) → Says e l → Alike g at → Happens e at →
    Relimited ls (limit_set e g) h → Relimited (l ∷ ls) g h
limit_told (settling budget routes answer) l ls g at h says a p r = no_limit l ls g h (ap is_limit says) r
limit_told (limit_change k q) l ls g at h says a p r =
    let many = length-alike g.reaches at.reaches (bare-alike g at a) in
    inl (k, q, omega (arith, p.0, many), p.1, says, r)
limit_told draining l ls g at h says a p r = no_limit l ls g h (ap is_limit says) r
limit_told (tally answer) l ls g at h says a p r = no_limit l ls g h (ap is_limit says) r
limit_told (bottleneck marks sum crossing) l ls g at h says a p r = no_limit l ls g h (ap is_limit says) r
limit_told refusal l ls g at h says a p r =
    let first = refusal_byte l says in
    no_limit l ls g h (no_limit_byte l (λ same. let z : ⊥ = omega (arith, first, same) in z)) r
limit_told reading l ls g at h says a p r = absurd says

-- and so do the lines of calls one after another
pub limits_told : (es : List Event) (ls : Lines) (g at : Net) → TellsCalls es ls → Alike g at → IsHistory es at →
    Relimited ls g (limits_set es g)
limits_told [] ls g at tells a h = ⊎_elim
    (λ (none : ls ≡ []). subst (λ (x : Lines). Relimited x g g) (sym none) refl)
    (λ (r : OneRefusal ls). subst (λ (x : Lines). Relimited x g g) (sym r.1) (limit_told refusal r.0 [] g at g r.2 a tt refl))
    tells
limits_told (e ∷ es) ls g at (now, later, are, told, more) a h =
    let x = headed e now told in
    let end = limits_set es (limit_set e g) in
    let rest = limits_told es later (limit_set e g) (after_call e at) more (alike_limit e g at a) h.1 in
    let behind = across_no_limit x.across later (limit_set e g) end x.each rest in
    subst (λ (y : Lines). Relimited y g end) (sym (are ∙ ap (λ (y : Lines). y ++ later) x.are))
    (limit_told e x.line (x.across ++ later) g at end x.says a h.0 behind)

-- lines tell one network only
pub relimited_once : (ls : Lines) (g x y : Net) → length g.reaches ≤ most_reaches → Relimited ls g x → Relimited ls g y → x ≡ y
relimited_once [] g x y few r s = sym r ∙ s
relimited_once (l ∷ ls) g x y few (inl (k, q, low, high, is, r)) (inl (i, p, low', high', is', s)) =
    let same = one_limit k q i p (omega arith) (omega arith) (omega arith) (omega arith) (sym is ∙ is') in
    let there : relimited i p g ≡ relimited k q g =
    ap (λ (j : ℕ). relimited j p g) (sym same.0) ∙ ap (λ (c : ℕ). relimited k c g) (sym same.1) in
    relimited_once ls (relimited k q g) x y (omega (arith, length-set g.reaches k (limiting q (arc_at g.reaches k)))) r
    (subst (λ (z : Net). Relimited ls z y) there s)
relimited_once (l ∷ ls) g x y few (inl (k, q, low, high, is, r)) (inr s) = absurd (both_ways (is_limit l) s.0 (ap is_limit is))
relimited_once (l ∷ ls) g x y few (inr r) (inl (k, q, low, high, is, s)) = absurd (both_ways (is_limit l) r.0 (ap is_limit is))
relimited_once (l ∷ ls) g x y few (inr r) (inr s) = relimited_once ls g x y few r.1 s.1
