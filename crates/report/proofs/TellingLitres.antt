-- Every tally tells the litres that settlings added since the last draining.
use Rattle.std.proofs.Common.{◌≡◌, ℕ, ◌+◌, ◌-◌, ◌^◌, ◌<◌, ◌≢◌, true, List, [], ◌∷◌, ◌++◌, length, pos, refl, sym, ap, ◌∙◌, subst, inl, inr, ⊎_elim, arith}
use Rattle.std.specs.List.{All}
use Rattle.std.proofs.lemmas.Bool.{both_ways}
use Rattle.std.proofs.lemmas.Int.{ints}
use Rattle.std.proofs.lemmas.List.Elements.{All-head, All-tail}
use Rattle.std.proofs.lemmas.Nat.{mul-le}
use Rattle.flow.specs.Bounds.{most_junctions, most_reaches}
use Rattle.flow.specs.Net.{Net, Shaped}
use Rattle.flow.specs.Flows.{delivered, IsFlow}
use Rattle.flow.specs.Histories.{Outcome, Event, settling, limit_change, draining, tally, bottleneck, reading, refusal, after_call, after_calls, IsSettling, Happens, IsHistory, litres_after, litres_counted}
use Rattle.flow.proofs.Adding.{adds_up, dry_delivers}
use Rattle.flow.proofs.Changing.{amounts_bounded}
use Rattle.flow.proofs.Lasting.{lasting_call, dry_flow}
use Rattle.flow.proofs.Machining.{shortest_from_first}
use Rattle.flow.proofs.Running.{runs_bounded}
use Rattle.network.specs.declared.row.Row.{Row}
use Rattle.table.specs.Laid.{places_in}
use Rattle.drawing.specs.Ahead.{drawn}
use Rattle.desk.specs.Lines.{Lines, tally_line}
use Rattle.report.specs.Laws.{is_refusal}
use Rattle.report.specs.Accounts.{OneRefusal, TellsCalls}
use Rattle.report.specs.Asking.{commands_of}
use Rattle.report.specs.Described.{described}
use Rattle.report.specs.Reported.{reported}
use Rattle.report.specs.Most.{is_drained, is_tally}
use Rattle.report.specs.Adding.{is_settled, LitresTold, AddsUp}
use Rattle.report.proofs.Accounting.{accounted}
use Rattle.report.proofs.Bytes.{first_byte, across_byte, refusal_byte, tally_byte, no_settled_byte, no_drained_byte, one_settled}
use Rattle.report.proofs.Splitting.{IsAcross, Says, headed, Plain, moment}

-- ---- behind lines there is one amount only

told_to_one : (ls : Lines) (a x y : ℕ) → LitresTold ls a x → LitresTold ls a y → x ≡ y
told_to_one [] a x y r s = sym r ∙ s
told_to_one (l ∷ ls) a x y (inl (d, (n, f, n-fits, d-fits, is), r)) (inl (p, (i, g, i-fits, p-fits, is'), s)) =
    let same = one_settled n d i p f g n-fits d-fits i-fits p-fits (sym is ∙ is') in
    told_to_one ls (a + d) x y r (subst (λ (z : ℕ). LitresTold ls (a + z) y) (sym same) s)
told_to_one (l ∷ ls) a x y (inl (d, (n, f, n-fits, d-fits, is), r)) (inr (inl s)) =
    absurd (both_ways (is_drained l) (ap is_drained is) s.0)
told_to_one (l ∷ ls) a x y (inl (d, (n, f, n-fits, d-fits, is), r)) (inr (inr s)) =
    absurd (both_ways (is_settled l) s.0 (ap is_settled is))
told_to_one (l ∷ ls) a x y (inr (inl r)) (inl (d, (n, f, n-fits, d-fits, is), s)) =
    absurd (both_ways (is_drained l) (ap is_drained is) r.0)
told_to_one (l ∷ ls) a x y (inr (inl r)) (inr (inl s)) = told_to_one ls 0 x y r.1 s.1
told_to_one (l ∷ ls) a x y (inr (inl r)) (inr (inr s)) = absurd (both_ways (is_drained l) s.1 r.0)
told_to_one (l ∷ ls) a x y (inr (inr r)) (inl (d, (n, f, n-fits, d-fits, is), s)) =
    absurd (both_ways (is_settled l) r.0 (ap is_settled is))
told_to_one (l ∷ ls) a x y (inr (inr r)) (inr (inl s)) = absurd (both_ways (is_drained l) r.1 s.0)
told_to_one (l ∷ ls) a x y (inr (inr r)) (inr (inr s)) = told_to_one ls a x y r.2 s.2

-- ---- the lines of calls tell what the calls count

-- what a settling answers are numbers of at most 64 bits
settled_fits : (g : Net) (a budget : ℕ) (routes : List (List ℕ)) (answer : Outcome) → Shaped g → IsFlow g → delivered g ≡ pos a →
    IsSettling g budget routes answer → (answer.routes < 2 ^ 64) × (answer.litres < 2 ^ 64)
settled_fits g a budget routes answer shaped flow so h =
    let e : Event = settling budget routes answer in
    let few = (runs_bounded g routes shaped (shortest_from_first g routes h.settles.firsts)).total in
    let most = mul-le (length g.reaches) (g.junctions - 1) most_reaches most_junctions shaped.listed (omega (arith, shaped.few)) in
    let x = lasting_call e g shaped flow h in
    let end = after_call e g in
    let adds = adds_up (e ∷ []) g a shaped flow so (h, tt) in
    let low = (amounts_bounded end end.intake (record { shaped = x.shaped; within = x.flow.within })).0 in
    (omega (arith, h.counts, few, most), omega (arith, ints, adds, low))

-- a line of a crossing reach or of a refusal changes nothing
changes_nothing : (l : List ℕ) (ls : Lines) (a b : ℕ) → first_byte l ≢ 115 → first_byte l ≢ 100 → LitresTold ls a b →
    LitresTold (l ∷ ls) a b
changes_nothing l ls a b s d r = inr (inr (no_settled_byte l s, no_drained_byte l d, r))

across_nothing : (across ls : Lines) (a b : ℕ) → All IsAcross across → LitresTold ls a b → LitresTold (across ++ ls) a b
across_nothing [] ls a b each r = r
across_nothing (l ∷ across) ls a b each r =
    let first = across_byte l (All-head IsAcross l across each) in
    changes_nothing l (across ++ ls) a b (λ s. let z : ⊥ = omega (arith, first, s) in z)
    (λ d. let z : ⊥ = omega (arith, first, d) in z) (across_nothing across ls a b (All-tail IsAcross l across each) r)

refusal_nothing : (l : List ℕ) (ls : Lines) (a b : ℕ) → is_refusal l ≡ true → LitresTold ls a b → LitresTold (l ∷ ls) a b
refusal_nothing l ls a b is r =
    let first = refusal_byte l is in
    changes_nothing l ls a b (λ s. let z : ⊥ = omega (arith, first, s) in z) (λ d. let z : ⊥ = omega (arith, first, d) in z) r

call_told : (e : Event) (l : List ℕ) (ls : Lines) (g : Net) (a b : ℕ) → Says e l → Shaped g → IsFlow g → delivered g ≡ pos a →
    Happens e g → LitresTold ls (litres_after e a) b → LitresTold (l ∷ ls) a b
call_told (settling budget routes answer) l ls g a b says shaped flow so h r =
    let fits = settled_fits g a budget routes answer shaped flow so h in
    inl (answer.litres, (answer.routes, answer.finished, fits.0, fits.1, says), r)
call_told (limit_change k q) l ls g a b says shaped flow so h r = inr (inr (ap is_settled says, ap is_drained says, r))
call_told draining l ls g a b says shaped flow so h r = inr (inl (ap is_drained says, r))
call_told (tally answer) l ls g a b says shaped flow so h r = inr (inr (ap is_settled says, ap is_drained says, r))
call_told (bottleneck marks sum crossing) l ls g a b says shaped flow so h r =
    inr (inr (ap is_settled says, ap is_drained says, r))
call_told refusal l ls g a b says shaped flow so h r = refusal_nothing l ls a b says r
call_told reading l ls g a b says shaped flow so h r = absurd says

calls_told : (es : List Event) (ls : Lines) (g : Net) (a : ℕ) → TellsCalls es ls → Shaped g → IsFlow g → delivered g ≡ pos a →
    IsHistory es g → LitresTold ls a (litres_counted es a)
calls_told [] ls g a tells shaped flow so h = ⊎_elim
    (λ (none : ls ≡ []). subst (λ (x : Lines). LitresTold x a a) (sym none) refl)
    (λ (r : OneRefusal ls). subst (λ (x : Lines). LitresTold x a a) (sym r.1) (refusal_nothing r.0 [] a a r.2 refl))
    tells
calls_told (e ∷ es) ls g a (now, later, are, told, more) shaped flow so h =
    let x = headed e now told in
    let y = lasting_call e g shaped flow h.0 in
    let adds = adds_up (e ∷ []) g a shaped flow so (h.0, tt) in
    let b = litres_counted (e ∷ es) a in
    let rest = calls_told es later (after_call e g) (litres_after e a) more y.shaped y.flow adds h.1 in
    let behind = across_nothing x.across later (litres_after e a) b x.each rest in
    subst (λ (z : Lines). LitresTold z a b) (sym (are ∙ ap (λ (z : Lines). z ++ later) x.are))
    (call_told e x.line (x.across ++ later) g a b x.says shaped flow so h.0 behind)

-- ---- all together

-- the line of a tally is that of no other call
tallied : (e : Event) (l : List ℕ) (g : Net) → is_tally l ≡ true → Says e l → Happens e g → l ≡ tally_line (delivered g)
tallied (tally answer) l g is says h = says ∙ ap tally_line h
tallied (settling budget routes answer) l g is says h = absurd (both_ways (is_tally l) (ap is_tally says) is)
tallied (limit_change k q) l g is says h = absurd (both_ways (is_tally l) (ap is_tally says) is)
tallied draining l g is says h = absurd (both_ways (is_tally l) (ap is_tally says) is)
tallied (bottleneck marks sum crossing) l g is says h = absurd (both_ways (is_tally l) (ap is_tally says) is)
tallied refusal l g is says h = absurd (let z : ⊥ = omega (arith, tally_byte l is, refusal_byte l says) in z)
tallied reading l g is says h = absurd says

pub adds_told : (rows : List Row) (input : List ℕ) → AddsUp (reported (places_in rows) input)
adds_told rows input first l before later are is =
    let d = drawn input in
    let start = described d in
    let b = tally_byte l is in
    let plain : Plain l = (λ e. omega (arith, b, e), λ e. omega (arith, b, e), λ e. omega (arith, b, e)) in
    let x = moment start (commands_of d) (reported (places_in rows) input) (accounted rows input) first l before later are plain in
    let amount = litres_counted x.earlier 0 in
    let c = x.commissioned in
    let litres = calls_told x.earlier before start 0 x.told c.shaped (dry_flow start c) (dry_delivers start c) x.history in
    record {
      amount = amount;
      litres = litres;
      only = λ other told. told_to_one before 0 other amount told litres;
      tells = tallied x.call l (after_calls x.earlier start) is x.says x.on.0 ∙ ap tally_line x.promise.adds;
    }
