-- Behind a settling that finished, tallies and bottlenecks tell the most that can be delivered.
use Rattle.std.proofs.Common.{◌≡◌, ℕ, ◌≢◌, List, [], ◌∷◌, ◌++◌, pos, refl, sym, ap, ◌∙◌, subst, ⊎_elim, true, arith}
use Rattle.std.specs.Prelude.{ℤ, ◌≤ℤ◌, IsTrue}
use Rattle.std.specs.List.{All}
use Rattle.std.proofs.lemmas.Bool.{both_ways, false≢true}
use Rattle.std.proofs.lemmas.Int.{ints}
use Rattle.std.proofs.lemmas.List.Elements.{All-nil, All-cons, All-head, All-tail, All-append, All-weaker}
use Rattle.flow.specs.Net.{Net, Shaped}
use Rattle.flow.specs.Flows.{delivered, IsFlow}
use Rattle.flow.specs.Changes.{Alike}
use Rattle.flow.specs.Routes.{Finished, IsFirst}
use Rattle.flow.specs.Pushes.{pushed_all, EachPushed, litres_of}
use Rattle.flow.specs.RouteLaws.{IsRaised}
use Rattle.flow.specs.Cuts.{cut_sum, IsBest}
use Rattle.flow.specs.Bottlenecks.{near_of}
use Rattle.flow.specs.Histories.{Outcome, Event, settling, limit_change, draining, tally, bottleneck, reading, refusal, after_call, after_calls, marked, Happens, IsHistory}
use Rattle.flow.proofs.Besting.{best_cut}
use Rattle.flow.proofs.Lasting.{Lasting, lasting}
use Rattle.flow.proofs.Likeness.{Shaped-alike}
use Rattle.flow.proofs.Machining.{shortest_from_first, raised_all}
use Rattle.flow.proofs.Marking.{near_of-is}
use Rattle.network.specs.declared.row.Row.{Row}
use Rattle.table.specs.Laid.{places_in}
use Rattle.drawing.specs.Ahead.{drawn}
use Rattle.desk.specs.Lines.{Lines, tally_line, bottleneck_line}
use Rattle.report.specs.Laws.{is_refusal}
use Rattle.report.specs.Accounts.{OneRefusal, TellsCalls}
use Rattle.report.specs.Asking.{commands_of}
use Rattle.report.specs.Described.{described}
use Rattle.report.specs.Reported.{reported}
use Rattle.report.proofs.Accounting.{accounted}
use Rattle.report.specs.Most.{SaysFinished, is_limit, is_drained, is_tally, is_bottleneck, Undisturbed, Relimited, Agrees, TellsMost, MostTold}
use Rattle.report.proofs.Limits.{limits_set, alike_limits, limits_told, relimited_once}
use Rattle.report.proofs.Bytes.{first_byte, across_byte, refusal_byte, finished_byte, no_tally_byte, no_bottleneck_byte, finished_from_yes}
use Rattle.report.proofs.Splitting.{overlap, All-left, All-right, nothing_behind, IsAcross, Says, headed, Plain, Moment, moment}

-- ---- lines that agree with an amount

-- a line that begins neither with a t nor with a b
other_agrees : (amount : ℕ) (l : List ℕ) → first_byte l ≢ 116 → first_byte l ≢ 98 → Agrees amount l
other_agrees amount l t b = (
  λ is. absurd (both_ways (is_tally l) (no_tally_byte l t) is),
  λ is. absurd (both_ways (is_bottleneck l) (no_bottleneck_byte l b) is),
)

across_agrees : (amount : ℕ) (l : List ℕ) → IsAcross l → Agrees amount l
across_agrees amount l is =
    let a = across_byte l is in
    other_agrees amount l (λ t. let z : ⊥ = omega (arith, a, t) in z) (λ b. let z : ⊥ = omega (arith, a, b) in z)

refusal_agrees : (amount : ℕ) (l : List ℕ) → is_refusal l ≡ true → Agrees amount l
refusal_agrees amount l is =
    let r = refusal_byte l is in
    other_agrees amount l (λ t. let z : ⊥ = omega (arith, r, t) in z) (λ b. let z : ⊥ = omega (arith, r, b) in z)

-- ---- a finished network that delivers the amount

module _ (amount : ℕ) (g : Net) (shaped : Shaped g) (flow : IsFlow g) (finished : Finished g) (is : delivered g ≡ pos amount) where
  -- no settling pushes a route
  none_pushed : (routes : List (List ℕ)) → EachPushed IsFirst g routes → pushed_all routes g ≡ g
  none_pushed [] firsts = refl
  none_pushed (ss ∷ more) firsts = absurd (finished ss firsts.0.shortest.route)

  -- a call that is told by a line with no limit and no draining leaves the network, and its line agrees
  still : (e : Event) (l : List ℕ) → Says e l → Undisturbed l → Happens e g → (after_call e g ≡ g) × Agrees amount l
  still (settling budget routes answer) l says calm h = (
    none_pushed routes h.settles.firsts,
    other_agrees amount l (λ t. let z : ⊥ = omega (arith, ap first_byte says, t) in z)
        (λ b. let z : ⊥ = omega (arith, ap first_byte says, b) in z),
  )
  still (limit_change k q) l says calm h = absurd (both_ways (is_limit l) calm.0 (ap is_limit says))
  still draining l says calm h = absurd (both_ways (is_drained l) calm.1 (ap is_drained says))
  still (tally answer) l says calm h = (
    refl,
    (
      λ _. says ∙ ap tally_line (h ∙ is),
      λ b. absurd (false≢true (sym (ap is_bottleneck says) ∙ b)),
    ),
  )
  still (bottleneck marks sum crossing) l says calm h =
      let best = best_cut g (marked marks) shaped flow finished h.near in
      let same : sum ≡ amount = omega (arith, ints, h.sums, best.tight, is) in (
        refl,
        (
          λ t. absurd (false≢true (sym (ap is_tally says) ∙ t)),
          λ _. says ∙ ap bottleneck_line same,
        ),
      )
  still refusal l says calm h = (refl, refusal_agrees amount l says)
  still reading l says calm h = absurd says

  -- and so do all of them
  all_agree : (events : List Event) (between later ls : Lines) → TellsCalls events ls → ls ≡ between ++ later →
      IsHistory events g → All Undisturbed between → All (Agrees amount) between
  all_agree events [] later ls tells are history calm = All-nil (Agrees amount)
  all_agree [] (b ∷ bs) later ls tells are history calm = ⊎_elim
      (λ (none : ls ≡ []). absurd (nothing_behind [] b (bs ++ later) (sym are ∙ none)))
      (λ (r : OneRefusal ls). alone r.0 (sym are ∙ r.1) r.2)
      tells
    where
      alone : (r : List ℕ) → b ∷ (bs ++ later) ≡ r ∷ [] → is_refusal r ≡ true → All (Agrees amount) (b ∷ bs)
      alone r e refuses = last bs cc
        where
          same : r ≡ b
          same = cc

          last : (xs : Lines) → xs ++ later ≡ [] → All (Agrees amount) (b ∷ xs)
          last [] none =
              All-cons (Agrees amount) b [] (refusal_agrees amount b (ap is_refusal (sym same) ∙ refuses)) (All-nil (Agrees amount))
          last (x ∷ xs) none = absurd (nothing_behind [] x (xs ++ later) none)
  all_agree (e ∷ es) (b ∷ bs) later ls (now, others, are, told, more) is' history calm =
      let h = headed e now told in
      let whole : b ∷ (bs ++ later) ≡ h.line ∷ (h.across ++ others) = sym is' ∙ are ∙ ap (λ (x : Lines). x ++ others) h.are in
      let same : h.line ≡ b = cc in
      let here = still e b (subst (Says e) same h.says) (All-head Undisturbed b bs calm) history.0 in
      let rest = All-tail Undisturbed b bs calm in
      let on : IsHistory es g = subst (IsHistory es) here.0 history.1 in
      let crossing = All-weaker IsAcross (Agrees amount) (across_agrees amount) h.across h.each in
      All-cons (Agrees amount) b bs here.1 (⊎_elim
      (λ (o : (c : Lines) × (bs ≡ h.across ++ c) × (c ++ later ≡ others)).
      let calm' = All-right Undisturbed h.across o.0 (subst (All Undisturbed) o.1 rest) in
      subst (All (Agrees amount)) (sym o.1)
      (All-append (Agrees amount) h.across o.0 crossing (all_agree es o.0 later others more (sym o.2) on calm')))
      (λ (o : (c : Lines) × (h.across ≡ bs ++ c) × (later ≡ c ++ others)).
      All-left (Agrees amount) bs o.0 (subst (All (Agrees amount)) o.1 crossing))
      (overlap bs later h.across others cc))

-- ---- a settling that finished

pub record IsFinishing (e : Event) : Type 0 where
  pub budget : ℕ
  pub routes : List (List ℕ)
  pub answer : Outcome
  pub is : e ≡ settling budget routes answer
  pub finished : IsTrue answer.finished

-- its line is that of no other call
finishing : (e : Event) (l : List ℕ) → SaysFinished l → Says e l → IsFinishing e
finishing (settling budget routes answer) l finished says = record {
  budget = budget;
  routes = routes;
  answer = answer;
  is = refl;
  finished = finished_from_yes answer.routes answer.litres answer.finished (subst SaysFinished says finished);
}
finishing (limit_change k q) l finished says =
    absurd (let z : ⊥ = omega (arith, finished_byte l finished, ap first_byte says) in z)
finishing draining l finished says = absurd (let z : ⊥ = omega (arith, finished_byte l finished, ap first_byte says) in z)
finishing (tally answer) l finished says =
    absurd (let z : ⊥ = omega (arith, finished_byte l finished, ap first_byte says) in z)
finishing (bottleneck marks sum crossing) l finished says =
    absurd (let z : ⊥ = omega (arith, finished_byte l finished, ap first_byte says) in z)
finishing refusal l finished says =
    absurd (let z : ⊥ = omega (arith, finished_byte l finished, refusal_byte l says) in z)
finishing reading l finished says = absurd says

-- ---- all together

moment_tells_most : (start : Net) (before : Lines) (l : List ℕ) (between later : Lines) →
    Moment start before l (between ++ later) → SaysFinished l → All Undisturbed between → TellsMost start before between
moment_tells_most start before l between later x says calm = record {
  scheme = limits_set x.earlier start;
  limits = limits;
  only = λ other told. relimited_once before start other (limits_set x.earlier start) x.commissioned.shaped.listed told limits;
  amount = amount;
  most = record {
    most = λ h alike flow. subst (λ (d : ℤ). delivered h ≤ℤ d) best.tight (best.most h (sym same ∙ alike) flow);
    attained = (end, same, raised.flow, best.tight);
  };
  agree = all_agree amount end shaped raised.flow finished best.tight x.later between later (between ++ later) x.tells refl
      (on.1) calm;
}
  where
    limits : Relimited before start (limits_set x.earlier start)
    limits = limits_told x.earlier before start start x.told refl x.history

    call : IsFinishing x.call
    call = finishing x.call l says x.says

    -- the network before the settling, and the one behind it
    at : Net
    at = after_calls x.earlier start

    end : Net
    end = pushed_all call.routes at

    there : Lasting start at
    there = lasting x.earlier start x.commissioned x.history

    on : IsHistory (settling call.budget call.routes call.answer ∷ x.later) at
    on = subst (λ (e : Event). IsHistory (e ∷ x.later) at) call.is x.on

    raised : IsRaised at end (litres_of at call.routes)
    raised = raised_all at call.routes there.shaped there.flow (shortest_from_first at call.routes on.0.settles.firsts)

    shaped : Shaped end
    shaped = Shaped-alike at end raised.alike there.shaped

    finished : Finished end
    finished = on.0.tells.0 call.finished

    amount : ℕ
    amount = cut_sum (near_of end) end.reaches

    best : IsBest end (near_of end)
    best = best_cut end (near_of end) shaped raised.flow finished (near_of-is end shaped)

    -- it has the limits that were set
    same : Alike (limits_set x.earlier start) end
    same = alike_limits x.earlier start start refl ∙ raised.alike

pub most_told : (rows : List Row) (input : List ℕ) → MostTold (drawn input) (reported (places_in rows) input)
most_told rows input first l before between later are says calm =
    let d = drawn input in
    let b = finished_byte l says in
    let plain : Plain l = (λ e. omega (arith, b, e), λ e. omega (arith, b, e), λ e. omega (arith, b, e)) in
    let x = moment (described d) (commands_of d) (reported (places_in rows) input) (accounted rows input) first l before
    (between ++ later) are plain in
    moment_tells_most (described d) before l between later x says calm
