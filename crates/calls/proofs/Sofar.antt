-- A settling that is under way: the routes that it has pushed.
use Rattle.std.proofs.Common.{◌≡◌, ℕ, ◌+◌, ◌≤◌, true, false, List, [], ◌∷◌, ◌++◌, length, sym, ap, ap₂, ◌∙◌, subst, inl, inr, arith, length-append}
use Rattle.flow.specs.Net.{Net, Shaped}
use Rattle.flow.specs.Routes.{Finished, IsFirst}
use Rattle.flow.specs.Pushes.{least_headroom, pushed, pushed_all, EachPushed, litres_of}
use Rattle.flow.specs.Histories.{Outcome}
use Rattle.flow.proofs.Deciding.{settling_of, settling_of-is}
use Rattle.flow.proofs.Answering.{one_settling}
use Rattle.flow.proofs.Machining.{pushed_all-append, EachPushed-append, litres_of-append}
use Rattle.calls.specs.declared.settling.Settled.{Settled}
use Rattle.calls.specs.Settling.{outcome_of, SettledAs, after_settling}

-- first shortest routes were pushed, so many, and added so many litres
pub record SoFar (was now : Net) (count litres : ℕ) : Type 0 where
  pub routes : List (List ℕ)
  pub firsts : EachPushed IsFirst was routes
  pub counts : count ≡ length routes
  pub adds : litres ≡ litres_of was routes
  pub leads : now ≡ pushed_all routes was

-- one route more
pub one_more : (was now after : Net) (count litres d : ℕ) (ss : List ℕ) → SoFar was now count litres → IsFirst now ss →
    d ≡ least_headroom now.reaches ss → after ≡ pushed ss now → SoFar was after (count + 1) (litres + d)
one_more was now after count litres d ss so first is done =
    let last = subst (λ g. IsFirst g ss) so.leads first in
    let add : d ≡ least_headroom (pushed_all so.routes was).reaches ss = is ∙ ap (λ (g : Net). least_headroom g.reaches ss) so.leads in
    record {
      routes = so.routes ++ ss ∷ [];
      firsts = EachPushed-append IsFirst was so.routes (ss ∷ []) so.firsts (last, tt);
      counts = omega (arith, so.counts, length-append so.routes (ss ∷ []));
      adds = omega (arith, so.adds, add, litres_of-append so.routes (ss ∷ []) was);
      leads = done ∙ ap (pushed ss) so.leads ∙ sym (pushed_all-append so.routes (ss ∷ []) was);
    }

-- settling ends where its budget is spent and a route is left, or where none is left
pub at_budget : (was now : Net) (budget : ℕ) (s : Settled) → SoFar was now s.routes s.litres → s.routes ≡ budget →
    s.finished ≡ false → ¬ Finished now → SettledAs was budget s now
at_budget was now budget s so spent not_yet left = record {
  routes = so.routes;
  settling = record {
    settles = record {
      firsts = so.firsts;
      spent = omega (arith, so.counts, spent);
      stops = inr (sym so.counts ∙ spent);
    };
    counts = so.counts;
    adds = so.adds;
    tells = (λ e. absurd (let z : false ≡ true = sym not_yet ∙ e in cc), λ f. absurd (left (subst Finished (sym so.leads) f)));
  };
  leaves = so.leads;
}

pub at_end : (was now : Net) (budget : ℕ) (s : Settled) → SoFar was now s.routes s.litres → s.routes ≤ budget →
    s.finished ≡ true → Finished now → SettledAs was budget s now
at_end was now budget s so within closed none =
    let over = subst Finished so.leads none in
    record {
      routes = so.routes;
      settling = record {
        settles = record { firsts = so.firsts; spent = omega (arith, so.counts, within); stops = inl over };
        counts = so.counts;
        adds = so.adds;
        tells = (λ e. over, λ f. closed);
      };
      leaves = so.leads;
    }

-- there is one settling only
pub one_settled : (g after : Net) (budget : ℕ) (s : Settled) → Shaped g → SettledAs g budget s after →
    (outcome_of s, after) ≡ after_settling budget g
one_settled g after budget s shaped told =
    let there = settling_of-is budget g shaped in
    let same = one_settling g budget told.routes (settling_of budget g).0 (outcome_of s) (settling_of budget g).1
    told.settling there in
    ap₂ (λ (x : Outcome) (y : Net). (x, y)) same.1 (told.leaves ∙ ap (λ rs. pushed_all rs g) same.0)
