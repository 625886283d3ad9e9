use Rattle.std.proofs.Common.{◌≡◌, ◌≢◌, ℕ, ◌<◌, List, length, ◌∙◌, get_or, ap, sym, subst, ⊎_elim, arith}
use Rattle.std.proofs.lemmas.Bool.{cases_eq}
use Rattle.std.proofs.lemmas.List.{get_or_default}
use Rattle.flow.specs.Steps.{begins, IsOpen}
use Rattle.routes.specs.Routing.{steps_of}
use Rattle.searches.specs.Waiting.{IsPending}
use Rattle.searches.proofs.dd2.BegunDd2.add_begins.Goals as goal

pub loop-step-preserved : goal.loop-step-preserved
loop-step-preserved g c =
    let rs = (g.N.Network.meaning c.args.net.now).reaches in
    let i = c.loop-step.invariant in
    let e = c.add_begin.ensures in
    let ss = steps_of c.args.route.now in
    let at = c.loop-step.step-index in
    let here = ap (λ (xs : List ℕ). get_or xs at 0) c.steps-step-items.ensures in
    record {
      kept = e.kept ∙ i.kept;
      grows = λ u p. e.grows u (i.grows u p);
      begins = λ k d low opens. ⊎_elim
          (λ (last : k ≡ at).
          let there : at < length ss = rw (← c.steps-step-items.ensures) c.loop-step-test.true in
          let same = ap (λ j. get_or ss j d) last ∙ get_or_default ss at d 0 there ∙ sym here in
          subst (λ s. IsPending c.add_begin.new.self.pending (begins rs s)) (sym same) (e.begin (subst (IsOpen rs) same opens)))
          (λ (ne : k ≢ at). e.grows (begins rs (get_or ss k d)) (i.begins k d (omega arith) opens)) (cases_eq k at);
    }
