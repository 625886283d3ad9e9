-- The laws of specs/, each put together from the lemmas that prove its parts.
use Rattle.std.proofs.Common.{ℕ, zero, suc, ◌≢◌, List, [], ◌∷◌, sym, arith}
use Rattle.std.proofs.lemmas.List.Elements.{All-from_recursion}
use Rattle.std.proofs.lemmas.Int.{ints}
use Rattle.flow.specs.Steps.{along_reach}
use Rattle.flow.specs.RouteLaws.{NoReachTwice, RouteLaws, PushLaws, MachineLaws}
use Rattle.flow.specs.CutLaws.{CutLaws}
use Rattle.flow.specs.LabelLaws.{LabelLaws}
use Rattle.flow.proofs.Likeness.{Shaped-alike}
use Rattle.flow.proofs.Cutting.{cut_balance, carried_across-le}
use Rattle.flow.proofs.Besting.{best_cut, agreed}
use Rattle.flow.proofs.Pushing.{Apart, raised, least_above_0, Sound-pushed}
use Rattle.flow.proofs.Labelling.{descent_from_admissible, admissible_from_descent, labels_bound, labels_pushed, still_pushed, others_pushed, labels_relabelled, still_elsewhere}
use Rattle.flow.proofs.Firsts.{first_unique, first_from_labels}
use Rattle.flow.proofs.Distances.{shortest_length, shortest_labels}
use Rattle.flow.proofs.Finding.{bottleneck_found, no_walk, high_finished, exact_found, exact_walk, first_found}
use Rattle.flow.proofs.Running.{descent_along}
use Rattle.flow.proofs.Attaining.{equality}
use Rattle.flow.proofs.Machining.{shortest_apart, raised_all, settles_unique, settles_found, enough}
use Rattle.flow.proofs.Lasting.{drained_flow, limited_flow}

no_reach_twice : (ss : List ℕ) → Apart ss → NoReachTwice ss
no_reach_twice [] apart i j d before low = absurd (let z : ⊥ = omega arith in z)
no_reach_twice (s ∷ ss) apart zero zero d before low = absurd (let z : ⊥ = omega arith in z)
no_reach_twice (s ∷ ss) apart zero (suc j) d before low =
    λ same. All-from_recursion (λ t. along_reach t ≢ along_reach s) ss apart.0 j d (omega arith) (sym same)
no_reach_twice (s ∷ ss) apart (suc i) zero d before low = absurd (let z : ⊥ = omega arith in z)
no_reach_twice (s ∷ ss) apart (suc i) (suc j) d before low = no_reach_twice ss apart.1 i j d (omega arith) (omega arith)

pub route_laws : RouteLaws
route_laws = record {
  one = first_unique;
  found = first_found;
  once = λ g ss is. no_reach_twice ss (shortest_apart g ss is);
  short = shortest_length;
}

pub push_laws : PushLaws
push_laws = record {
  push = λ g ss shaped flow is. raised g ss is.route (shortest_apart g ss is) shaped flow;
  above = least_above_0;
  run = raised_all;
  sound = λ g ss sound is. Sound-pushed g ss is.route (shortest_apart g ss is) sound;
  drain = drained_flow;
  limit = limited_flow;
}

pub machine_laws : MachineLaws
machine_laws = record { one = settles_unique; found = settles_found; enough = enough }

pub cut_laws : CutLaws
cut_laws = record {
  identity = λ g near shaped flow cut. omega (arith, ints, cut_balance g near shaped flow cut);
  duality = λ g near shaped flow cut.
      let most = carried_across-le near g.reaches flow.within in
      omega (arith, ints, cut_balance g near shaped flow cut);
  found = bottleneck_found;
  best = best_cut;
  equal = equality;
  agree = λ g h near other shaped a flow flows finished others is is'.
      agreed g h near other shaped a flow flows (best_cut g near shaped flow finished is)
      (best_cut h other (Shaped-alike g h a shaped) flows others is');
}

pub label_laws : LabelLaws
label_laws = record {
  bound = λ g label from ss to h w. labels_bound g label h from ss to w;
  high = no_walk;
  none = high_finished;
  first = first_from_labels;
  pushing = λ g label ss h r all.
      labels_pushed g label ss (descent_from_admissible label g.reaches g.intake ss g.outfall r all).falls h;
  still = λ g label ss h r all.
      still_pushed g label ss (descent_from_admissible label g.reaches g.intake ss g.outfall r all);
  others = λ g label ss r all s.
      others_pushed g label ss (descent_from_admissible label g.reaches g.intake ss g.outfall r all) s;
  relabelling = labels_relabelled;
  elsewhere = still_elsewhere;
  found = exact_found;
  exact = λ g label v shaped is low less.
      let x = exact_walk g label v shaped is low less in (x.steps, x.walk, x.long);
  tight = λ g ss is.
      let x = shortest_labels g ss is in
      (x.0, x.1, admissible_from_descent x.0 g.reaches g.intake ss g.outfall (descent_along g x.0 x.1 ss is.route x.2));
}
