use Rattle.std.proofs.Common.{refl}
use Rattle.report.proofs.laws.line_kinds_stand.Goals as goal

pub returns : goal.returns
returns c = record {
  network = λ n m. refl;
  limit = λ k q. refl;
  settled = λ routes litres finished. refl;
  drained = refl;
  tally = λ d. refl;
  bottleneck = λ sum. refl;
  across = λ k tail head q. refl;
  refusal = λ number place part. refl;
}
