-- Laws about refusals.
use Rattle.std.specs.Prelude.{◌≡◌, List, Result}
use Rattle.refusal.specs.declared.Fault.{Fault}
use Rattle.refusal.specs.declared.Refusal.{Refusal}
use Rattle.refusal.specs.Numbers.{number_of}
use Rattle.refusal.specs.Checks.{Check, Judged}

-- the number tells the fault, and a call with given checks has one answer only
pub record OneAnswer : Type 0 where
  pub number : (f h : Fault) → number_of f ≡ number_of h → f ≡ h
  pub answer : (cs : List Check) (r s : Result Unit Refusal) → Judged cs r → Judged cs s → r ≡ s
