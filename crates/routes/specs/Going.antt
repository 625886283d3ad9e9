-- Going through the steps at a junction, in their order.
use Rattle.std.specs.Prelude.{◌≡◌, ℕ, ◌-◌, ◌*◌, ◌<◌, ◌≤◌, ◌⊎◌, ◌↔◌, List, length, Some, None, Option}
use Rattle.std.specs.Iterator.{Count, at_most}
use Rattle.flow.specs.Net.{Arc, Net}
use Rattle.flow.specs.Steps.{along_reach, begins, finishes}
use Rattle.flow.specs.Routes.{GoesFirst}
use Rattle.routes.specs.declared.step.StepEnd.{StepEnd}
use Rattle.routes.specs.declared.step.OpenStep.{OpenStep}
use Rattle.routes.specs.declared.step.OpenSteps.{OpenSteps}
use Rattle.routes.specs.Ends.{OpensAt}

-- the step that no other goes before
abbrev pub first_step : ℕ
first_step = 0

-- a step is told with its ends
pub record IsTold (rs : List Arc) (x : OpenStep) : Type 0 where
  pub begin : x.begin ≡ begins rs x.number
  pub finish : x.finish ≡ finishes rs x.number

-- the open step along reach k with that end at the junction, or nothing where there is none
abbrev pub TheOpen : List Arc → StepEnd → ℕ → ℕ → Option OpenStep → Type 0
TheOpen rs e v k (Some x) = IsTold rs x × OpensAt e rs v x.number × (along_reach x.number ≡ k)
TheOpen rs e v k None = (s : ℕ) → OpensAt e rs v s → ¬ (along_reach s ≡ k)

-- the first step from step c on that has the property, or nothing where each such step goes before c
abbrev pub FirstFrom : (ℕ → Type 0) → List Arc → ℕ → Option OpenStep → Type 0
FirstFrom P rs c (Some x) =
    IsTold rs x × P x.number × ¬ GoesFirst x.number c × ((t : ℕ) → P t → GoesFirst t x.number → GoesFirst t c)
FirstFrom P rs c None = (t : ℕ) → P t → GoesFirst t c

-- where a step begins, or nothing exactly where there is no such step
abbrev pub BeginTold : List Arc → ℕ → Option ℕ → Type 0
BeginTold rs s (Some v) = (along_reach s < length rs) × (v ≡ begins rs s)
BeginTold rs s None = length rs ≤ along_reach s

-- over any network, by what it means
module _ {N : Type 0} (meant : N → Net) where
  -- the open steps at the junction of which some are still to come
  abbrev pub OpenThere : OpenSteps N → ℕ → Type 0
  OpenThere s t = OpensAt s.end (meant s.net.now).reaches s.junction t

  -- what has been passed now: what had been passed before, and the step that was given; where none was, all of them
  abbrev pub PassedNow : OpenSteps N → Option OpenStep → OpenSteps N → Type 0
  PassedNow s None t = (u : ℕ) → OpenThere s u → GoesFirst u t.next
  PassedNow s (Some x) t = (u : ℕ) → OpenThere s u → (GoesFirst u t.next ↔ GoesFirst u s.next ⊎ (u ≡ x.number))

  -- the first of the steps still to come, and then those behind it
  pub record OpenNext (s : OpenSteps N) (r : Option OpenStep) (t : OpenSteps N) : Type 0 where
    pub net : t.net ≡ s.net
    pub junction : t.junction ≡ s.junction
    pub end : t.end ≡ s.end
    pub first : FirstFrom (OpenThere s) (meant s.net.now).reaches s.next r
    pub passed : PassedNow s r t

  -- no more are left than there are numbers
  abbrev pub steps_left : OpenSteps N → Count
  steps_left s = at_most (2 * length (meant s.net.now).reaches - s.next)
