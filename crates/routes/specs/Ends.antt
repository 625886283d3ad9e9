-- The end of a step, and the open steps that have it at a junction.
use Rattle.std.specs.Prelude.{◌≡◌, ℕ, Bool, List}
use Rattle.flow.specs.Net.{Arc}
use Rattle.flow.specs.Steps.{goes_back, arc_of, begins_at, finishes_at, IsOpen}
use Rattle.routes.specs.declared.step.StepEnd.{StepEnd}
use Rattle.routes.specs.declared.step.StepEnd.TheVariants.{Begin, Finish}

-- that end of a step along a reach, back or forth
abbrev pub end_at_way : StepEnd → Bool → Arc → ℕ
end_at_way Begin back r = begins_at back r
end_at_way Finish back r = finishes_at back r

-- and of a step of a list of reaches
abbrev pub end_at : StepEnd → List Arc → ℕ → ℕ
end_at e rs s = end_at_way e (goes_back s) (arc_of rs s)

-- a step is open and has that end at the junction
pub record OpensAt (e : StepEnd) (rs : List Arc) (v s : ℕ) : Type 0 where
  pub opens : IsOpen rs s
  pub there : end_at e rs s ≡ v
