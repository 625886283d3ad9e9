-- What a search that is in step answers when it is asked for a route, and what it is in step with then.
use Rattle.std.specs.Prelude.{Some, None, Option}
use Rattle.flow.specs.Net.{Net}
use Rattle.flow.specs.Routes.{Finished, IsFirst}
use Rattle.flow.specs.Pushes.{pushed}
use Rattle.routes.specs.declared.route.Route.{Route}
use Rattle.routes.specs.Routing.{steps_of}

-- The first shortest route of the network, or that none exists. The search is in step with the network as it is, and with
-- the network after exactly that route is pushed.
abbrev pub Answers : Net → (Net → Type 0) → Option Route → Type 0
Answers g in_step (Some r) = IsFirst g (steps_of r) × in_step g × in_step (pushed (steps_of r) g)
Answers g in_step None = Finished g × in_step g
