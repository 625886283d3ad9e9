use Rattle.flow.proofs.Lawful.{route_laws}
use Rattle.flow.proofs.first_route_stands.Goals as goal

pub returns : goal.returns
returns c = route_laws
