-- The order of the records of a whole drawing.
use Rattle.std.specs.Prelude.{◌≡◌, true, Some}
use Rattle.drawing.specs.declared.kind.Stage.{Stage}
use Rattle.drawing.specs.Kinds.{follows, ends}
use Rattle.drawing.specs.Ahead.{Drawn, item, end, refused}
use Rattle.drawing.specs.Spelling.{written}

-- from a stage on each record has its place, at the stage that the records before it led to; and where the drawing ends
-- without a refusal, it may end there
abbrev pub InOrder : Stage → Drawn → Type 0
InOrder stage (item p a rest) = (next : Stage) × (follows stage (written a).0 ≡ Some next) × InOrder next rest
InOrder stage (end p) = ends stage ≡ true
InOrder stage (refused e) = Unit {0}
