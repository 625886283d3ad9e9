-- The end of a reach.
use Rattle.std.specs.Prelude.{ℕ}
use Rattle.flow.specs.Net.{Arc}
use Rattle.layer.specs.declared.ends.End.{End}
use Rattle.layer.specs.declared.ends.End.TheVariants.{Tail, Head}

abbrev pub end_of : End → Arc → ℕ
end_of Tail r = r.tail
end_of Head r = r.head
