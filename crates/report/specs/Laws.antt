-- A law about every report, in the words of its reader.
use Rattle.std.specs.Prelude.{◌≡◌, ℕ, zero, suc, ◌+◌, Bool, true, false, ◌⊎◌, List, [], ◌∷◌, codes}
use Rattle.std.specs.List.{All}
use Rattle.drawing.specs.Records.{Said, shape, name, reach, table_end, chamber, source, sink, limit, settle, drain, bottleneck, tally}
use Rattle.drawing.specs.Ahead.{Drawn, item, end, refused}
use Rattle.desk.specs.Lines.{Lines, network_line}
use Rattle.desk.specs.Laws.{starts_with}

-- whether a line tells the size of a network, and whether it tells a refusal
abbrev pub is_network : List ℕ → Bool
is_network l = starts_with (codes "network ") l

abbrev pub is_refusal : List ℕ → Bool
is_refusal l = starts_with (codes "refused ") l

-- what records bring to the network of their drawing: so many junctions, so many reaches, and so many feeders among these
pub record Brought : Type 0 where
  pub junctions : ℕ
  pub reaches : ℕ
  pub feeders : ℕ

abbrev pub nothing : Brought
nothing = record { junctions = 0; reaches = 0; feeders = 0 }

-- a shape states how many junctions there are; a reach, a chamber, a source and a sink bring one reach each; with that of a
-- chamber comes one junction, and that of a source or a sink is a feeder
abbrev pub brings : Said → Brought
brings (shape n i o) = record { junctions = n; reaches = 0; feeders = 0 }
brings (reach t h q) = record { junctions = 0; reaches = 1; feeders = 0 }
brings (chamber j q) = record { junctions = 1; reaches = 1; feeders = 0 }
brings (source j q) = record { junctions = 0; reaches = 1; feeders = 1 }
brings (sink j q) = record { junctions = 0; reaches = 1; feeders = 1 }
brings (name j s p) = nothing
brings table_end = nothing
brings (limit k q) = nothing
brings (settle b) = nothing
brings drain = nothing
brings bottleneck = nothing
brings tally = nothing

-- what all records of a drawing bring
abbrev pub together : Brought → Brought → Brought
together a b =
    record { junctions = a.junctions + b.junctions; reaches = a.reaches + b.reaches; feeders = a.feeders + b.feeders }

abbrev pub brought : Drawn → Brought
brought (item p a rest) = together (brings a) (brought rest)
brought (end p) = nothing
brought (refused e) = nothing

-- with the first feeder come two junctions more, the new intake and the new outfall
abbrev pub with_two : ℕ → ℕ → ℕ
with_two zero n = n
with_two (suc k) n = n + 2

-- lines that are one refusal and nothing else; or that tell a network of n junctions and m reaches first, and none again
abbrev pub TellsNetwork : ℕ → ℕ → Lines → Type 0
TellsNetwork n m ls =
    ((l : List ℕ) × (ls ≡ l ∷ []) × (is_refusal l ≡ true))
    ⊎ ((answers : Lines) × (ls ≡ network_line n m ∷ answers) × All (λ l. is_network l ≡ false) answers)

-- the same, of the network that so much comes to
abbrev pub Tells : Brought → Lines → Type 0
Tells b ls = TellsNetwork (with_two b.feeders b.junctions) b.reaches ls

-- the report of a drawing is one refusal and nothing else; or it tells first how many junctions and reaches the drawing's
-- records come to, and never again
abbrev pub ToldOnce : Drawn → Lines → Type 0
ToldOnce d ls = Tells (brought d) ls
