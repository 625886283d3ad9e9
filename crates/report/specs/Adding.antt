-- What every report says of the litres that are delivered, in the words of a reader who has its lines alone.
use Rattle.std.specs.Prelude.{◌≡◌, ℕ, ◌+◌, ◌^◌, ◌<◌, Bool, true, false, ◌⊎◌, List, [], ◌∷◌, ◌++◌, pos, codes}
use Rattle.desk.specs.Lines.{Lines, settled_line, tally_line}
use Rattle.desk.specs.Laws.{starts_with}
use Rattle.report.specs.Most.{is_drained, is_tally}

-- whether a line tells a settling
abbrev pub is_settled : List ℕ → Bool
is_settled l = starts_with (codes "settled ") l

-- the line of a settling that added so many litres, in numbers of at most 64 bits
abbrev pub SaysAdded : ℕ → List ℕ → Type 0
SaysAdded litres l =
    (routes : ℕ) × (finished : Bool) × (routes < 2 ^ 64) × (litres < 2 ^ 64) × (l ≡ settled_line routes litres finished)

-- with a litres in front of the lines there are b behind them: the line of a settling adds its litres, behind that of a
-- draining there are 0, and any other changes nothing
abbrev pub LitresTold : Lines → ℕ → ℕ → Type 0
LitresTold [] a b = a ≡ b
LitresTold (l ∷ ls) a b =
    ((litres : ℕ) × SaysAdded litres l × LitresTold ls (a + litres) b)
    ⊎ ((is_drained l ≡ true) × LitresTold ls 0 b)
    ⊎ ((is_settled l ≡ false) × (is_drained l ≡ false) × LitresTold ls a b)

-- the line of a tally, and the lines between the first of a report and it
pub record TellsAdded (before : Lines) (l : List ℕ) : Type 0 where
  -- behind these, with 0 in front of them, there is this amount of litres and no other
  pub amount : ℕ
  pub litres : LitresTold before 0 amount
  pub only : (other : ℕ) → LitresTold before 0 other → other ≡ amount
  -- and the tally tells it
  pub tells : l ≡ tally_line (pos amount)

-- every tally tells the litres of the settlings that lines before it tell since the last draining, all together; and so no
-- tally is below 0
abbrev pub AddsUp : Lines → Type 0
AddsUp ls = (first l : List ℕ) (before later : Lines) → ls ≡ first ∷ (before ++ (l ∷ later)) → is_tally l ≡ true →
    TellsAdded before l
