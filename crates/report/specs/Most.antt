-- What every report says of the most that can be delivered, in the words of a reader who has its lines alone.
use Rattle.std.specs.Prelude.{◌≡◌, ℕ, ◌<◌, ◌≤◌, Bool, true, false, ◌⊎◌, List, [], ◌∷◌, ◌++◌, length, pos, codes, ◌≤ℤ◌}
use Rattle.std.specs.List.{All}
use Rattle.flow.specs.Bounds.{highest_setting}
use Rattle.flow.specs.Net.{Net}
use Rattle.flow.specs.Flows.{delivered, IsFlow}
use Rattle.flow.specs.Changes.{relimited, Alike}
use Rattle.drawing.specs.Ahead.{Drawn}
use Rattle.desk.specs.Lines.{Lines, limit_line, tally_line, bottleneck_line}
use Rattle.desk.specs.Laws.{starts_with}
use Rattle.report.specs.Described.{described}

-- a line that tells of a settling after which no route is left: it begins with "settled " and ends with "yes"
abbrev pub SaysFinished : List ℕ → Type 0
SaysFinished l = (numbers : List ℕ) × (l ≡ codes "settled " ++ (numbers ++ codes "yes"))

-- what other lines begin with
abbrev pub is_limit : List ℕ → Bool
is_limit l = starts_with (codes "limit ") l

abbrev pub is_drained : List ℕ → Bool
is_drained l = starts_with (codes "drained") l

abbrev pub is_tally : List ℕ → Bool
is_tally l = starts_with (codes "tally ") l

abbrev pub is_bottleneck : List ℕ → Bool
is_bottleneck l = starts_with (codes "bottleneck ") l

-- a line that tells neither of a limit that was set nor of a draining
abbrev pub Undisturbed : List ℕ → Type 0
Undisturbed l = (is_limit l ≡ false) × (is_drained l ≡ false)

-- h is the network g with the limits that the lines set, one after another, each on a reach that there is, and none higher
-- than may be set
abbrev pub Relimited : Lines → Net → Net → Type 0
Relimited [] g h = g ≡ h
Relimited (l ∷ ls) g h =
    ((k q : ℕ) × (k < length g.reaches) × (q ≤ highest_setting) × (l ≡ limit_line k q) × Relimited ls (relimited k q g) h)
    ⊎ ((is_limit l ≡ false) × Relimited ls g h)

-- the most that a network can deliver: no flow within its limits delivers more, and one delivers that
pub record IsMost (scheme : Net) (amount : ℕ) : Type 0 where
  pub most : (h : Net) → Alike scheme h → IsFlow h → delivered h ≤ℤ pos amount
  pub attained : (h : Net) × Alike scheme h × IsFlow h × (delivered h ≡ pos amount)

-- if the line tells a tally, or the sum of a bottleneck, then it is this amount
abbrev pub Agrees : ℕ → List ℕ → Type 0
Agrees amount l =
    (is_tally l ≡ true → l ≡ tally_line (pos amount)) × (is_bottleneck l ≡ true → l ≡ bottleneck_line amount)

-- lines before a settling that finished, and lines between it and the next limit or draining, over a drawing's network
pub record TellsMost (start : Net) (before between : Lines) : Type 0 where
  -- the network with the limits that were set before; the lines tell of one only
  pub scheme : Net
  pub limits : Relimited before start scheme
  pub only : (other : Net) → Relimited before start other → other ≡ scheme
  -- the most that it can deliver
  pub amount : ℕ
  pub most : IsMost scheme amount
  -- is what each tally and each bottleneck between tells
  pub agree : All (Agrees amount) between

-- wherever the lines of a drawing tell of a settling that finished, with lines behind it that tell of no limit set and of no
-- draining, these tell the most
abbrev pub MostTold : Drawn → Lines → Type 0
MostTold d ls = (first l : List ℕ) (before between later : Lines) → ls ≡ first ∷ (before ++ (l ∷ (between ++ later))) →
    SaysFinished l → All Undisturbed between → TellsMost (described d) before between
