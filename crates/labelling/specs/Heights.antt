-- How high labels are. Only a label below the most junctions is ever raised, to at most 1 + another label; so each that is
-- not below lets the highest rise by 1.
use Rattle.std.specs.Prelude.{ℕ, ◌+◌, ◌-◌, ◌≤◌, List, count_by, nat_le, slice_index}
use Rattle.std.specs.List.{sum_by}
use Rattle.flow.specs.Bounds.{most_junctions}

-- how many labels are as high as the most junctions, or higher
abbrev pub high : List ℕ → ℕ
high labels = count_by (λ l. nat_le most_junctions l) labels

abbrev pub Bounded : List ℕ → Type 0
Bounded labels = (v : ℕ) → slice_index labels v + 1 ≤ most_junctions + high labels

-- and so the highest label of all
abbrev pub highest_label : ℕ
highest_label = 1023

-- how far labels can still rise
abbrev pub height_left : List ℕ → ℕ
height_left labels = sum_by (λ l. highest_label - l) labels
