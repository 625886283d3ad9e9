-- What a labelling holds.
use Rattle.std.specs.Prelude.{ℕ, slice_index}
use Rattle.labelling.specs.Heights.{height_left}
use Rattle.labelling.specs.declared.labelling.Labelling.{Labelling}

-- the label of each junction, and its current step
abbrev pub label_of : Labelling → ℕ → ℕ
label_of x = slice_index x.labels

abbrev pub current_of : Labelling → ℕ → ℕ
current_of x = slice_index x.current

-- how far its labels can still rise
abbrev pub rise_left : Labelling → ℕ
rise_left x = height_left x.labels
