-- What a check tells C.
use Rattle.std.specs.Prelude.{◌≡◌, ℕ, Bool, true, false, [], ◌∷◌}
use Rattle.refusal.specs.declared.Refusal.{Refusal}
use Rattle.refusal.specs.Numbers.{number_of}
use Rattle.desk.specs.Lines.{Lines, network_line, refusal_line}
use Rattle.allocate_c.specs.declared.refusing.AllocateRefusal.{AllocateRefusal}
use Rattle.allocate_c.specs.Numbering.{part_number, has_place, place_or_0}

-- a refusal of the library, as it crosses
abbrev pub told_as : Refusal → AllocateRefusal
told_as e = record {
  number = number_of e.fault;
  part = part_number e.part;
  has_place = has_place e.place;
  place = place_or_0 e.place;
}

-- a report with these lines accepts its drawing, which is that it tells a network first, and what was lent for a refusal
-- stays; or it is one refusal alone, which is then there
abbrev pub Checked : Lines → AllocateRefusal → Bool → AllocateRefusal → Type 0
Checked ls before true after =
    ((n m : ℕ) × (answers : Lines) × (ls ≡ network_line n m ∷ answers)) × (after ≡ before)
Checked ls before false after = (e : Refusal) × (ls ≡ refusal_line e ∷ []) × (after ≡ told_as e)
