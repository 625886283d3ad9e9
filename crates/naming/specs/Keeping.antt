-- What the names and labels of the code hold.
use Rattle.std.specs.Prelude.{ℕ, List, None, option_map, slice_index_or, decimal, encode_utf8_all}
use Rattle.std.specs.Borrow.{Bor}
use Rattle.naming.specs.declared.names.Names.{Names}
use Rattle.naming.specs.declared.label.Label.{Label}
use Rattle.naming.specs.declared.label.Label.TheVariants as label
use Rattle.naming.specs.Names.{Naming}

-- the names that were given
abbrev pub names_in : Names → Naming
names_in n v = option_map (λ (name : Bor (List ℕ)). name.now) (slice_index_or n.given v None)

-- what is printed for a label
abbrev pub label_text : Label → List ℕ
label_text (label.Name name) = encode_utf8_all name.now
label_text (label.Number v) = decimal v
