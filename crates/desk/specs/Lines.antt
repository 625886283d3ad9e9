-- The lines that the program prints, each without its end.
use Rattle.std.specs.Prelude.{ℕ, ◌+◌, Bool, cond, List, [], ◌∷◌, ◌++◌, ℤ, Some, None, Ok, Err, Option, Result, codes, decimal}
use Rattle.std.specs.Fmt.{signed_decimal}
use Rattle.refusal.specs.declared.Part.{Part}
use Rattle.refusal.specs.declared.Refusal.{Refusal}
use Rattle.refusal.specs.Numbers.{number_of}
use Rattle.refusal.specs.Texts.{refusal_text}
use Rattle.flow.specs.Net.{Arc}
use Rattle.flow.specs.Cuts.{Side, crosses}
use Rattle.naming.specs.Names.{Naming, shown}
use Rattle.naming.specs.Keeping.{label_text}
use Rattle.desk.specs.declared.line.Line.{Line}
use Rattle.desk.specs.declared.line.Line.TheVariants as line

-- network JUNCTIONS REACHES
abbrev pub network_line : ℕ → ℕ → List ℕ
network_line n m = codes "network " ++ (decimal n ++ (codes " " ++ decimal m))

-- limit REACH LIMIT
abbrev pub limit_line : ℕ → ℕ → List ℕ
limit_line k q = codes "limit " ++ (decimal k ++ (codes " " ++ decimal q))

-- yes or no
abbrev pub yes_no : Bool → List ℕ
yes_no b = cond b (codes "yes") (codes "no")

-- settled ROUTES LITRES FINISHED
abbrev pub settled_line : ℕ → ℕ → Bool → List ℕ
settled_line routes litres finished =
    codes "settled " ++ (decimal routes ++ (codes " " ++ (decimal litres ++ (codes " " ++ yes_no finished))))

-- drained
abbrev pub drained_line : List ℕ
drained_line = codes "drained"

-- tally DELIVERED
abbrev pub tally_line : ℤ → List ℕ
tally_line d = codes "tally " ++ signed_decimal d

-- bottleneck SUM
abbrev pub bottleneck_line : ℕ → List ℕ
bottleneck_line sum = codes "bottleneck " ++ decimal sum

-- across REACH TAIL HEAD LIMIT; TAIL and HEAD are junctions as they are shown
abbrev pub across_text : ℕ → List ℕ → List ℕ → ℕ → List ℕ
across_text k tail head q =
    codes "across " ++ (decimal k ++ (codes " " ++ (tail ++ (codes " " ++ (head ++ (codes " " ++ decimal q))))))

abbrev pub across_line : Naming → ℕ → Arc → List ℕ
across_line names k r = across_text k (shown names r.tail) (shown names r.head) r.limit

-- refused NUMBER at PLACE in PART
abbrev pub refused_line : ℕ → ℕ → Part → List ℕ
refused_line number place part = refusal_text number (Some place) part

-- the same for a refusal of the code
abbrev pub refusal_line : Refusal → List ℕ
refusal_line e = refusal_text (number_of e.fault) e.place e.part

-- the text of a line of the code
abbrev pub line_text : Line → List ℕ
line_text (line.Network n m) = network_line n m
line_text (line.Limit k q) = limit_line k q
line_text (line.Settled routes litres finished) = settled_line routes litres finished
line_text line.Drained = drained_line
line_text (line.Tally d) = tally_line d
line_text (line.Bottleneck sum) = bottleneck_line sum
line_text (line.Across k tail head q) = across_text k (label_text tail) (label_text head) q
line_text (line.Refused e) = refusal_line e

-- lines, and the text that they make: each with its end, hex 0A
abbrev pub Lines : Type 0
Lines = List (List ℕ)

abbrev pub text : Lines → List ℕ
text [] = []
text (l ∷ ls) = (l ++ (10 ∷ [])) ++ text ls

-- a line for each reach of a list that crosses a cut, in their order; the first of the list is reach k
abbrev pub across_lines : Naming → Side → ℕ → List Arc → Lines
across_lines names near k [] = []
across_lines names near k (r ∷ rs) =
    cond (crosses near r) (across_line names k r ∷ []) [] ++ across_lines names near (k + 1) rs

-- a record at the place p that is refused with a number by a part, or these lines where it is not
abbrev pub refusable : Option (ℕ × Part) → ℕ → Lines → Lines
refusable (Some r) p ls = refused_line r.0 p r.1 ∷ []
refusable None p ls = ls

-- the lines after an answer: a refusal's line is the last
abbrev pub going_on : Result Unit Refusal → Lines → Lines
going_on (Ok _) ls = ls
going_on (Err e) ls = refusal_line e ∷ []
