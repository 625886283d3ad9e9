-- A drawing, and what is printed for it, worked out.
use Rattle.std.specs.Prelude.{◌≡◌, ℕ, List, [], ◌∷◌, ◌++◌, codes}
use Rattle.desk.specs.Lines.{Lines}
use Rattle.report.specs.Reported.{reported}

-- the 78 bytes of the drawing, a record a line: its letter, and then its numbers, each with the highest byte first
abbrev pub worked_drawing : List ℕ
worked_drawing =
    -- four junctions, the intake 0, the outfall 3; and the name of junction 0
    codes "H" ++ (0 ∷ 4 ∷ 0 ∷ 0 ∷ 0 ∷ 3 ∷ [])
    ++ codes "N" ++ (0 ∷ 0 ∷ []) ++ codes "HEADGATE"
    -- reaches 0 to 4: the tail, the head, the limit
    ++ codes "R" ++ (0 ∷ 0 ∷ 0 ∷ 1 ∷ 0 ∷ 0 ∷ 0 ∷ 3 ∷ [])
    ++ codes "R" ++ (0 ∷ 0 ∷ 0 ∷ 2 ∷ 0 ∷ 0 ∷ 0 ∷ 2 ∷ [])
    ++ codes "R" ++ (0 ∷ 1 ∷ 0 ∷ 2 ∷ 0 ∷ 0 ∷ 0 ∷ 1 ∷ [])
    ++ codes "R" ++ (0 ∷ 1 ∷ 0 ∷ 3 ∷ 0 ∷ 0 ∷ 0 ∷ 2 ∷ [])
    ++ codes "R" ++ (0 ∷ 2 ∷ 0 ∷ 3 ∷ 0 ∷ 0 ∷ 0 ∷ 3 ∷ [])
    ++ codes "E"
    -- settle with a budget of 10; a limit of 1 for reach 0, in the record at 69; the bottleneck; the tally
    ++ codes "S" ++ (0 ∷ 0 ∷ 0 ∷ 10 ∷ [])
    ++ codes "L" ++ (0 ∷ 0 ∷ 0 ∷ 0 ∷ 0 ∷ 1 ∷ [])
    ++ codes "B"
    ++ codes "T"

-- and its lines
abbrev pub worked_report : Lines
worked_report =
    codes "network 4 5"
    ∷ codes "settled 3 5 yes"
    ∷ codes "refused 6 at 69 in network"
    ∷ codes "bottleneck 5"
    ∷ codes "across 0 HEADGATE 1 3"
    ∷ codes "across 1 HEADGATE 2 2"
    ∷ codes "tally 5" ∷ []

-- they are what the definition of the report says, over the table of the program
abbrev pub WorkedReport : Type 0
WorkedReport = reported 1024 worked_drawing ≡ worked_report
