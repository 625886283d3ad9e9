-- The table of refusals: the number of each fault, and the word for each part.
use Rattle.std.specs.Prelude.{ℕ, List, codes}
use Rattle.refusal.specs.declared.Fault.{Fault}
use Rattle.refusal.specs.declared.Fault.TheVariants.{JunctionCount, NoJunction, Same, NoReach, LimitTooHigh}
use Rattle.refusal.specs.declared.Fault.TheVariants.{LimitBelowCarried, AmountAboveLimit, NoPlace, StackTooLarge}
use Rattle.refusal.specs.declared.Fault.TheVariants.{RouteExists, ByteNotAllowed, EndsEarly, InputTooLong, TooLate}
use Rattle.refusal.specs.declared.Part.{Part}
use Rattle.refusal.specs.declared.Part.TheVariants.{Reader, Draft, Chambers, Gathering, Network}

abbrev pub number_of : Fault → ℕ
-- the number of junctions is under 2 or over 256
number_of JunctionCount = 1
-- there is no such junction
number_of NoJunction = 2
-- two that must differ are the same: tail and head, intake and outfall, the junctions of two chambers
number_of Same = 3
-- there is no such reach
number_of NoReach = 4
-- a limit to be set is over 1,000,000
number_of LimitTooHigh = 5
-- a new limit is below the carried amount
number_of LimitBelowCarried = 6
-- an amount to be carried is above the limit
number_of AmountAboveLimit = 7
-- no place is left: in the table, among a layer's entries, or in a list of marks
number_of NoPlace = 8
-- an entry would make the network larger than 512 junctions or 2,048 reaches
number_of StackTooLarge = 9
-- a bottleneck is asked for while a route exists
number_of RouteExists = 10
-- a byte that is not allowed where it stands
number_of ByteNotAllowed = 11
-- the input ends inside a record, or before the end of the table
number_of EndsEarly = 12
-- the input is over 65,536 bytes
number_of InputTooLong = 13
-- too late: a shape after a reach is laid, an entry while a reach carries
number_of TooLate = 14

abbrev pub word_of : Part → List ℕ
word_of Reader = codes "reader"
word_of Draft = codes "draft"
word_of Chambers = codes "chambers"
word_of Gathering = codes "gathering"
word_of Network = codes "network"
