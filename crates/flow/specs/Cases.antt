-- Networks with the routes that the plain machine pushes, worked out.
use Rattle.std.specs.Prelude.{◌≡◌, ℕ, Bool, true, false, IsTrue, ◌↔◌, List, [], ◌∷◌, All, pos}
use Rattle.flow.specs.Net.{Arc, Net}
use Rattle.flow.specs.Flows.{delivered}
use Rattle.flow.specs.Routes.{Finished}
use Rattle.flow.specs.Pushes.{least_headroom, pushed, pushed_all, litres_of, Settles}
use Rattle.flow.specs.Cuts.{IsBottleneck}
use Rattle.flow.specs.Histories.{Event, settling, refusal, bottleneck, tally, marked, IsHistory, CommissionedDry, StandsFinished}

-- a network and a budget; the routes, the litres that each adds and all together, whether none is left, what is
-- delivered, and the marks of the junctions that open steps then reach from the intake
pub record Case : Type 0 where
  pub net : Net
  pub budget : ℕ
  pub routes : List (List ℕ)
  pub amounts : List ℕ
  pub litres : ℕ
  pub finished : Bool
  pub delivers : ℕ
  pub marks : List ℕ

-- the litres that each route adds
abbrev pub amounts_of : Net → List (List ℕ) → List ℕ
amounts_of g [] = []
amounts_of g (ss ∷ more) = least_headroom g.reaches ss ∷ amounts_of (pushed ss g) more

pub record Holds (c : Case) : Type 0 where
  pub settles : Settles c.net c.budget c.routes
  pub amounts : amounts_of c.net c.routes ≡ c.amounts
  pub litres : litres_of c.net c.routes ≡ c.litres
  pub finished : IsTrue c.finished ↔ Finished (pushed_all c.routes c.net)
  pub delivers : delivered (pushed_all c.routes c.net) ≡ pos c.delivers
  pub near : IsBottleneck (pushed_all c.routes c.net) (marked c.marks)

-- a dry reach
abbrev pub dry : ℕ → ℕ → ℕ → Arc
dry from to most = record { tail = from; head = to; limit = most; carried = 0 }

-- four junctions, five reaches; and six junctions, where the second route goes back along a reach of the first
abbrev pub five : Net
five = record {
  junctions = 4;
  intake = 0;
  outfall = 3;
  reaches = dry 0 1 3 ∷ dry 0 2 2 ∷ dry 1 2 1 ∷ dry 1 3 2 ∷ dry 2 3 3 ∷ [];
}

abbrev pub seven : Net
seven = record {
  junctions = 6;
  intake = 0;
  outfall = 5;
  reaches = dry 0 1 1 ∷ dry 1 2 1 ∷ dry 2 5 1 ∷ dry 1 3 1 ∷ dry 3 5 1 ∷ dry 0 4 1 ∷ dry 4 2 1 ∷ [];
}

-- two junctions and no reach
abbrev pub bare : Net
bare = record { junctions = 2; intake = 0; outfall = 1; reaches = [] }

-- settled with a budget of 10; with one of 3, which is just enough; of 2; and of 0
abbrev pub five_settled : Case
five_settled = record {
  net = five;
  budget = 10;
  routes = (0 ∷ 6 ∷ []) ∷ (2 ∷ 8 ∷ []) ∷ (0 ∷ 4 ∷ 8 ∷ []) ∷ [];
  amounts = 2 ∷ 2 ∷ 1 ∷ [];
  litres = 5;
  finished = true;
  delivers = 5;
  marks = 1 ∷ 0 ∷ 0 ∷ 0 ∷ [];
}

abbrev pub five_with_three : Case
five_with_three = record five_settled { budget = 3 }

abbrev pub five_with_two : Case
five_with_two = record {
  net = five;
  budget = 2;
  routes = (0 ∷ 6 ∷ []) ∷ (2 ∷ 8 ∷ []) ∷ [];
  amounts = 2 ∷ 2 ∷ [];
  litres = 4;
  finished = false;
  delivers = 4;
  marks = 1 ∷ 1 ∷ 1 ∷ 1 ∷ [];
}

abbrev pub five_with_none : Case
five_with_none = record {
  net = five;
  budget = 0;
  routes = [];
  amounts = [];
  litres = 0;
  finished = false;
  delivers = 0;
  marks = 1 ∷ 1 ∷ 1 ∷ 1 ∷ [];
}

abbrev pub seven_settled : Case
seven_settled = record {
  net = seven;
  budget = 10;
  routes = (0 ∷ 2 ∷ 4 ∷ []) ∷ (10 ∷ 12 ∷ 3 ∷ 6 ∷ 8 ∷ []) ∷ [];
  amounts = 1 ∷ 1 ∷ [];
  litres = 2;
  finished = true;
  delivers = 2;
  marks = 1 ∷ 0 ∷ 0 ∷ 0 ∷ 0 ∷ 0 ∷ [];
}

abbrev pub bare_settled : Case
bare_settled = record {
  net = bare;
  budget = 10;
  routes = [];
  amounts = [];
  litres = 0;
  finished = true;
  delivers = 0;
  marks = 1 ∷ 0 ∷ [];
}

abbrev pub worked : List Case
worked = five_settled ∷ five_with_three ∷ five_with_two ∷ five_with_none ∷ seven_settled ∷ bare_settled ∷ []

abbrev pub WorkedCases : Type 0
WorkedCases = All Holds worked

-- calls on the network of five reaches: it is settled, some call is refused, and the bottleneck and a tally are asked for
abbrev pub calls_on_five : List Event
calls_on_five =
    settling 10 five_settled.routes (record { routes = 3; litres = 5; finished = true })
    ∷ refusal ∷ bottleneck five_settled.marks 5 2 ∷ tally (pos 5) ∷ []

-- they are a history, after which the network stands finished
pub record WorkedHistory : Type 0 where
  pub commissioned : CommissionedDry five
  pub history : IsHistory calls_on_five five
  pub stands : StandsFinished calls_on_five
