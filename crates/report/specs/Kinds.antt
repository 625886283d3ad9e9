-- The lines of a report are known by how they begin: the words that the laws on reports go by tell each line, as what it is and
-- as nothing else.
use Rattle.std.specs.Prelude.{◌≡◌, ℕ, Bool, true, false, List, [], ◌∷◌, ℤ, Option}
use Rattle.refusal.specs.declared.Part.{Part}
use Rattle.refusal.specs.Texts.{refusal_text}
use Rattle.desk.specs.Lines.{network_line, limit_line, settled_line, drained_line, tally_line, bottleneck_line, across_text}
use Rattle.desk.specs.Laws.{is_across}
use Rattle.report.specs.Laws.{is_network, is_refusal}
use Rattle.report.specs.Most.{is_limit, is_drained, is_tally, is_bottleneck}
use Rattle.report.specs.Adding.{is_settled}

-- what a line is: whether it tells the network, a limit, a settling, a draining, a tally, a bottleneck, a reach that crosses, a
-- refusal
abbrev pub kinds_of : List ℕ → List Bool
kinds_of l =
    is_network l ∷ is_limit l ∷ is_settled l ∷ is_drained l ∷ is_tally l ∷ is_bottleneck l ∷ is_across l ∷ is_refusal l ∷ []

pub record LineKinds : Type 0 where
  pub network : (n m : ℕ) →
      kinds_of (network_line n m) ≡ true ∷ false ∷ false ∷ false ∷ false ∷ false ∷ false ∷ false ∷ []
  pub limit : (k q : ℕ) → kinds_of (limit_line k q) ≡ false ∷ true ∷ false ∷ false ∷ false ∷ false ∷ false ∷ false ∷ []
  pub settled : (routes litres : ℕ) (finished : Bool) → kinds_of (settled_line routes litres finished)
      ≡ false ∷ false ∷ true ∷ false ∷ false ∷ false ∷ false ∷ false ∷ []
  pub drained : kinds_of drained_line ≡ false ∷ false ∷ false ∷ true ∷ false ∷ false ∷ false ∷ false ∷ []
  pub tally : (d : ℤ) → kinds_of (tally_line d) ≡ false ∷ false ∷ false ∷ false ∷ true ∷ false ∷ false ∷ false ∷ []
  pub bottleneck : (sum : ℕ) →
      kinds_of (bottleneck_line sum) ≡ false ∷ false ∷ false ∷ false ∷ false ∷ true ∷ false ∷ false ∷ []
  pub across : (k : ℕ) (tail head : List ℕ) (q : ℕ) →
      kinds_of (across_text k tail head q) ≡ false ∷ false ∷ false ∷ false ∷ false ∷ false ∷ true ∷ false ∷ []
  pub refusal : (number : ℕ) (place : Option ℕ) (part : Part) →
      kinds_of (refusal_text number place part) ≡ false ∷ false ∷ false ∷ false ∷ false ∷ false ∷ false ∷ true ∷ []
