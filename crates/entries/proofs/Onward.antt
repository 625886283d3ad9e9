-- A chamber that is entered leaves the lines of its drawing as they were, and what its entries leave.
use Rattle.std.proofs.Common.{◌≡◌, ℕ, List, [], ◌∷◌, ◌++◌, cond, None, Option, is_some, sym, ap, ◌∙◌}
use Rattle.refusal.specs.declared.Part.{Part}
use Rattle.refusal.specs.Checks.{first_of}
use Rattle.flow.specs.Net.{Arc, Net}
use Rattle.chambers.specs.Entering.{chamber_checks, chamber_reach}
use Rattle.naming.specs.Names.{Naming}
use Rattle.drawing.specs.Records.{chamber}
use Rattle.drawing.specs.Ahead.{Drawn, item}
use Rattle.desk.specs.Lines.{refusable}
use Rattle.entries.specs.Entered.{chamber_lines}
use Rattle.entries.specs.Leaving.{chambers_entered}

pub chamber_more : (names : Naming) (d rest : Drawn) (p j q : ℕ) (g : Net) (giver : ℕ → Part) (own more : List Arc) →
    d ≡ item p (chamber j q) rest → first_of (chamber_checks g own j q) ≡ None →
    more ≡ own ++ (chamber_reach g own j q ∷ []) → chamber_lines names rest g giver more ≡ chamber_lines names d g giver own
chamber_more names d rest p j q g giver own more told free put =
    let entered = own ++ (chamber_reach g own j q ∷ []) in
    ap (chamber_lines names rest g giver) put
    ∙ sym (ap (λ (o : Option (ℕ × Part)). refusable o p (chamber_lines names rest g giver entered)) free)
    ∙ sym (ap (λ (x : Drawn). chamber_lines names x g giver own) told)

pub chamber_left : (d rest : Drawn) (p j q : ℕ) (g : Net) (own more : List Arc) → d ≡ item p (chamber j q) rest →
    first_of (chamber_checks g own j q) ≡ None → more ≡ own ++ (chamber_reach g own j q ∷ []) →
    chambers_entered rest g more ≡ chambers_entered d g own
chamber_left d rest p j q g own more told free put =
    let stopped : Drawn × List Arc = (item p (chamber j q) rest, own) in
    let onward = chambers_entered rest g (own ++ (chamber_reach g own j q ∷ [])) in
    ap (chambers_entered rest g) put
    ∙ sym (ap (λ (o : Option (ℕ × Part)). cond (is_some o) stopped onward) free)
    ∙ sym (ap (λ (x : Drawn). chambers_entered x g own) told)
