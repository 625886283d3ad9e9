-- The first line tells whether a drawing is accepted.
use Rattle.std.proofs.Common.{◌≡◌, ℕ, Bool, true, false, inl, inr, List, [], ◌∷◌, Ok, Err, refl, sym, ap, ◌∙◌}
use Rattle.refusal.specs.declared.Refusal.{Refusal}
use Rattle.desk.specs.declared.line.Line.{Line}
use Rattle.desk.specs.declared.line.Line.TheVariants as line
use Rattle.desk.specs.Lines.{Lines, line_text, network_line, refusal_line}
use Rattle.report.specs.Laws.{is_refusal, TellsNetwork}
use Rattle.printing.specs.Accepting.{verdict, Decides}

-- there are lines
pub never_none : (n m : ℕ) → TellsNetwork n m [] → ⊥
never_none n m (inl t) = cc t.1
never_none n m (inr t) = cc t.1

module _ (n m : ℕ) (ls later : Lines) where
  -- a line that is no refusal
  network : (l : List ℕ) → is_refusal l ≡ false → ls ≡ l ∷ later → TellsNetwork n m ls → Decides ls (Ok tt)
  network l not is (inl t) =
      let same : l ≡ t.0 = cc (is, t.1) in
      let both : ◌≡◌ {A = Bool} false true = sym not ∙ ap is_refusal same ∙ t.2 in
      absurd (cc both)
  network l not is (inr t) = (n, m, t.0, t.1)

  -- a refusal
  alone : (e : Refusal) → ls ≡ refusal_line e ∷ later → TellsNetwork n m ls → Decides ls (Err e)
  alone e is (inl t) =
      let none : later ≡ [] = cc (is, t.1) in
      is ∙ ap (λ (rest : Lines). refusal_line e ∷ rest) none
  alone e is (inr t) =
      let same : refusal_line e ≡ network_line n m = cc (is, t.1) in
      let both : ◌≡◌ {A = Bool} true false = ap is_refusal same in
      absurd (cc both)

  pub decided : (l : Line) → ls ≡ line_text l ∷ later → TellsNetwork n m ls → Decides ls (verdict l)
  decided (line.Refused e) is t = alone e is t
  decided (line.Network a b) is t = network (line_text (line.Network a b)) refl is t
  decided (line.Limit k q) is t = network (line_text (line.Limit k q)) refl is t
  decided (line.Settled routes litres finished) is t = network (line_text (line.Settled routes litres finished)) refl is t
  decided line.Drained is t = network (line_text line.Drained) refl is t
  decided (line.Tally d) is t = network (line_text (line.Tally d)) refl is t
  decided (line.Bottleneck sum) is t = network (line_text (line.Bottleneck sum)) refl is t
  decided (line.Across k tail head q) is t = network (line_text (line.Across k tail head q)) refl is t
