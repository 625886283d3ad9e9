-- Lines that are printed one after another.
use Rattle.std.proofs.Common.{◌≡◌, ℕ, List, [], ◌∷◌, ◌++◌, sym, ap, ◌∙◌, append_assoc}
use Rattle.std.specs.declared.fmt.Formatter.{Formatter}
use Rattle.std.specs.Fmt.{IsPlainFormatter, HasWritten}
use Rattle.std.proofs.Output.{has_written_append}
use Rattle.desk.specs.Lines.{Lines, text}

module _ {W : Type 0} (took : W → List ℕ → W → Type 0) where
  -- from the formatter f to h some bytes were written, and with the text of the lines that are left they are that of all
  pub record Sofar (all : Lines) (f : Formatter W) (left : Lines) (h : Formatter W) : Type 0 where
    pub bytes : List ℕ
    pub put : HasWritten took f bytes h
    pub split : bytes ++ text left ≡ text all

  pub one_more : (all now : Lines) (l : List ℕ) (ls : Lines) (f g h : Formatter W) → now ≡ l ∷ ls → (s : Sofar all f now g) →
      (IsPlainFormatter g → HasWritten took g (l ++ (10 ∷ [])) h) → Sofar all f ls h
  one_more all now l ls f g h e s p = record {
    bytes = s.bytes ++ (l ++ (10 ∷ []));
    put = has_written_append took f s.bytes g (l ++ (10 ∷ [])) h s.put (p s.put.plain);
    split = append_assoc s.bytes (l ++ (10 ∷ [])) (text ls) ∙ ap (λ (x : Lines). s.bytes ++ text x) (sym e) ∙ s.split;
  }
