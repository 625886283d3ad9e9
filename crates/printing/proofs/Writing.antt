-- Bytes that are written one behind the other.
use Rattle.std.proofs.Common.{◌≡◌, ℕ, zero, suc, ◌+◌, ◌^◌, ◌<◌, ◌≤◌, inl, inr, List, []}
use Rattle.std.proofs.Common.{◌∷◌, ◌++◌, length, take, drop, refl, sym, ap, ◌∙◌, arith, length-append, append_assoc}
use Rattle.std.proofs.lemmas.Bool.{cases_lt}
use Rattle.std.proofs.lemmas.List.{take-append-drop}
use Rattle.desk.specs.Lines.{Lines, text}
use Rattle.printing.specs.declared.room.Room.{Room}
use Rattle.printing.specs.Bytes.{written, written_from, held}
use Rattle.printing.specs.Putting.{Puts}

-- where there is no room, and where there is nothing to write
no_room : (bs : List ℕ) → written bs [] ≡ []
no_room [] = refl
no_room (b ∷ bs) = refl

pub nothing : (xs : List ℕ) → written [] xs ≡ xs
nothing [] = refl
nothing (x ∷ xs) = refl

-- a place behind the room
pub past : (p : ℕ) (bs xs : List ℕ) → length xs ≤ p → written_from p bs xs ≡ xs
past zero bs [] low = no_room bs
past zero bs (x ∷ xs) low = absurd (omega arith)
past (suc p) bs [] low = no_room bs
past (suc p) bs (x ∷ xs) low = ap (λ (r : List ℕ). x ∷ r) (past p bs xs (omega arith))

-- some bytes, and others behind them
over_then : (a b xs : List ℕ) → written_from (length a) b (written a xs) ≡ written (a ++ b) xs
over_then [] b xs = ap (written b) (nothing xs)
over_then (x ∷ a) b [] = no_room b
over_then (x ∷ a) b (y ∷ xs) = ap (λ (r : List ℕ). x ∷ r) (over_then a b xs)

behind : (p : ℕ) (a b xs : List ℕ) → written_from (p + length a) b (written_from p a xs) ≡ written_from p (a ++ b) xs
behind zero a b xs =
    let from : 0 + length a ≡ length a = omega arith in
    ap (λ (n : ℕ). written_from n b (written a xs)) from ∙ over_then a b xs
behind (suc p) a b [] =
    let none : written_from (suc p) a [] ≡ [] = no_room a in
    ap (written_from (suc p + length a) b) none ∙ past (suc p + length a) b [] (omega arith) ∙ sym (no_room (a ++ b))
behind (suc p) a b (x ∷ xs) =
    ap (λ (n : ℕ). written_from n b (x ∷ written_from p a xs)) (suc_add p (length a))
    ∙ ap (λ (r : List ℕ). x ∷ r) (behind p a b xs)
  where
    suc_add : (m n : ℕ) → suc m + n ≡ suc (m + n)
    suc_add m n = omega arith

-- what is written has as many bytes as the room
length_written : (p : ℕ) (bs xs : List ℕ) → length (written_from p bs xs) ≡ length xs
length_written zero bs [] = ap length (no_room bs)
length_written zero [] (x ∷ xs) = ap length (nothing (x ∷ xs))
length_written zero (b ∷ bs) (x ∷ xs) = ap suc (length_written zero bs xs)
length_written (suc p) bs [] = ap length (no_room bs)
length_written (suc p) bs (x ∷ xs) = ap suc (length_written p bs xs)

-- the count tells the place, as far as there is room
counted : (n : ℕ) (bs xs : List ℕ) → length xs < 2 ^ 64 → written_from (held n) bs xs ≡ written_from n bs xs
counted n bs xs few = elim (cases_lt n (2 ^ 64)) [
  | inl low ↦ ap (λ (m : ℕ). written_from m bs xs) (omega arith)
  | inr high ↦ past (held n) bs xs (omega arith) ∙ sym (past n bs xs (omega arith))
]

pub then_written : (p : ℕ) (a b xs : List ℕ) → length xs < 2 ^ 64 →
    written_from (held (p + length a)) b (written_from p a xs) ≡ written_from p (a ++ b) xs
then_written p a b xs few =
    let short : length (written_from p a xs) < 2 ^ 64 = omega (arith, length_written p a xs) in
    counted (p + length a) b (written_from p a xs) short ∙ behind p a b xs

-- a text in two parts, one put behind the other
pub puts_then : (r s t : Room) (a b : List ℕ) → Puts r a s → Puts s b t → Puts r (a ++ b) t
puts_then r s t a b p q = record {
  bytes = q.bytes ∙ ap (λ (n : ℕ). written_from n b s.out.now) p.count
      ∙ ap (written_from (held (r.len + length a)) b) p.bytes ∙ then_written r.len a b r.out.now r.few;
  count = omega (arith, p.count, q.count, length-append a b);
  lender = q.lender ∙ p.lender;
}

-- nothing put behind it, and bytes told in another way
pub puts_none : (r : Room) → Puts r [] r
puts_none r = record {
  bytes = sym (ap (λ (xs : List ℕ). take r.len r.out.now ++ xs) (nothing (drop r.len r.out.now)) ∙ take-append-drop r.len r.out.now);
  count = omega (arith, r.fits);
  lender = refl;
}

-- from the room r to s some bytes were put, and with the text of the lines that are left they are that of all
pub record Sofar (all : Lines) (r : Room) (left : Lines) (s : Room) : Type 0 where
  pub bytes : List ℕ
  pub put : Puts r bytes s
  pub split : bytes ++ text left ≡ text all

pub one_more : (all now : Lines) (l : List ℕ) (ls : Lines) (r s u t : Room) → now ≡ l ∷ ls → (so : Sofar all r now s) →
    Puts s l u → Puts u (10 ∷ []) t → Sofar all r ls t
one_more all now l ls r s u t e so p q = record {
  bytes = so.bytes ++ (l ++ (10 ∷ []));
  put = puts_then r s t so.bytes (l ++ (10 ∷ [])) so.put (puts_then s u t l (10 ∷ []) p q);
  split = append_assoc so.bytes (l ++ (10 ∷ [])) (text ls) ∙ ap (λ (x : Lines). so.bytes ++ text x) (sym e) ∙ so.split;
}

-- all that was put in a room that had nothing yet
pub whole : (r s : Room) (t xs : List ℕ) → r.len ≡ 0 → r.out.now ≡ xs → Puts r t s → s.out.now ≡ written t xs
whole r s t xs none same p =
    p.bytes ∙ ap (λ (n : ℕ). written_from n t r.out.now) none ∙ ap (written t) same
