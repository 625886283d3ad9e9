-- The order in which a call refuses, said once for all calls.
use Rattle.std.specs.Prelude.{◌≡◌, ℕ, Bool, cond, List, [], ◌∷◌, Some, None, Ok, Err, Option, Result}
use Rattle.refusal.specs.declared.Fault.{Fault}
use Rattle.refusal.specs.declared.Part.{Part}
use Rattle.refusal.specs.declared.Refusal.{Refusal}
use Rattle.refusal.specs.Numbers.{number_of}

-- one check of a call: whether it applies, the number that the call then refuses with, and the part that says so.
-- (Tests of numbers read: nat_le a b, a is at most b; nat_lt a b, a is below b; a == b, a is b.)
pub data Check : Type 0 where
  check : Bool → ℕ → Part → Check

-- number and part of the first check that applies, in the order of the list; nothing where none applies
abbrev pub first_of : List Check → Option (ℕ × Part)
first_of [] = None
first_of (check applies number part ∷ cs) = cond applies (Some (number, part)) (first_of cs)

-- what a library call with these checks answers: Ok where none applies, and else the first that does, with no place
abbrev pub Judged : {A : Type 0} → List Check → Result A Refusal → Type 0
Judged cs (Ok _) = first_of cs ≡ None
Judged cs (Err e) = (first_of cs ≡ Some (number_of e.fault, e.part)) × (e.place ≡ None)

-- what a call leaves behind: the new value where it was accepted, the old one where it was refused
abbrev pub afterwards : {A E B : Type 0} → Result A E → B → B → B
afterwards (Ok _) new old = new
afterwards (Err _) new old = old

-- a refusal with no place, and the same refusal of a record at a place
abbrev pub unplaced : Fault → Part → Refusal
unplaced f p = record { fault = f; place = None; part = p }

abbrev pub placed_at : Refusal → ℕ → Refusal
placed_at e p = record { fault = e.fault; place = Some p; part = e.part }

-- an answer with the place of the record that was refused
abbrev pub located_at : {A : Type 0} → Result A Refusal → ℕ → Result A Refusal
located_at (Ok x) p = Ok x
located_at (Err e) p = Err (placed_at e p)
