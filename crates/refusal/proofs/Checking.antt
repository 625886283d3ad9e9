-- One check after another, and that a call has one answer.
use Rattle.std.proofs.Common.{◌≡◌, ℕ, Bool, true, false, cond, eqb, List, [], ◌∷◌, Some, None, Ok, Err, Option, Result, sym, refl, ap, ◌∙◌, arith}
use Rattle.std.proofs.lemmas.Bool.{cond-true, cond-false}
use Rattle.refusal.specs.declared.Fault.{Fault}
use Rattle.refusal.specs.declared.Fault.TheVariants.{JunctionCount, NoJunction, Same, NoReach, LimitTooHigh}
use Rattle.refusal.specs.declared.Fault.TheVariants.{LimitBelowCarried, AmountAboveLimit, NoPlace, StackTooLarge}
use Rattle.refusal.specs.declared.Fault.TheVariants.{RouteExists, ByteNotAllowed, EndsEarly, InputTooLong, TooLate}
use Rattle.refusal.specs.declared.Part.{Part}
use Rattle.refusal.specs.declared.Refusal.{Refusal}
use Rattle.refusal.specs.Numbers.{number_of}
use Rattle.refusal.specs.Checks.{Check, check, first_of, Judged}
use Rattle.refusal.specs.Laws.{OneAnswer}

module _ (b : Bool) (n : ℕ) (p : Part) (cs : List Check) where
  -- a check that applies, and one that does not
  pub caught : b ≡ true → first_of (check b n p ∷ cs) ≡ Some (n, p)
  caught e = cond-true b (Some (n, p)) (first_of cs) e

  pub passed : b ≡ false → first_of (check b n p ∷ cs) ≡ first_of cs
  passed e = cond-false b (Some (n, p)) (first_of cs) e

-- two lists of checks with the same first check leave the same answers
pub judged_as : (A : Type 0) (cs ds : List Check) (r : Result A Refusal) → first_of ds ≡ first_of cs → Judged cs r → Judged ds r
judged_as A cs ds (Ok _) same h = same ∙ h
judged_as A cs ds (Err e) same h = (same ∙ h.0, h.1)

-- where no check applies a call is not refused
pub not_refused : (cs : List Check) (e : Refusal) → first_of cs ≡ None → Judged {A = Unit {0}} cs (Err e) → ⊥
not_refused cs e none h = let z : ◌≡◌ {A = ℕ} 0 1 = cc (none, h.0) in omega arith

-- the fault with a number
abbrev faults : List Fault
faults = JunctionCount ∷ NoJunction ∷ Same ∷ NoReach ∷ LimitTooHigh ∷ LimitBelowCarried ∷ AmountAboveLimit ∷ NoPlace
    ∷ StackTooLarge ∷ RouteExists ∷ ByteNotAllowed ∷ EndsEarly ∷ InputTooLong ∷ TooLate ∷ []

abbrev among : List Fault → ℕ → Fault
among [] n = TooLate
among (f ∷ fs) n = cond (eqb (number_of f) n) f (among fs n)

number_back : (f : Fault) → among faults (number_of f) ≡ f
number_back JunctionCount = refl
number_back NoJunction = refl
number_back Same = refl
number_back NoReach = refl
number_back LimitTooHigh = refl
number_back LimitBelowCarried = refl
number_back AmountAboveLimit = refl
number_back NoPlace = refl
number_back StackTooLarge = refl
number_back RouteExists = refl
number_back ByteNotAllowed = refl
number_back EndsEarly = refl
number_back InputTooLong = refl
number_back TooLate = refl

number_tells : (f h : Fault) → number_of f ≡ number_of h → f ≡ h
number_tells f h e = sym (number_back f) ∙ ap (among faults) e ∙ number_back h

refused_once : (cs : List Check) (e d : Refusal) → Judged {A = Unit {0}} cs (Err e) → Judged {A = Unit {0}} cs (Err d) → e ≡ d
refused_once cs e d h k =
    let both : ◌≡◌ {A = ℕ × Part} (number_of e.fault, e.part) (number_of d.fault, d.part) = cc (h.0, k.0) in
    let part : e.part ≡ d.part = ap (λ (x : ℕ × Part). x.1) both in
    let fault : e.fault ≡ d.fault = number_tells e.fault d.fault (ap (λ (x : ℕ × Part). x.0) both) in
    let place : e.place ≡ d.place = h.1 ∙ sym k.1 in
    ap (λ (f : Fault). make f e.place e.part) fault ∙ ap (λ (o : Option ℕ). make d.fault o e.part) place
    ∙ ap (make d.fault d.place) part
  where
    make : Fault → Option ℕ → Part → Refusal
    make f o p = record { fault = f; place = o; part = p }

answered_once : (cs : List Check) (r s : Result Unit Refusal) → Judged cs r → Judged cs s → r ≡ s
answered_once cs (Ok _) (Ok _) h k = refl
answered_once cs (Ok _) (Err d) h k = absurd (not_refused cs d h k)
answered_once cs (Err e) (Ok _) h k = absurd (not_refused cs e k h)
answered_once cs (Err e) (Err d) h k = ap Err (refused_once cs e d h k)

pub one_answer : OneAnswer
one_answer = record { number = number_tells; answer = answered_once }
