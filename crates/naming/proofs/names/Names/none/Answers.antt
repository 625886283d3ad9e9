use Rattle.std.proofs.Common.{◌≡◌, ℕ, List, None, Option, option_map, get_or, replicate, ap, ⊎_elim, ◌<◌, ◌≤◌, arith}
use Rattle.std.specs.Borrow.{Bor}
use Rattle.std.proofs.Math.Path.{fun_ext}
use Rattle.std.proofs.lemmas.Bool.{cases_lt}
use Rattle.std.proofs.lemmas.List.{get_or_past, get_or-replicate, length-replicate}
use Rattle.naming.proofs.names.Names.none.Goals as goal

abbrev Given : Type 0
Given = Option (Bor (List ℕ))

blank : (v : ℕ) → get_or (replicate 512 (let none : Given = None in none)) v None ≡ None
blank v = ⊎_elim (λ (inside : v < 512). get_or-replicate 512 v _ None inside)
    (λ (past : 512 ≤ v). get_or_past (replicate 512 _) v None (omega (arith, length-replicate {A = Given} 512 None))) (cases_lt v 512)

pub returns : goal.returns
returns c = fun_ext (λ v. ap (λ (given : Given). option_map (λ (name : Bor (List ℕ)). name.now) given) (blank v))
