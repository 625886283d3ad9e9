-- The checks of an entry: what they come to, and what is known where none of them applies.
use Rattle.std.proofs.Common.{◌≡◌, ℕ, ◌+◌, ◌<◌, ◌≤◌, false, length, Some, None, Option, arith}
use Rattle.std.proofs.lemmas.Bool.{ltb-false}
use Rattle.std.proofs.lemmas.Bool.Decides.{nat_tests}
use Rattle.refusal.specs.Checks.{first_of}
use Rattle.flow.specs.Bounds.{most_junctions, most_reaches, highest_setting, highest_limit}
use Rattle.flow.specs.Net.{Net}
use Rattle.gathering.specs.declared.role.Role.{Role}
use Rattle.gathering.specs.Bounds.{most_of_each}
use Rattle.gathering.specs.Entering.{Feeders, listed, of_role, limit_of, too_high, gather_checks}

module _ (role : Role) (g : Net) (fs : Feeders) (v : ℕ) (stated : Option ℕ) where
  -- what is known of an entry that is accepted
  pub record Accepted : Type 0 where
    pub inside : v < g.junctions
    pub low : limit_of stated ≤ highest_limit
    pub room : length (of_role role fs) < most_of_each
    pub small : g.junctions + 2 ≤ most_junctions
    pub short : length g.reaches + length (listed fs) + 1 ≤ most_reaches

  -- it is known where no check applies
  pub accepted : first_of (gather_checks role g fs v stated) ≡ None → Accepted
  accepted none = record {
    inside = grind (arith, nat_tests);
    low = not_high stated (grind (arith, nat_tests));
    room = grind (arith, nat_tests);
    small = grind (arith, nat_tests);
    short = grind (arith, nat_tests);
  }
    where
      not_high : (q : Option ℕ) → too_high q ≡ false → limit_of q ≤ highest_limit
      not_high (Some q) low = ltb-false highest_setting q low
      not_high None low = omega arith
