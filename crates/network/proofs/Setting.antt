-- Carry and limit: what the outcome of a change is, and that it keeps a network sound.
use Rattle.std.proofs.Common.{◌≡◌, ℕ, ◌<◌, ◌≤◌, leb, List, length, Some, None, Ok, Err, Result, sym, ap, ◌∙◌, subst, ⊎_elim, arith, length-set}
use Rattle.std.proofs.lemmas.Bool.{cases_lt, le-leb, lt-leb}
use Rattle.std.proofs.lemmas.Bool.Decides.{nat_tests}
use Rattle.refusal.specs.declared.Refusal.{Refusal}
use Rattle.refusal.specs.declared.Part.{Part}
use Rattle.refusal.specs.declared.Part.TheVariants.{Network}
use Rattle.refusal.specs.Checks.{first_of, afterwards}
use Rattle.refusal.proofs.Checking.{caught, passed, one_answer}
use Rattle.flow.specs.Bounds.{highest_setting}
use Rattle.flow.specs.Net.{Arc, Net, arc_at, Sound}
use Rattle.flow.specs.Changes.{with_reaches, reach_changed}
use Rattle.flow.proofs.Changing.{keeps_sound}
use Rattle.network.specs.declared.change.Change.{Change}
use Rattle.network.specs.declared.change.Change.TheVariants.{Carry, Limit}
use Rattle.network.specs.Changing.{changed, own_checks, change_checks, ChangedIn, Changed}
use Rattle.network.specs.Laws.{ChangeLaws}

module _ (c : Change) (rs : List Arc) (giver : ℕ → Part) (k : ℕ) where
  -- past the end a change is refused with 4; within the list the reach's own numbers decide
  pub change_past : length rs ≤ k → first_of (change_checks c rs giver k) ≡ Some (4, Network)
  change_past high = caught (leb (length rs) k) 4 Network (own_checks c (arc_at rs k) (giver k)) (le-leb (length rs) k high)

  pub change_there : k < length rs → first_of (change_checks c rs giver k) ≡ first_of (own_checks c (arc_at rs k) (giver k))
  change_there low = passed (leb (length rs) k) 4 Network (own_checks c (arc_at rs k) (giver k)) (lt-leb (length rs) k low)

  -- a change that is accepted is of a reach that is there
  pub accepted_low : first_of (change_checks c rs giver k) ≡ None → k < length rs
  accepted_low none =
      ⊎_elim (λ low. low) (λ high. absurd (let z : ◌≡◌ {A = ℕ} 0 1 = cc (change_past high, none) in omega arith))
      (cases_lt k (length rs))

-- the bounds that an accepted change keeps
carry_fits : (a : ℕ) (r : Arc) (p : Part) → first_of (own_checks (Carry a) r p) ≡ None → a ≤ r.limit
carry_fits a r p none = grind (arith, nat_tests)

pub limit_fits : (q : ℕ) (r : Arc) (p : Part) → first_of (own_checks (Limit q) r p) ≡ None → (r.carried ≤ q) × (q ≤ highest_setting)
limit_fits q r p none = grind (arith, nat_tests)

module _ (g : Net) (giver : ℕ → Part) (k : ℕ) (s : Sound g) where
  accepted : (c : Change) → first_of (change_checks c g.reaches giver k) ≡ None → Sound (reach_changed (changed c) k g)
  accepted c none = go c (sym (change_there c g.reaches giver k (accepted_low c g.reaches giver k none)) ∙ none)
    where
      go : (c : Change) → first_of (own_checks c (arc_at g.reaches k) (giver k)) ≡ None → Sound (reach_changed (changed c) k g)
      go (Carry a) own = keeps_sound.carry g k a s (carry_fits a (arc_at g.reaches k) (giver k) own)
      go (Limit q) own =
          let fits = limit_fits q (arc_at g.reaches k) (giver k) own in
          keeps_sound.limit g k q s fits.0 (omega (arith, fits.1))

-- a change in a network's list is a change of the network
pub changed_net : (c : Change) (g : Net) (giver : ℕ → Part) (k : ℕ) (r : Result Unit Refusal) (after : List Arc) →
    ChangedIn c g.reaches giver k r after → Changed c g giver k r (with_reaches g after)
changed_net c g giver k (Ok _) after h = (h.0, ap (with_reaches g) h.1)
changed_net c g giver k (Err e) after h = (h.0, ap (with_reaches g) h.1)

-- a change in a list keeps its length, and what holds of each reach if the reach that is changed keeps it
pub changed_length : (c : Change) (rs : List Arc) (giver : ℕ → Part) (k : ℕ) (r : Result Unit Refusal) (after : List Arc) →
    ChangedIn c rs giver k r after → length after ≡ length rs
changed_length c rs giver k (Ok _) after h = ap length h.1 ∙ length-set rs k (changed c (arc_at rs k))
changed_length c rs giver k (Err e) after h = ap length h.1

-- a change of a network is one in its list of reaches, and all else of the network stays
module _ (c : Change) (g : Net) (giver : ℕ → Part) (k : ℕ) where
  pub changed_list : (r : Result Unit Refusal) (after : Net) → Changed c g giver k r after →
      ChangedIn c g.reaches giver k r after.reaches
  changed_list (Ok _) after h = (h.0, ap (λ (x : Net). x.reaches) h.1)
  changed_list (Err e) after h = (h.0, ap (λ (x : Net). x.reaches) h.1)

sound : (c : Change) (g : Net) (giver : ℕ → Part) (k : ℕ) (r : Result Unit Refusal) (z : Net) →
    Sound g → Changed c g giver k r z → Sound z
sound c g giver k (Ok _) z s h = subst Sound (sym h.1) (accepted g giver k s c h.0)
sound c g giver k (Err e) z s h = subst Sound (sym h.1) s

module _ (c : Change) (g : Net) (giver : ℕ → Part) (k : ℕ) (r s : Result Unit Refusal) (y z : Net) where
  answer : Changed c g giver k r y → Changed c g giver k s z → r ≡ s
  answer h t = one_answer.answer (change_checks c g.reaches giver k) r s h.0 t.0

  after : Changed c g giver k r y → Changed c g giver k s z → y ≡ z
  after h t =
      h.1 ∙ ap (λ (x : Result Unit Refusal). afterwards x (reach_changed (changed c) k g) g) (answer h t) ∙ sym t.1

pub change_laws : ChangeLaws
change_laws = record { answer = answer; after = after; sound = sound }
