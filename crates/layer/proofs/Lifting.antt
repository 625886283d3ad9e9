-- The reaches of a layer: those of the network below, each lifted by f, and then the layer's own. What a call on a reach
-- of either kind comes to on the whole list is proved here once, for every layer.
use Rattle.std.proofs.Common.{◌≡◌, ℕ, ◌+◌, ◌-◌, ◌<◌, ◌≤◌, ltb, List, ◌++◌, map, length, set, Ok, Err, Result, sym, refl, ap, ◌∙◌, subst, ⊎_elim, arith, length-append}
use lib.ListN.{length-map}
use Rattle.std.specs.List.{All}
use Rattle.std.proofs.lemmas.List.Elements.{All-from_get_or, All-get_or, All-append}
use Rattle.std.proofs.lemmas.List.{get_or-map, map-set, get_or_append_left, get_or-append-add, set-append_left, set-append_right}
use Rattle.std.proofs.lemmas.Bool.{cases_lt, cond-true, cond-false, lt-ltb, le-ltb}
use Rattle.refusal.specs.declared.Part.{Part}
use Rattle.refusal.specs.declared.Refusal.{Refusal}
use Rattle.refusal.specs.Checks.{first_of}
use Rattle.refusal.proofs.Checking.{judged_as}
use Rattle.flow.specs.Net.{Arc, Net, no_arc, arc_at, FairArc}
use Rattle.network.specs.declared.change.Change.{Change}
use Rattle.network.specs.declared.change.Change.TheVariants.{Carry, Limit}
use Rattle.network.specs.Changing.{changed, own_checks, change_checks, ChangedIn}
use Rattle.network.proofs.Setting.{change_past, change_there}
use Rattle.layer.specs.Layering.{layer_giver, leaving_from}
use Rattle.layer.specs.Lifting.{Lifts}

-- reaches that stay as they are below
pub unlifted : Lifts (λ r. r) (λ rs. rs)
unlifted = record {
  long = λ rs. refl;
  there = λ rs k low. refl;
  put = λ rs k r. refl;
  checks = λ c r p. refl;
  commutes = λ c r. refl;
}

-- reaches that leave the junction `from t` in place of t
module _ (from : ℕ → ℕ) where
  same_checks : (c : Change) (r : Arc) (p : Part) → first_of (own_checks c (leaving_from from r) p) ≡ first_of (own_checks c r p)
  same_checks (Carry a) r p = refl
  same_checks (Limit q) r p = refl

  same_change : (c : Change) (r : Arc) → leaving_from from (changed c r) ≡ changed c (leaving_from from r)
  same_change (Carry a) r = refl
  same_change (Limit q) r = refl

  pub retailed : Lifts (leaving_from from) (map (leaving_from from))
  retailed = record {
    long = λ rs. length-map rs (leaving_from from);
    there = λ rs k low. get_or-map (leaving_from from) rs k no_arc no_arc low;
    put = λ rs k r. map-set (leaving_from from) rs k r;
    checks = same_checks;
    commutes = same_change;
  }

module _ (f : Arc → Arc) (lift : List Arc → List Arc) (l : Lifts f lift) (rs own : List Arc) where
  abbrev all : List Arc
  all = lift rs ++ own

  pub all_length : length all ≡ length rs + length own
  all_length = simp length-append (omega (arith, l.long rs))

  -- a reach of the network below, and one of the layer's own
  pub at_below : (k : ℕ) → k < length rs → arc_at all k ≡ f (arc_at rs k)
  at_below k low = get_or_append_left (lift rs) own no_arc k (omega (arith, l.long rs)) ∙ l.there rs k low

  pub at_own : (k e : ℕ) → length rs + e ≡ k → arc_at all k ≡ arc_at own e
  at_own k e is =
      let place : k ≡ length (lift rs) + e = omega (arith, l.long rs) in
      ap (arc_at all) place ∙ get_or-append-add (lift rs) own e no_arc

  -- what holds of each reach, lifted or own
  pub all_fair : (n m : ℕ) → ((r : Arc) → FairArc n r → FairArc m (f r)) → All (FairArc n) rs → All (FairArc m) own → All (FairArc m) all
  all_fair n m keeps below mine = All-append (FairArc m) (lift rs) own
      (All-from_get_or (FairArc m) (lift rs) no_arc (λ k low.
      let less : k < length rs = omega (arith, l.long rs) in
      subst (FairArc m) (sym (l.there rs k less)) (keeps (arc_at rs k) (All-get_or (FairArc n) rs k no_arc less below))))
      mine

  -- a change of a reach of the network below
  module _ (c : Change) (giver upper : ℕ → Part) (k : ℕ) (low : k < length rs) (gives : upper k ≡ giver k) (after : List Arc) where
    checks_below : first_of (change_checks c all upper k) ≡ first_of (change_checks c rs giver k)
    checks_below =
        change_there c all upper k (omega (arith, all_length))
        ∙ ap (λ (r : Arc). first_of (own_checks c r (upper k))) (at_below k low)
        ∙ ap (λ (p : Part). first_of (own_checks c (f (arc_at rs k)) p)) gives
        ∙ l.checks c (arc_at rs k) (giver k) ∙ sym (change_there c rs giver k low)

    set_below : lift (set rs k (changed c (arc_at rs k))) ++ own ≡ set all k (changed c (arc_at all k))
    set_below =
        let short : k < length (lift rs) = omega (arith, l.long rs) in
        ap (λ (xs : List Arc). xs ++ own) (l.put rs k (changed c (arc_at rs k)))
        ∙ ap (λ (r : Arc). set (lift rs) k r ++ own) (l.commutes c (arc_at rs k))
        ∙ sym (set-append_left (lift rs) own k (changed c (f (arc_at rs k))) short)
        ∙ ap (λ (r : Arc). set all k (changed c r)) (sym (at_below k low))

    pub changed_below : (r : Result Unit Refusal) → ChangedIn c rs giver k r after → ChangedIn c all upper k r (lift after ++ own)
    changed_below (Ok u) h = (
      judged_as (Unit {0}) (change_checks c rs giver k) (change_checks c all upper k) (Ok u) checks_below h.0,
      ap (λ (xs : List Arc). lift xs ++ own) h.1 ∙ set_below,
    )
    changed_below (Err e) h = (
      judged_as (Unit {0}) (change_checks c rs giver k) (change_checks c all upper k) (Err e) checks_below h.0,
      ap (λ (xs : List Arc). lift xs ++ own) h.1,
    )

  -- a change of a reach of the layer's own, for all of which the part answers
  module _ (c : Change) (part : Part) (upper : ℕ → Part) (k e : ℕ) (is : length rs + e ≡ k) (gives : upper k ≡ part)
      (after : List Arc) where
    checks_own : first_of (change_checks c all upper k) ≡ first_of (change_checks c own (λ _. part) e)
    checks_own = ⊎_elim
        (λ (less : e < length own).
        change_there c all upper k (omega (arith, all_length))
        ∙ ap (λ (r : Arc). first_of (own_checks c r (upper k))) (at_own k e is)
        ∙ ap (λ (p : Part). first_of (own_checks c (arc_at own e) p)) gives ∙ sym (change_there c own (λ _. part) e less))
        (λ (more : length own ≤ e).
        change_past c all upper k (omega (arith, all_length)) ∙ sym (change_past c own (λ _. part) e more))
        (cases_lt e (length own))

    set_own : lift rs ++ set own e (changed c (arc_at own e)) ≡ set all k (changed c (arc_at all k))
    set_own =
        let place : k - length (lift rs) ≡ e = omega (arith, l.long rs) in
        let past : length (lift rs) ≤ k = omega (arith, l.long rs) in
        ap (λ (i : ℕ). lift rs ++ set own i (changed c (arc_at own e))) (sym place)
        ∙ sym (set-append_right (lift rs) own (length (lift rs)) k (changed c (arc_at own e)) refl past)
        ∙ ap (λ (r : Arc). set all k (changed c r)) (sym (at_own k e is))

    pub changed_own : (r : Result Unit Refusal) → ChangedIn c own (λ _. part) e r after → ChangedIn c all upper k r (lift rs ++ after)
    changed_own (Ok u) h = (
      judged_as (Unit {0}) (change_checks c own (λ _. part) e) (change_checks c all upper k) (Ok u) checks_own h.0,
      ap (λ (xs : List Arc). lift rs ++ xs) h.1 ∙ set_own,
    )
    changed_own (Err x) h = (
      judged_as (Unit {0}) (change_checks c own (λ _. part) e) (change_checks c all upper k) (Err x) checks_own h.0,
      ap (λ (xs : List Arc). lift rs ++ xs) h.1,
    )

-- who answers for a reach of the network below, and for one of the layer's own
module _ (part : Part) (g : Net) (giver : ℕ → Part) (k : ℕ) where
  pub gives_below : k < length g.reaches → layer_giver part g giver k ≡ giver k
  gives_below low = cond-true (ltb k (length g.reaches)) (giver k) part (lt-ltb k (length g.reaches) low)

  pub gives_own : length g.reaches ≤ k → layer_giver part g giver k ≡ part
  gives_own high = cond-false (ltb k (length g.reaches)) (giver k) part (le-ltb k (length g.reaches) high)
