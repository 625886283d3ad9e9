-- Whatever call is made, its event happens, and so a history goes on with it and keeps the promise.
use Rattle.std.proofs.Common.{◌≡◌, ℕ, Bool, true, false, ltb, List, [], ◌∷◌, ◌++◌, length, None, Ok, Err, Result, refl, sym, ap, ◌∙◌, subst}
use Rattle.std.proofs.lemmas.Bool.{ltb-false}
use Rattle.refusal.specs.declared.Refusal.{Refusal}
use Rattle.refusal.specs.declared.Part.{Part}
use Rattle.refusal.specs.declared.Part.TheVariants.{Network}
use Rattle.refusal.specs.Checks.{Check, check, first_of}
use Rattle.flow.specs.Net.{Net, Shaped, arc_at}
use Rattle.flow.specs.Bottlenecks.{has_route}
use Rattle.flow.specs.Promises.{Promise}
use Rattle.flow.specs.Histories.{Event, refusal, Happens, after_call, after_calls, IsHistory}
use Rattle.flow.proofs.Deciding.{settling_of-is}
use Rattle.flow.proofs.Marking.{marked_tells}
use Rattle.flow.proofs.Lasting.{after_calls-append, IsHistory-append}
use Rattle.flow.proofs.Promising.{promise_kept}
use Rattle.network.specs.declared.change.Change.TheVariants as change
use Rattle.network.proofs.Setting.{change_there, accepted_low, limit_fits}
use Rattle.performing.specs.declared.answer.Answer.{Answer}
use Rattle.performing.specs.declared.call.Call.{Call}
use Rattle.performing.specs.declared.call.Call.TheVariants as call
use Rattle.performing.specs.Events.{event_of, event_by}
use Rattle.performing.specs.Calling.{checks_of, Performed}
use Rattle.performing.specs.Promising.{Promised}

-- where no check applies the first does not, and none of the others
none_first : (b : Bool) (n : ℕ) (p : Part) (cs : List Check) → first_of (check b n p ∷ cs) ≡ None →
    (b ≡ false) × (first_of cs ≡ None)
none_first true n p cs none = absurd cc
none_first false n p cs none = (refl, none)

-- a call that no check refuses happens as its event says
happens : (c : Call) (marks : List ℕ) (giver : ℕ → Part) (g : Net) → Shaped g → first_of (checks_of c marks giver g) ≡ None →
    Happens (event_of c marks g) g
happens (call.Settle b) marks giver g shaped none = settling_of-is b g shaped
happens (call.Limit k q) marks giver g shaped none =
    let low = accepted_low (change.Limit q) g.reaches giver k none in
    let own = sym (change_there (change.Limit q) g.reaches giver k low) ∙ none in
    let fits = limit_fits q (arc_at g.reaches k) (giver k) own in
    (low, fits.1, fits.0)
happens call.Drain marks giver g shaped none = tt
happens call.Tally marks giver g shaped none = refl
happens call.Bottleneck marks giver g shaped none =
    let first = none_first (ltb (length marks) g.junctions) 8 Network (check (has_route g) 10 Network ∷ []) none in
    let second = none_first (has_route g) 10 Network [] first.1 in
    marked_tells g marks shaped second.0 (ltb-false (length marks) g.junctions first.0)
happens call.Size marks giver g shaped none = tt
happens (call.Reach k) marks giver g shaped none = tt
happens (call.Touch v k) marks giver g shaped none = tt

-- so every history that led to the network goes on, and the promise holds of it
goes_on : (g : Net) (e : Event) → Happens e g → Promised g e (after_call e g)
goes_on g e happened start events commissioned history leads =
    let now : Happens e (after_calls events start) = subst (Happens e) (sym leads) happened in
    let more : IsHistory (events ++ e ∷ []) start = IsHistory-append events (e ∷ []) start history (now, tt) in
    let end : after_calls (events ++ e ∷ []) start ≡ after_call e g =
    after_calls-append events (e ∷ []) start ∙ ap (after_call e) leads in
    record {
      history = more;
      leads = end;
      promise = subst (Promise start (events ++ e ∷ [])) end (promise_kept start (events ++ e ∷ []) commissioned more);
    }

pub promised : (g after : Net) (giver : ℕ → Part) (c : Call) (marks written : List ℕ) (r : Result Answer Refusal) → Shaped g →
    Performed g giver c marks r written after → Promised g (event_by r c marks g) after
promised g after giver c marks written (Ok a) shaped done =
    subst (Promised g (event_of c marks g)) (sym done.leaves)
    (goes_on g (event_of c marks g) (happens c marks giver g shaped done.judged))
promised g after giver c marks written (Err e) shaped done =
    subst (Promised g refusal) (sym done.leaves) (goes_on g refusal tt)
