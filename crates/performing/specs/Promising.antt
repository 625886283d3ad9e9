-- What every call promises of all calls before it and of itself.
use Rattle.std.specs.Prelude.{◌≡◌, List, [], ◌∷◌, ◌++◌}
use Rattle.flow.specs.Net.{Net}
use Rattle.flow.specs.Histories.{Event, after_calls, IsHistory, CommissionedDry}
use Rattle.flow.specs.Promises.{Promise}

-- a history goes on with one event, to the network after it, and the promise holds of it
pub record GoesOn (start : Net) (events : List Event) (e : Event) (after : Net) : Type 0 where
  pub history : IsHistory (events ++ e ∷ []) start
  pub leads : after_calls (events ++ e ∷ []) start ≡ after
  pub promise : Promise start (events ++ e ∷ []) after

-- so does every history of a network that was commissioned and dry which led to the network g
abbrev pub Promised : Net → Event → Net → Type 0
Promised g e after = (start : Net) (events : List Event) → CommissionedDry start → IsHistory events start →
    after_calls events start ≡ g → GoesOn start events e after
