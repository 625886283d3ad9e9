-- The lines of the commands of a drawing tell a history of calls.
use Rattle.std.proofs.Common.{◌≡◌, ℕ, ◌+◌, Bool, true, false, cond, List, [], ◌∷◌, ◌++◌, length, Some, None, Option, refl, sym, ap, ◌∙◌, subst, inl, inr, arith}
use Rattle.std.specs.List.{All, AllZip}
use Rattle.std.proofs.lemmas.List.Elements.{All-nil, All-cons}
use Rattle.std.proofs.lemmas.Bool.Decides.{nat_tests}
use Rattle.refusal.specs.declared.Part.{Part}
use Rattle.refusal.specs.declared.Part.TheVariants as parts
use Rattle.refusal.specs.Checks.{first_of}
use Rattle.flow.specs.Net.{Arc, Net, Shaped}
use Rattle.flow.specs.Flows.{delivered}
use Rattle.flow.specs.Cuts.{Side, crosses, crossing_count}
use Rattle.flow.specs.Bottlenecks.{near_of, has_route, bottleneck_sum, bottleneck_count, marked_over}
use Rattle.flow.specs.Histories.{Event, settling, limit_change, draining, tally, bottleneck, refusal, after_call, after_calls, Happens, IsHistory, CommissionedDry, marks_of}
use Rattle.flow.proofs.Answering.{marks_of-length, history_laws}
use Rattle.flow.proofs.Deciding.{settling_of, settling_of-is}
use Rattle.flow.proofs.Lasting.{lasting, IsHistory-before}
use Rattle.flow.proofs.Marking.{marked_tells}
use Rattle.flow.proofs.Promising.{promise_kept}
use Rattle.network.specs.declared.change.Change.TheVariants as change
use Rattle.network.specs.Changing.{change_checks}
use Rattle.naming.specs.Names.{Naming}
use Rattle.desk.specs.declared.command.Command.{Command}
use Rattle.desk.specs.declared.command.Command.TheVariants as command
use Rattle.desk.specs.Lines.{Lines, across_line, across_lines, bottleneck_line, refused_line, refusal_line}
use Rattle.desk.specs.Laws.{is_across}
use Rattle.desk.specs.Commands.{Asked, ask, done, turned}
use Rattle.desk.specs.Answering.{limited, answered, following, command_lines, opened_lines}
use Rattle.report.specs.Asking.{Asks}
use Rattle.report.specs.Accounts.{TellsCall, TellsCalls, Account, AccountsFor}

-- ---- the lines of reaches that cross a cut are as many as these reaches

abbrev IsAcross : List ℕ → Type 0
IsAcross l = is_across l ≡ true

record Across (names : Naming) (near : Side) (k : ℕ) (rs : List Arc) : Type 0 where
  many : length (across_lines names near k rs) ≡ crossing_count near rs
  each : All IsAcross (across_lines names near k rs)

across_one : (b : Bool) (l : List ℕ) (ls : Lines) (n : ℕ) → is_across l ≡ true → length ls ≡ n → All IsAcross ls →
    (length (cond b (l ∷ []) [] ++ ls) ≡ cond b 1 0 + n) × All IsAcross (cond b (l ∷ []) [] ++ ls)
across_one true l ls n is many each = (omega (arith, many), All-cons IsAcross l ls is each)
across_one false l ls n is many each = (omega (arith, many), each)

across_all : (names : Naming) (near : Side) (k : ℕ) (rs : List Arc) → Across names near k rs
across_all names near k [] = record { many = refl; each = All-nil IsAcross }
across_all names near k (r ∷ rs) =
    let rest = across_all names near (k + 1) rs in
    let here = across_one (crosses near r) (across_line names k r) (across_lines names near (k + 1) rs) (crossing_count near rs)
    refl rest.many rest.each in
    record { many = here.0; each = here.1 }

-- ---- one command

-- a call that the command asks for happens on the network g, leaves the network h, and is told by these lines
record Step (c : Command) (g h : Net) (ls : Lines) : Type 0 where
  event : Event
  asks : Asks c event
  happens : Happens event g
  leaves : after_call event g ≡ h
  tells : TellsCall event ls

limit_fits : (giver : ℕ → Part) (k q : ℕ) (g : Net) → first_of (change_checks (change.Limit q) g.reaches giver k) ≡ None →
    Happens (limit_change k q) g
limit_fits giver k q g none =
    (grind (arith, nat_tests), grind (arith, nat_tests), grind (arith, nat_tests))

limit_step : (o : Option (ℕ × Part)) (k q p : ℕ) (g : Net) → (o ≡ None → Happens (limit_change k q) g) →
    Step (command.Limit k q) g (limited o k q p g).1 ((limited o k q p g).0 ∷ [])
limit_step (Some r) k q p g fits =
    record { event = refusal; asks = inr refl; happens = tt; leaves = refl; tells = (refused_line r.0 p r.1, refl, refl) }
limit_step None k q p g fits =
    record { event = limit_change k q; asks = inl refl; happens = fits refl; leaves = refl; tells = refl }

-- where no route exists the bottleneck is told, with the marks of all junctions
bottleneck_step : (names : Naming) (p : ℕ) (g : Net) → Shaped g → (b : Bool) → has_route g ≡ b →
    Step command.Bottleneck g g (cond b (refused_line 10 p parts.Network) (bottleneck_line (bottleneck_sum g))
    ∷ cond b [] (across_lines names (near_of g) 0 g.reaches))
bottleneck_step names p g shaped true is =
    record { event = refusal; asks = inr refl; happens = tt; leaves = refl; tells = (refused_line 10 p parts.Network, refl, refl) }
bottleneck_step names p g shaped false is =
    let marks = marks_of (near_of g) g.junctions in
    let across = across_all names (near_of g) 0 g.reaches in
    record {
      event = bottleneck (marked_over g marks) (bottleneck_sum g) (bottleneck_count g);
      asks = inl (marked_over g marks, bottleneck_sum g, bottleneck_count g, refl);
      happens = marked_tells g marks shaped is (omega (arith, marks_of-length (near_of g) g.junctions));
      leaves = refl;
      tells = (across_lines names (near_of g) 0 g.reaches, refl, across.many, across.each);
    }

step : (names : Naming) (c : Command) (p : ℕ) (giver : ℕ → Part) (g : Net) → Shaped g →
    Step c g (answered c p giver g).1 ((answered c p giver g).0 ∷ following names c g)
step names (command.Limit k q) p giver g shaped =
    limit_step (first_of (change_checks (change.Limit q) g.reaches giver k)) k q p g (limit_fits giver k q g)
step names (command.Settle b) p giver g shaped = record {
  event = settling b (settling_of b g).0 (settling_of b g).1;
  asks = ((settling_of b g).0, (settling_of b g).1, refl);
  happens = settling_of-is b g shaped;
  leaves = refl;
  tells = refl;
}
step names command.Drain p giver g shaped = record { event = draining; asks = refl; happens = tt; leaves = refl; tells = refl }
step names command.Tally p giver g shaped =
    record { event = tally (delivered g); asks = (delivered g, refl); happens = refl; leaves = refl; tells = refl }
step names command.Bottleneck p giver g shaped = bottleneck_step names p g shaped (has_route g) refl

-- ---- commands one after the other

-- the commands up to the end or to a refusal
abbrev pub commands_in : Asked → List Command
commands_in (ask c p rest) = c ∷ commands_in rest
commands_in done = []
commands_in (turned e) = []

module _ (start : Net) (c : CommissionedDry start) where
  -- a network that calls have left
  record Left (g : Net) : Type 0 where
    before : List Event
    history : IsHistory before start
    is : after_calls before start ≡ g

  left_shaped : (g : Net) → Left g → Shaped g
  left_shaped g l = subst Shaped l.is (lasting l.before start c l.history).shaped

  -- one call more leaves another
  left_by : (e : Event) (g h : Net) → Happens e g → after_call e g ≡ h → Left g → Left h
  left_by e g h happens leaves l = record {
    before = l.before ++ e ∷ [];
    history = history_laws.more start l.before e l.history (subst (Happens e) (sym l.is) happens);
    is = history_laws.then start l.before e ∙ ap (after_call e) l.is ∙ leaves;
  }

  -- calls that commands ask for happen from the network g on, and are told by these lines
  record Told (commands : List Command) (g : Net) (ls : Lines) : Type 0 where
    events : List Event
    asked : AllZip Asks commands events
    history : IsHistory events g
    tells : TellsCalls events ls

  commands_told : (names : Naming) (a : Asked) (giver : ℕ → Part) (g : Net) → Left g →
      Told (commands_in a) g (command_lines names a giver g)
  commands_told names (ask c p rest) giver g l =
      let now = step names c p giver g (left_shaped g l) in
      let h = (answered c p giver g).1 in
      let more = commands_told names rest giver h (left_by now.event g h now.happens now.leaves l) in
      record {
        events = now.event ∷ more.events;
        asked = (now.asks, more.asked);
        history = (now.happens, subst (IsHistory more.events) (sym now.leaves) more.history);
        tells = ((answered c p giver g).0 ∷ following names c g, command_lines names rest giver h, refl, now.tells, more.tells);
      }
  commands_told names done giver g l = record { events = []; asked = tt; history = tt; tells = inl refl }
  commands_told names (turned e) giver g l =
      record { events = []; asked = tt; history = tt; tells = inr (refusal_line e, refl, refl) }

  account : (commands : List Command) (ls : Lines) → Told commands start ls → Account start commands ls
  account commands ls told = record {
    commissioned = c;
    events = told.events;
    asked = told.asked;
    history = told.history;
    told = told.tells;
    promise = λ before later are. promise_kept start before c
        (IsHistory-before before later start (subst (λ (es : List Event). IsHistory es start) are told.history));
  }

  pub opened_accounts : (names : Naming) (a : Asked) (giver : ℕ → Part) →
      AccountsFor start (commands_in a) (opened_lines names a giver start)
  opened_accounts names (ask c p rest) giver =
      let told = commands_told names (ask c p rest) giver start (record { before = []; history = tt; is = refl }) in
      let answers = command_lines names (ask c p rest) giver start in
      inr (answers, refl, account (c ∷ commands_in rest) answers told)
  opened_accounts names done giver = inr ([], refl, account [] [] (record { events = []; asked = tt; history = tt; tells = inl refl }))
  opened_accounts names (turned e) giver = inl (refusal_line e, refl, refl)
