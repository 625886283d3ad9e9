-- The lines of an account, cut at one of them.
use Rattle.std.proofs.Common.{◌≡◌, ℕ, ◌≢◌, ◌⊎◌, true, List, [], ◌∷◌, ◌++◌, length, refl, sym, ap, ◌∙◌, subst, inl, inr, ⊎_elim, arith, length-append}
use Rattle.std.specs.List.{All}
use Rattle.std.proofs.lemmas.List.{append-nil}
use Rattle.std.proofs.lemmas.List.Elements.{All-nil, All-cons, All-head, All-tail}
use Rattle.flow.specs.Net.{Net}
use Rattle.flow.specs.Histories.{Event, settling, limit_change, draining, tally, bottleneck, reading, refusal, after_calls, IsHistory, CommissionedDry}
use Rattle.flow.specs.Promises.{Promise}
use Rattle.flow.proofs.Lasting.{IsHistory-before, IsHistory-behind}
use Rattle.desk.specs.declared.command.Command.{Command}
use Rattle.desk.specs.Lines.{Lines, limit_line, settled_line, drained_line, tally_line, bottleneck_line, network_line}
use Rattle.desk.specs.Laws.{is_across}
use Rattle.report.specs.Laws.{is_refusal}
use Rattle.report.specs.Accounts.{OneRefusal, TellsCall, TellsCalls, Account, AccountsFor}
use Rattle.report.proofs.Bytes.{first_byte, across_byte, refusal_byte}

-- ---- lists

-- of two ways to cut one list, one cuts no later than the other
pub overlap : (xs more ys others : Lines) → xs ++ more ≡ ys ++ others →
    ((c : Lines) × (xs ≡ ys ++ c) × (c ++ more ≡ others)) ⊎ ((c : Lines) × (ys ≡ xs ++ c) × (more ≡ c ++ others))
overlap [] more ys others e = inr (ys, refl, e)
overlap (x ∷ xs) more [] others e = inl (x ∷ xs, refl, e)
overlap (x ∷ xs) more (y ∷ ys) others e = ⊎_elim
    (λ (o : (c : Lines) × (xs ≡ ys ++ c) × (c ++ more ≡ others)). inl (o.0, cc (o.1), o.2))
    (λ (o : (c : Lines) × (ys ≡ xs ++ c) × (more ≡ c ++ others)). inr (o.0, cc (o.1), o.2))
    (overlap xs more ys others cc)

module _ (P : List ℕ → Type 0) where
  pub All-left : (xs ys : Lines) → All P (xs ++ ys) → All P xs
  All-left [] ys all = All-nil P
  All-left (x ∷ xs) ys all =
      All-cons P x xs (All-head P x (xs ++ ys) all) (All-left xs ys (All-tail P x (xs ++ ys) all))

  pub All-right : (xs ys : Lines) → All P (xs ++ ys) → All P ys
  All-right [] ys all = all
  All-right (x ∷ xs) ys all = All-right xs ys (All-tail P x (xs ++ ys) all)

pub nothing_behind : (xs : Lines) (l : List ℕ) (ys : Lines) → xs ++ (l ∷ ys) ≡ [] → ⊥
nothing_behind xs l ys e = omega (arith, length-append xs (l ∷ ys), ap length e)

-- ---- the lines of one call: one that says what it is, and behind it those of the reaches that cross a bottleneck

abbrev pub IsAcross : List ℕ → Type 0
IsAcross l = is_across l ≡ true

-- the line that says what the call is
abbrev pub Says : Event → List ℕ → Type 0
Says (settling budget routes answer) l = l ≡ settled_line answer.routes answer.litres answer.finished
Says (limit_change k q) l = l ≡ limit_line k q
Says draining l = l ≡ drained_line
Says (tally answer) l = l ≡ tally_line answer
Says (bottleneck marks sum crossing) l = l ≡ bottleneck_line sum
Says refusal l = is_refusal l ≡ true
Says reading l = ⊥

pub record Headed (e : Event) (now : Lines) : Type 0 where
  pub line : List ℕ
  pub across : Lines
  pub are : now ≡ line ∷ across
  pub says : Says e line
  pub each : All IsAcross across
  -- only a bottleneck has more than one line, and it begins with a b
  pub alone : first_byte line ≢ 98 → across ≡ []

pub headed : (e : Event) (now : Lines) → TellsCall e now → Headed e now
headed (settling budget routes answer) now t =
    record { line = _; across = []; are = t; says = refl; each = All-nil IsAcross; alone = λ ne. refl }
headed (limit_change k q) now t =
    record { line = _; across = []; are = t; says = refl; each = All-nil IsAcross; alone = λ ne. refl }
headed draining now t =
    record { line = _; across = []; are = t; says = refl; each = All-nil IsAcross; alone = λ ne. refl }
headed (tally answer) now t =
    record { line = _; across = []; are = t; says = refl; each = All-nil IsAcross; alone = λ ne. refl }
headed (bottleneck marks sum crossing) now t =
    record { line = bottleneck_line sum; across = t.0; are = t.1; says = refl; each = t.3; alone = λ ne. absurd (ne refl) }
headed refusal now t =
    record { line = t.0; across = []; are = t.1; says = t.2; each = All-nil IsAcross; alone = λ ne. refl }
headed reading now t = absurd t

-- ---- the cut

-- the calls before one, told by the lines before; it, with its only line; and the calls behind it, told by the others
pub record Cut (events : List Event) (before : Lines) (l : List ℕ) (rest : Lines) : Type 0 where
  pub earlier : List Event
  pub call : Event
  pub later : List Event
  pub are : events ≡ earlier ++ call ∷ later
  pub says : Says call l
  pub told : TellsCalls earlier before
  pub tells : TellsCalls later rest

-- a line that is none of a crossing reach, of a bottleneck or of a refusal, by its first byte
abbrev pub Plain : List ℕ → Type 0
Plain l = (first_byte l ≢ 97) × (first_byte l ≢ 98) × (first_byte l ≢ 114)

-- what is left of the lines before it once those of the first call are taken away
taken : (bs : Lines) (l : List ℕ) (rest across later : Lines) → Plain l → All IsAcross across →
    bs ++ (l ∷ rest) ≡ across ++ later → (c : Lines) × (bs ≡ across ++ c) × (later ≡ c ++ (l ∷ rest))
taken bs l rest across later plain each e = ⊎_elim
    (λ (o : (c : Lines) × (bs ≡ across ++ c) × (c ++ (l ∷ rest) ≡ later)). (o.0, o.1, sym o.2))
    (λ (o : (c : Lines) × (across ≡ bs ++ c) × (l ∷ rest ≡ c ++ later)). short o.0 o.1 o.2)
    (overlap bs (l ∷ rest) across later e)
  where
    short : (c : Lines) → across ≡ bs ++ c → l ∷ rest ≡ c ++ later → (d : Lines) × (bs ≡ across ++ d) × (later ≡ d ++ (l ∷ rest))
    short [] is more = ([], sym (append-nil across ∙ is ∙ append-nil bs), sym more)
    short (y ∷ ys) is more =
        let here : IsAcross y = All-head IsAcross y ys (All-right IsAcross bs (y ∷ ys) (subst (All IsAcross) is each)) in
        let same : l ≡ y = cc in
        absurd (plain.0 (across_byte l (subst IsAcross (sym same) here)))

in_front : (b : List ℕ) (bs now c : Lines) (line : List ℕ) (across : Lines) → b ≡ line → bs ≡ across ++ c →
    now ≡ line ∷ across → b ∷ bs ≡ now ++ c
in_front b bs now c line across same is are =
    let all : b ∷ bs ≡ line ∷ (across ++ c) = cc in
    all ∙ ap (λ (x : Lines). x ++ c) (sym are)

pub cut_at : (events : List Event) (before : Lines) (l : List ℕ) (rest ls : Lines) → Plain l → TellsCalls events ls →
    ls ≡ before ++ (l ∷ rest) → Cut events before l rest
cut_at [] before l rest ls plain tells is = ⊎_elim
    (λ (none : ls ≡ []). absurd (nothing_behind before l rest (sym is ∙ none)))
    (λ (r : OneRefusal ls). last before (sym is ∙ r.1) r.2)
    tells
  where
    last : (xs : Lines) → {r : List ℕ} → xs ++ (l ∷ rest) ≡ r ∷ [] → is_refusal r ≡ true → Cut [] before l rest
    last [] {r} e refuses = let same : l ≡ r = cc in absurd (plain.2 (ap first_byte same ∙ refusal_byte r refuses))
    last (x ∷ xs) {r} e refuses = let none : xs ++ (l ∷ rest) ≡ [] = cc in absurd (nothing_behind xs l rest none)
cut_at (e ∷ es) [] l rest ls plain (now, later, are, told, more) is =
    let h = headed e now told in
    let whole : l ∷ rest ≡ h.line ∷ (h.across ++ later) = sym is ∙ are ∙ ap (λ (x : Lines). x ++ later) h.are in
    let same : l ≡ h.line = cc in
    let alone = h.alone (λ b. plain.1 (ap first_byte same ∙ b)) in
    let others : rest ≡ h.across ++ later = cc in
    let left : later ≡ rest = sym (others ∙ ap (λ (x : Lines). x ++ later) alone) in
    record {
      earlier = [];
      call = e;
      later = es;
      are = refl;
      says = subst (Says e) (sym same) h.says;
      told = inl refl;
      tells = subst (TellsCalls es) left more;
    }
cut_at (e ∷ es) (b ∷ bs) l rest ls plain (now, later, are, told, more) is =
    let h = headed e now told in
    let whole : b ∷ (bs ++ (l ∷ rest)) ≡ h.line ∷ (h.across ++ later) = sym is ∙ are ∙ ap (λ (x : Lines). x ++ later) h.are in
    let same : b ≡ h.line = cc in
    let others : bs ++ (l ∷ rest) ≡ h.across ++ later = cc in
    let t = taken bs l rest h.across later plain h.each others in
    let c = cut_at es t.0 l rest later plain more t.2 in
    record {
      earlier = e ∷ c.earlier;
      call = c.call;
      later = c.later;
      are = ap (λ (x : List Event). e ∷ x) {y = c.earlier ++ c.call ∷ c.later} c.are;
      says = c.says;
      told = (now, t.0, in_front b bs now t.0 h.line h.across same t.1 h.are, told, c.told);
      tells = c.tells;
    }

-- ---- the account of a report

-- the call that one of the lines behind the first tells, and what is known of the network on which it happened
pub record Moment (start : Net) (before : Lines) (l : List ℕ) (rest : Lines) : Type 0 where
  pub commissioned : CommissionedDry start
  pub earlier : List Event
  pub call : Event
  pub later : List Event
  pub says : Says call l
  pub told : TellsCalls earlier before
  pub tells : TellsCalls later rest
  pub history : IsHistory earlier start
  pub on : IsHistory (call ∷ later) (after_calls earlier start)
  pub promise : Promise start earlier (after_calls earlier start)

pub moment : (start : Net) (commands : List Command) (ls : Lines) → AccountsFor start commands ls → (first l : List ℕ)
    (before rest : Lines) → ls ≡ first ∷ (before ++ (l ∷ rest)) → Plain l → Moment start before l rest
moment start commands ls accounts first l before rest are plain = ⊎_elim
    (λ (r : OneRefusal ls).
    let none : before ++ (l ∷ rest) ≡ [] = let e = sym are ∙ r.1 in cc in
    absurd (nothing_behind before l rest none))
    (λ (x : (answers : Lines) × (ls ≡ network_line start.junctions (length start.reaches) ∷ answers)
    × Account start commands answers).
    let behind : x.0 ≡ before ++ (l ∷ rest) = let e = sym x.1 ∙ are in cc in
    let a = x.2 in
    let c = cut_at a.events before l rest x.0 plain a.told behind in
    let history = subst (λ (es : List Event). IsHistory es start) {y = c.earlier ++ c.call ∷ c.later} c.are a.history in
    record {
      commissioned = a.commissioned;
      earlier = c.earlier;
      call = c.call;
      later = c.later;
      says = c.says;
      told = c.told;
      tells = c.tells;
      history = IsHistory-before c.earlier (c.call ∷ c.later) start history;
      on = IsHistory-behind c.earlier (c.call ∷ c.later) start history;
      promise = a.promise c.earlier (c.call ∷ c.later) c.are;
    })
    accounts
