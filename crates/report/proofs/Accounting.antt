-- Every report is an account of the network that its drawing describes.
use Rattle.std.proofs.Common.{◌≡◌, ℕ, ◌≤◌, List, [], ◌∷◌, ◌++◌, Some, None, Option, refl, sym, ap, ◌∙◌, subst, inl, arith}
use Rattle.std.specs.List.{cons_option}
use Rattle.refusal.specs.declared.Part.{Part}
use Rattle.refusal.specs.declared.Part.TheVariants as parts
use Rattle.refusal.specs.Checks.{first_of}
use Rattle.flow.specs.Bounds.{most_reaches}
use Rattle.flow.specs.Net.{Arc, Net}
use Rattle.flow.specs.Histories.{CommissionedDry}
use Rattle.network.specs.declared.row.Row.{Row}
use Rattle.table.specs.Laid.{places_in}
use Rattle.table.specs.Drafting.{fresh, shape_checks, with_shape, lay_checks, with_reach}
use Rattle.layer.specs.Layering.{layer_giver}
use Rattle.layer.specs.Chambered.{chambered}
use Rattle.layer.specs.Gathered.{gathered}
use Rattle.chambers.specs.Entering.{chamber_checks, chamber_reach}
use Rattle.gathering.specs.declared.role.Role.TheVariants.{Source, Sink}
use Rattle.gathering.specs.Entering.{Feeders, no_feeders, listed, with_feeder, feeder, gather_checks}
use Rattle.naming.specs.Names.{Naming, unnamed, with_name}
use Rattle.drawing.specs.declared.kind.Stage.{Stage}
use Rattle.drawing.specs.declared.kind.Stage.TheVariants as s
use Rattle.drawing.specs.Records.{Said, shape, name, reach, table_end, chamber, source, sink, limit, settle, drain, bottleneck, tally}
use Rattle.drawing.specs.Kinds.{group_of}
use Rattle.drawing.specs.Spelling.{written}
use Rattle.drawing.specs.Ahead.{Drawn, item, end, drawn}
use Rattle.drawing.specs.Order.{InOrder}
use Rattle.drawing.proofs.Ordered.{in_order}
use Rattle.desk.specs.Lines.{Lines, refused_line, refusable}
use Rattle.desk.specs.declared.command.Command.{Command}
use Rattle.desk.specs.declared.command.Command.TheVariants as command
use Rattle.desk.specs.Commands.{command_of, asked_by, asked}
use Rattle.entries.specs.Entered.{Feed, feed_in, chamber_in, then_commands, feeder_lines, then_feeders, chamber_lines}
use Rattle.report.specs.Reported.{draft_lines, reported}
use Rattle.report.specs.Asking.{commands_of}
use Rattle.report.specs.Described.{lodged, fed, table_of, chambers_of, feeders_of, with_feeders, with_chambers}
use Rattle.report.specs.Accounts.{AccountsFor, Accounted}
use Rattle.report.proofs.Calling.{commands_in, opened_accounts}
use Rattle.report.proofs.Founding.{fresh_founded, shape_founded, reach_founded, Lodging, none_lodged, more_lodged, chambers_founded, Feeding, none_fed, source_fed, sink_fed, feeders_founded}
use Rattle.report.proofs.Places.{rank, rank_of, led_by, table_over, chambers_over, feeders_over, commands_over}

refusable_accounts : (start : Net) (commands : List Command) (o : Option (ℕ × Part)) (p : ℕ) (ls : Lines) →
    (o ≡ None → AccountsFor start commands ls) → AccountsFor start commands (refusable o p ls)
refusable_accounts start commands (Some r) p ls h = inl (refused_line r.0 p r.1, refl, refl)
refusable_accounts start commands None p ls h = h refl

-- ---- sources and sinks, and then commands

module _ (names : Naming) (g : Net) (giver : ℕ → Part) (c : CommissionedDry g) where
  commanded_accounts : (d : Drawn) (fs : Feeders) → Feeding g fs → feeders_of d g fs ≡ fs → commands_in (asked d) ≡ commands_of d →
      AccountsFor (gathered g (listed (feeders_of d g fs))) (commands_of d) (then_commands names d g giver fs)
  commanded_accounts d fs f all same =
      subst (λ (x : Feeders). AccountsFor (gathered g (listed x)) (commands_of d) (then_commands names d g giver fs)) (sym all)
      (subst (λ (cs : List Command). AccountsFor (gathered g (listed fs)) cs (then_commands names d g giver fs)) same
      (opened_accounts (gathered g (listed fs)) (feeders_founded g fs c f) names (asked d) (layer_giver parts.Gathering g giver)))

  -- behind a command there are commands alone
  led_accounts : (p : ℕ) (a : Said) (o : Command) (rest : Drawn) (stage : Stage) (fs : Feeders) → Feeding g fs →
      command_of a ≡ Some o → feed_in a ≡ None → rank stage ≡ 4 → InOrder stage rest →
      AccountsFor (gathered g (listed (feeders_of (item p a rest) g fs))) (commands_of (item p a rest))
      (then_commands names (item p a rest) g giver fs)
  led_accounts p a o rest stage fs f is none at h =
      let all = ap (λ (x : Option Feed). feeders_of rest g (fed x g fs)) none ∙ feeders_over rest stage g fs (omega (arith, at)) h in
      let behind = commands_over rest stage (omega (arith, at)) h in
      let same = ap (λ (x : Option Command). commands_in (asked_by x p (asked rest))) is
      ∙ ap (λ (cs : List Command). o ∷ cs) behind ∙ sym (ap (λ (x : Option Command). cons_option x (commands_of rest)) is) in
      commanded_accounts (item p a rest) fs f all same

  fed_accounts : (d : Drawn) (stage : Stage) (fs : Feeders) → Feeding g fs → InOrder stage d →
      AccountsFor (gathered g (listed (feeders_of d g fs))) (commands_of d) (feeder_lines names d g giver fs)
  fed_accounts (item p (source j q) rest) stage fs f h =
      refusable_accounts _ _ (first_of (gather_checks Source g fs j q)) p _ (λ none.
      fed_accounts rest h.0 (with_feeder Source (feeder Source g j q) fs) (source_fed g fs j q f none) h.2)
  fed_accounts (item p (sink j q) rest) stage fs f h =
      refusable_accounts _ _ (first_of (gather_checks Sink g fs j q)) p _ (λ none.
      fed_accounts rest h.0 (with_feeder Sink (feeder Sink g j q) fs) (sink_fed g fs j q f none) h.2)
  fed_accounts (item p (limit k q) rest) stage fs f h =
      led_accounts p (limit k q) (command.Limit k q) rest h.0 fs f refl refl (led_by stage p (limit k q) rest h).at h.2
  fed_accounts (item p (settle b) rest) stage fs f h =
      led_accounts p (settle b) (command.Settle b) rest h.0 fs f refl refl (led_by stage p (settle b) rest h).at h.2
  fed_accounts (item p drain rest) stage fs f h =
      led_accounts p drain command.Drain rest h.0 fs f refl refl (led_by stage p drain rest h).at h.2
  fed_accounts (item p bottleneck rest) stage fs f h =
      led_accounts p bottleneck command.Bottleneck rest h.0 fs f refl refl (led_by stage p bottleneck rest h).at h.2
  fed_accounts (item p tally rest) stage fs f h =
      led_accounts p tally command.Tally rest h.0 fs f refl refl (led_by stage p tally rest h).at h.2
  fed_accounts (end p) stage fs f h = commanded_accounts (end p) fs f refl refl
  -- the reader's own refusal, and records that give no command
  fed_accounts d stage fs f h = inl (_, refl, refl)

-- ---- chambers

module _ (names : Naming) (g : Net) (giver : ℕ → Part) (c : CommissionedDry g) where
  -- what follows the chambers
  entered_accounts : (d : Drawn) (stage : Stage) (own : List Arc) → Lodging g own → InOrder stage d → chambers_of d g own ≡ own →
      AccountsFor (with_feeders d (chambered g (chambers_of d g own))) (commands_of d) (then_feeders names d g giver own)
  entered_accounts d stage own l h all =
      let founded = chambers_founded g own c l in
      subst (λ (x : List Arc). AccountsFor (with_feeders d (chambered g x)) (commands_of d) (then_feeders names d g giver own))
      (sym all)
      (fed_accounts names (chambered g own) (layer_giver parts.Chambers g giver) founded d stage no_feeders
      (none_fed (chambered g own) founded) h)

  -- behind a record that comes after the chambers there is none
  passed_accounts : (p : ℕ) (a : Said) (rest : Drawn) (stage : Stage) (own : List Arc) → Lodging g own → chamber_in a ≡ None →
      3 ≤ rank_of (group_of (written a).0) → InOrder stage (item p a rest) →
      AccountsFor (with_feeders (item p a rest) (chambered g (chambers_of (item p a rest) g own))) (commands_of (item p a rest))
      (then_feeders names (item p a rest) g giver own)
  passed_accounts p a rest stage own l none past h =
      let at = (led_by stage p a rest h).at in
      let all = ap (λ (x : Option (ℕ × ℕ)). chambers_of rest g (lodged x g own)) none
      ∙ chambers_over rest h.0 g own (omega (arith, at)) h.2 in
      entered_accounts (item p a rest) stage own l h all

  chambered_accounts : (d : Drawn) (stage : Stage) (own : List Arc) → Lodging g own → InOrder stage d →
      AccountsFor (with_feeders d (chambered g (chambers_of d g own))) (commands_of d) (chamber_lines names d g giver own)
  chambered_accounts (item p (chamber j q) rest) stage own l h =
      refusable_accounts _ _ (first_of (chamber_checks g own j q)) p _ (λ none.
      chambered_accounts rest h.0 (own ++ (chamber_reach g own j q ∷ [])) (more_lodged g own j q l none) h.2)
  chambered_accounts (item p (source j q) rest) stage own l h = passed_accounts p (source j q) rest stage own l refl (omega arith) h
  chambered_accounts (item p (sink j q) rest) stage own l h = passed_accounts p (sink j q) rest stage own l refl (omega arith) h
  chambered_accounts (item p (limit k q) rest) stage own l h = passed_accounts p (limit k q) rest stage own l refl (omega arith) h
  chambered_accounts (item p (settle b) rest) stage own l h = passed_accounts p (settle b) rest stage own l refl (omega arith) h
  chambered_accounts (item p drain rest) stage own l h = passed_accounts p drain rest stage own l refl (omega arith) h
  chambered_accounts (item p bottleneck rest) stage own l h = passed_accounts p bottleneck rest stage own l refl (omega arith) h
  chambered_accounts (item p tally rest) stage own l h = passed_accounts p tally rest stage own l refl (omega arith) h
  chambered_accounts (end p) stage own l h = entered_accounts (end p) stage own l h refl
  -- the reader's own refusal, and records of the table
  chambered_accounts d stage own l h = inl (_, refl, refl)

-- ---- the table

module _ (places : ℕ) (few : places ≤ most_reaches) where
  drafted_accounts : (d : Drawn) (stage : Stage) (g : Net) (names : Naming) → CommissionedDry g → InOrder stage d →
      AccountsFor (with_feeders d (with_chambers d (table_of d g))) (commands_of d) (draft_lines places d g names)
  drafted_accounts (item p (shape n i o) rest) stage g names c h =
      refusable_accounts _ _ (first_of (shape_checks g n i o)) p _ (λ none.
      drafted_accounts rest h.0 (with_shape g n i o) names (shape_founded g n i o c none) h.2)
  drafted_accounts (item p (reach t e q) rest) stage g names c h =
      refusable_accounts _ _ (first_of (lay_checks g places t e q)) p _ (λ none.
      drafted_accounts rest h.0 (with_reach g t e q) names (reach_founded g places t e q few c none) h.2)
  drafted_accounts (item p (name j bs q) rest) stage g names c h =
      drafted_accounts rest h.0 g (with_name j bs names) c h.2
  drafted_accounts (item p table_end rest) stage g names c h =
      let at = (led_by stage p table_end rest h).at in
      let whole = table_over rest h.0 g (omega (arith, at)) h.2 in
      let lines = chamber_lines names rest g (λ _. parts.Network) [] in
      subst (λ (x : Net). AccountsFor (with_feeders rest (with_chambers rest x)) (commands_of rest) lines) (sym whole)
      (chambered_accounts names g (λ _. parts.Network) c rest h.0 [] (none_lodged g c) h.2)
  -- the reader's own refusal, an end that comes early, and records that have no place in the table
  drafted_accounts d stage g names c h = inl (_, refl, refl)

pub accounted : (rows : List Row) (input : List ℕ) → Accounted (drawn input) (reported (places_in rows) input)
accounted rows input =
    drafted_accounts (places_in rows) (omega arith) (drawn input) s.Start fresh unnamed fresh_founded (in_order input)
