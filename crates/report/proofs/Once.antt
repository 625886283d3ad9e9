-- Every report is one refusal, or tells first how many junctions and reaches the drawing comes to, and never again.
use Rattle.std.proofs.Common.{◌≡◌, ℕ, ◌+◌, Bool, true, false, cond, List, [], ◌∷◌, ◌++◌, map, length, Some, None, Option, refl, ap, ◌∙◌, subst, inl, inr, arith, length-append}
use Rattle.std.specs.List.{All}
use Rattle.std.proofs.lemmas.List.{length_push}
use Rattle.std.proofs.lemmas.List.Elements.{All-nil, All-cons, All-append}
use Rattle.refusal.specs.declared.Part.{Part}
use Rattle.refusal.specs.declared.Part.TheVariants as parts
use Rattle.refusal.specs.Checks.{first_of}
use Rattle.flow.specs.Net.{Arc, Net}
use Rattle.flow.specs.Cuts.{Side, crosses}
use Rattle.flow.specs.Bottlenecks.{near_of, has_route}
use Rattle.network.specs.declared.change.Change.TheVariants as change
use Rattle.network.specs.Changing.{change_checks}
use Rattle.table.specs.Drafting.{fresh, shape_checks, with_shape, lay_checks, with_reach, laid_row}
use Rattle.network.specs.Rows.{arc_of_row}
use Rattle.layer.specs.Layering.{layer_giver, leaving_from}
use Rattle.layer.specs.Chambered.{left_from, chambered}
use Rattle.layer.specs.Gathered.{gathered}
use Rattle.layer.proofs.Lifting.{retailed, all_length}
use Rattle.chambers.specs.Entering.{chamber_checks, chamber_reach}
use Rattle.gathering.specs.declared.role.Role.{Role}
use Rattle.gathering.specs.declared.role.Role.TheVariants.{Source, Sink}
use Rattle.gathering.specs.Entering.{Feeders, no_feeders, listed, with_feeder, feeder, gather_checks}
use Rattle.naming.specs.Names.{Naming, unnamed, with_name}
use Rattle.drawing.specs.declared.kind.Stage.{Stage}
use Rattle.drawing.specs.declared.kind.Stage.TheVariants as s
use Rattle.drawing.specs.Kinds.{commands, place_of, follows}
use Rattle.drawing.specs.Records.{Said, shape, name, reach, table_end, chamber, source, sink, limit, settle, drain, bottleneck, tally}
use Rattle.drawing.specs.Spelling.{written}
use Rattle.drawing.specs.Ahead.{Drawn, item, end, refused, drawn}
use Rattle.drawing.specs.Order.{InOrder}
use Rattle.drawing.proofs.Ordered.{in_order}
use Rattle.desk.specs.declared.command.Command.{Command}
use Rattle.desk.specs.declared.command.Command.TheVariants as command
use Rattle.desk.specs.Lines.{Lines, refusal_line, refusable, across_line, across_lines}
use Rattle.desk.specs.Commands.{Asked, ask, done, turned, asked}
use Rattle.desk.specs.Answering.{limited, answered, following, command_lines, opened_lines}
use Rattle.entries.specs.Entered.{then_commands, feeder_lines, chamber_lines}
use Rattle.report.specs.Reported.{draft_lines, reported}
use Rattle.report.specs.Laws.{is_network, Brought, nothing, brings, together, brought, with_two, TellsNetwork, Tells, ToldOnce}

limited_not : (o : Option (ℕ × Part)) (k q p : ℕ) (g : Net) → is_network (limited o k q p g).0 ≡ false
limited_not (Some r) k q p g = refl
limited_not None k q p g = refl

either_not : (b : Bool) (x y : List ℕ) → is_network x ≡ false → is_network y ≡ false → is_network (cond b x y) ≡ false
either_not true x y h k = h
either_not false x y h k = k

answered_not : (c : Command) (p : ℕ) (giver : ℕ → Part) (g : Net) → is_network (answered c p giver g).0 ≡ false
answered_not (command.Limit k q) p giver g = limited_not (first_of (change_checks (change.Limit q) g.reaches giver k)) k q p g
answered_not (command.Settle b) p giver g = refl
answered_not command.Drain p giver g = refl
answered_not command.Tally p giver g = refl
answered_not command.Bottleneck p giver g = either_not (has_route g) _ _ refl refl

-- a line that does not tell the network
abbrev Other : List ℕ → Type 0
Other l = is_network l ≡ false

-- no more does a line across
across_one_not : (b : Bool) (names : Naming) (k : ℕ) (r : Arc) → All Other (cond b (across_line names k r ∷ []) [])
across_one_not true names k r = All-cons Other (across_line names k r) [] refl (All-nil Other)
across_one_not false names k r = All-nil Other

across_not : (names : Naming) (near : Side) (k : ℕ) (rs : List Arc) → All Other (across_lines names near k rs)
across_not names near k [] = All-nil Other
across_not names near k (r ∷ rs) =
    All-append Other _ _ (across_one_not (crosses near r) names k r) (across_not names near (k + 1) rs)

either_all : (b : Bool) (ls : Lines) → All Other ls → All Other (cond b [] ls)
either_all true ls h = All-nil Other
either_all false ls h = h

following_not : (names : Naming) (c : Command) (g : Net) → All Other (following names c g)
following_not names command.Bottleneck g = either_all (has_route g) _ (across_not names (near_of g) 0 g.reaches)
following_not names c g = All-nil Other

commands_not : (names : Naming) (a : Asked) (giver : ℕ → Part) (g : Net) → All Other (command_lines names a giver g)
commands_not names (ask c p rest) giver g =
    All-cons Other (answered c p giver g).0 _ (answered_not c p giver g)
    (All-append Other _ _ (following_not names c g) (commands_not names rest giver (answered c p giver g).1))
commands_not names done giver g = All-nil Other
commands_not names (turned e) giver g = All-cons Other (refusal_line e) [] refl (All-nil Other)

opened_once : (names : Naming) (a : Asked) (giver : ℕ → Part) (g : Net) →
    TellsNetwork g.junctions (length g.reaches) (opened_lines names a giver g)
opened_once names (ask c p rest) giver g =
    inr (command_lines names (ask c p rest) giver g, refl, commands_not names (ask c p rest) giver g)
opened_once names done giver g = inr ([], refl, All-nil Other)
opened_once names (turned e) giver g = inl (_, refl, refl)

refusable_once : (n m : ℕ) (o : Option (ℕ × Part)) (p : ℕ) (ls : Lines) → TellsNetwork n m ls →
    TellsNetwork n m (refusable o p ls)
refusable_once n m (Some r) p ls h = inl (_, refl, refl)
refusable_once n m None p ls h = h

retold : (a b : Brought) (ls : Lines) → a.junctions ≡ b.junctions → a.reaches ≡ b.reaches → a.feeders ≡ b.feeders →
    Tells a ls → Tells b ls
retold a b ls junctions reaches feeders h =
    subst (λ (k : ℕ). TellsNetwork (with_two k b.junctions) b.reaches ls) feeders
    (subst (λ (n : ℕ). TellsNetwork (with_two a.feeders n) b.reaches ls) junctions
    (subst (λ (m : ℕ). TellsNetwork (with_two a.feeders a.junctions) m ls) reaches h))

-- ---- the order of records

after_command : (stage next : Stage) → place_of commands stage ≡ Some next → next ≡ s.Commands
after_command s.Start next e = cc
after_command s.Table next e = cc
after_command s.Chambers next e = cc
after_command s.Gathering next e = cc
after_command s.Commands next e = cc

-- a record that follows a command is a command, and brings nothing
idle : (a : Said) (next : Stage) → follows s.Commands (written a).0 ≡ Some next → (brings a ≡ nothing) × (next ≡ s.Commands)
idle (limit k q) next e = (refl, cc)
idle (settle b) next e = (refl, cc)
idle drain next e = (refl, cc)
idle bottleneck next e = (refl, cc)
idle tally next e = (refl, cc)
idle a next e = absurd cc

nothing_more : (d : Drawn) → InOrder s.Commands d → brought d ≡ nothing
nothing_more (item p a rest) h =
    let is = idle a h.0 h.1 in
    let more = nothing_more rest (subst (λ (stage : Stage). InOrder stage rest) is.1 h.2) in
    ap (λ (b : Brought). together b (brought rest)) is.0 ∙ ap (together nothing) more
nothing_more (end p) h = refl
nothing_more (refused e) h = refl

-- what follows the first command
nothing_after : (stage next : Stage) (rest : Drawn) → place_of commands stage ≡ Some next → InOrder next rest →
    brought rest ≡ nothing
nothing_after stage next rest e h =
    nothing_more rest (subst (λ (at : Stage). InOrder at rest) (after_command stage next e) h)

-- ---- what the records so far have brought

-- the network g with k feeders over it
abbrev so_far : Net → ℕ → Brought
so_far g k = record { junctions = g.junctions; reaches = length g.reaches + k; feeders = k }

-- one record more, which brings what h and l have more than g and k
one_more : (g h : Net) (k l p : ℕ) (a : Said) (rest : Drawn) (ls : Lines) → h.junctions ≡ g.junctions + (brings a).junctions →
    length h.reaches + l ≡ length g.reaches + k + (brings a).reaches → l ≡ k + (brings a).feeders →
    Tells (together (so_far h l) (brought rest)) ls → Tells (together (so_far g k) (brought (item p a rest))) ls
one_more g h k l p a rest ls junctions reaches feeders tells =
    retold (together (so_far h l) (brought rest)) (together (so_far g k) (brought (item p a rest))) ls
    (omega (arith, junctions)) (omega (arith, reaches)) (omega (arith, feeders)) tells

-- ---- sources and sinks

listed_more : (role : Role) (r : Arc) (fs : Feeders) → length (listed (with_feeder role r fs)) ≡ length (listed fs) + 1
listed_more Source r fs = simp length-append (omega arith)
listed_more Sink r fs = simp length-append (omega arith)

gathered_once : (names : Naming) (g : Net) (own : List Arc) (giver : ℕ → Part) (a : Asked) →
    Tells (so_far g (length own)) (opened_lines names a giver (gathered g own))
gathered_once names g [] giver a =
    subst (λ (m : ℕ). TellsNetwork g.junctions m (opened_lines names a giver g)) (omega arith) (opened_once names a giver g)
gathered_once names g (f ∷ fs) giver a =
    subst (λ (m : ℕ). TellsNetwork (g.junctions + 2) m (opened_lines names a giver (gathered g (f ∷ fs))))
    (length-append g.reaches (f ∷ fs))
    (opened_once names a giver (gathered g (f ∷ fs)))

module _ (names : Naming) (g : Net) (giver : ℕ → Part) where
  commanded_once : (d : Drawn) (fs : Feeders) → brought d ≡ nothing →
      Tells (together (so_far g (length (listed fs))) (brought d)) (then_commands names d g giver fs)
  commanded_once d fs none =
      let now = so_far g (length (listed fs)) in
      retold now (together now (brought d)) (then_commands names d g giver fs)
      (omega (arith, ap (λ (b : Brought). b.junctions) none)) (omega (arith, ap (λ (b : Brought). b.reaches) none))
      (omega (arith, ap (λ (b : Brought). b.feeders) none))
      (gathered_once names g (listed fs) (layer_giver parts.Gathering g giver) (asked d))

  fed_once : (d : Drawn) (stage : Stage) (fs : Feeders) → InOrder stage d →
      Tells (together (so_far g (length (listed fs))) (brought d)) (feeder_lines names d g giver fs)
  fed_once (item p (source j q) rest) stage fs h =
      let r = feeder Source g j q in
      let more = listed_more Source r fs in
      refusable_once _ _ (first_of (gather_checks Source g fs j q)) p _
      (one_more g g (length (listed fs)) (length (listed (with_feeder Source r fs))) p (source j q) rest _
      (omega arith) (omega (arith, more)) (omega (arith, more))
      (fed_once rest h.0 (with_feeder Source r fs) h.2))
  fed_once (item p (sink j q) rest) stage fs h =
      let r = feeder Sink g j q in
      let more = listed_more Sink r fs in
      refusable_once _ _ (first_of (gather_checks Sink g fs j q)) p _
      (one_more g g (length (listed fs)) (length (listed (with_feeder Sink r fs))) p (sink j q) rest _
      (omega arith) (omega (arith, more)) (omega (arith, more))
      (fed_once rest h.0 (with_feeder Sink r fs) h.2))
  fed_once (item p (limit k q) rest) stage fs h =
      commanded_once (item p (limit k q) rest) fs (ap (together nothing) (nothing_after stage h.0 rest h.1 h.2))
  fed_once (item p (settle b) rest) stage fs h =
      commanded_once (item p (settle b) rest) fs (ap (together nothing) (nothing_after stage h.0 rest h.1 h.2))
  fed_once (item p drain rest) stage fs h =
      commanded_once (item p drain rest) fs (ap (together nothing) (nothing_after stage h.0 rest h.1 h.2))
  fed_once (item p bottleneck rest) stage fs h =
      commanded_once (item p bottleneck rest) fs (ap (together nothing) (nothing_after stage h.0 rest h.1 h.2))
  fed_once (item p tally rest) stage fs h =
      commanded_once (item p tally rest) fs (ap (together nothing) (nothing_after stage h.0 rest h.1 h.2))
  fed_once (end p) stage fs h = commanded_once (end p) fs refl
  -- the reader's own refusal, and records that give no command
  fed_once d stage fs h = inl (_, refl, refl)

-- ---- chambers

chambered_many : (g : Net) (own : List Arc) → length (chambered g own).reaches ≡ length g.reaches + length own
chambered_many g own =
    let f = leaving_from (left_from own) in
    all_length f (map f) (retailed (left_from own)) g.reaches own

module _ (names : Naming) (g : Net) (giver : ℕ → Part) where
  chambered_once : (d : Drawn) (stage : Stage) (own : List Arc) → InOrder stage d →
      Tells (together (so_far (chambered g own) 0) (brought d)) (chamber_lines names d g giver own)
  chambered_once (item p (chamber j q) rest) stage own h =
      let r = chamber_reach g own j q in
      let more = own ++ (r ∷ []) in
      refusable_once _ _ (first_of (chamber_checks g own j q)) p _
      (one_more (chambered g own) (chambered g more) 0 0 p (chamber j q) rest _
      (omega (arith, length_push own r))
      (omega (arith, length_push own r, chambered_many g own, chambered_many g more)) (omega arith)
      (chambered_once rest h.0 more h.2))
  chambered_once d stage own h = fed_once names (chambered g own) (layer_giver parts.Chambers g giver) d stage no_feeders h

-- ---- the table

still_table : (rest : Drawn) (next : Stage) → Some s.Table ≡ Some next → InOrder next rest → InOrder s.Table rest
still_table rest next e h = let same : next ≡ s.Table = cc in subst (λ (stage : Stage). InOrder stage rest) same h

drafted_once : (places : ℕ) (d : Drawn) (g : Net) (names : Naming) → InOrder s.Table d →
    Tells (together (so_far g 0) (brought d)) (draft_lines places d g names)
drafted_once places (item p (reach t e q) rest) g names h =
    refusable_once _ _ (first_of (lay_checks g places t e q)) p _
    (one_more g (with_reach g t e q) 0 0 p (reach t e q) rest _
    (omega arith) (omega (arith, length_push g.reaches (arc_of_row (laid_row t e q)))) (omega arith)
    (drafted_once places rest (with_reach g t e q) names (still_table rest h.0 h.1 h.2)))
drafted_once places (item p (name j bs q) rest) g names h =
    one_more g g 0 0 p (name j bs q) rest _ (omega arith) (omega arith) (omega arith)
    (drafted_once places rest g (with_name j bs names) (still_table rest h.0 h.1 h.2))
drafted_once places (item p table_end rest) g names h =
    one_more g (chambered g []) 0 0 p table_end rest _ (omega arith) (omega (arith, chambered_many g [])) (omega arith)
    (chambered_once names g (λ _. parts.Network) rest h.0 [] h.2)
drafted_once places (item p a rest) g names h = absurd (let e = h.1 in cc)
drafted_once places d g names h = inl (_, refl, refl)

-- the shape comes first
started_once : (places : ℕ) (d : Drawn) → InOrder s.Start d → ToldOnce d (draft_lines places d fresh unnamed)
started_once places (item p (shape n i o) rest) h =
    refusable_once _ _ (first_of (shape_checks fresh n i o)) p _
    (drafted_once places rest (with_shape fresh n i o) unnamed (still_table rest h.0 h.1 h.2))
started_once places (item p a rest) h = absurd (let e = h.1 in cc)
started_once places d h = inl (_, refl, refl)

pub told_once : (places : ℕ) (input : List ℕ) → ToldOnce (drawn input) (reported places input)
told_once places input = started_once places (drawn input) (in_order input)
