-- One feeder more: where it stands among the others, and that a gathering that accepts it fits still.
use Rattle.std.proofs.Common.{◌≡◌, ℕ, ◌+◌, ◌≤◌, List, [], ◌∷◌, ◌++◌, length, take, drop, Option, Ok, Result, sym, refl, ap, ◌∙◌, arith, length-append}
use Rattle.std.specs.List.{insert}
use Rattle.std.proofs.lemmas.List.Elements.{All-push}
use Rattle.std.proofs.lemmas.List.Edits.{length-insert}
use Rattle.std.proofs.lemmas.List.{append_assoc, length_push, length-take-le, take_all, drop_all, take_at, drop_at, take-append-le, drop-append-le}
use Rattle.flow.specs.Net.{Arc, Net}
use Rattle.refusal.specs.Checks.{afterwards}
use Rattle.layer.specs.declared.own.NotInserted.{NotInserted}
use Rattle.layer.specs.Gathered.{SourceArc, SinkArc, FeedersFit}
use Rattle.gathering.specs.declared.role.Role.{Role}
use Rattle.gathering.specs.declared.role.Role.TheVariants.{Source, Sink}
use Rattle.gathering.specs.Bounds.{most_of_each}
use Rattle.gathering.specs.Entering.{Feeders, with_feeder, feeder, Placed}
use Rattle.gathering.proofs.Accepted.{Accepted}

-- a list of feeders, of which the first s are the sources'
abbrev pub parted : ℕ → List Arc → Feeders
parted s own = record { sources = take s own; sinks = drop s own }

-- feeders by their two lists
abbrev both : List Arc → List Arc → Feeders
both from to = record { sources = from; sinks = to }

module _ (s : ℕ) (own : List Arc) (r : Arc) (within : s ≤ length own) where
  -- before the sinks' feeders it is the last of the sources'
  pub source_put : parted (s + 1) (insert own s r) ≡ with_feeder Source r (parted s own)
  source_put =
      let front = take s own ++ (r ∷ []) in
      let long : length front ≡ s + 1 = omega (arith, length_push (take s own) r, length-take-le s own within) in
      ap (parted (s + 1)) (sym (append_assoc (take s own) (r ∷ []) (drop s own)))
      ∙ ap (λ (from : List Arc). both from (drop (s + 1) (front ++ drop s own))) (take_at front (drop s own) (s + 1) long)
      ∙ ap (both front) (drop_at front (drop s own) (s + 1) long)

  -- behind all it is the last of the sinks'
  pub sink_put : parted s (insert own (length own) r) ≡ with_feeder Sink r (parted s own)
  sink_put =
      ap (λ (xs : List Arc). parted s (xs ++ r ∷ drop (length own) own)) (take_all (length own) own (omega arith))
      ∙ ap (λ (xs : List Arc). parted s (own ++ r ∷ xs)) (drop_all (length own) own (omega arith))
      ∙ ap (λ (from : List Arc). both from (drop s (own ++ (r ∷ [])))) (take-append-le s own (r ∷ []) within)
      ∙ ap (both (take s own)) (drop-append-le s own (r ∷ []) within)

-- put there, it is the last of its role
pub put : (role : Role) (s : ℕ) (own : List Arc) (r : Arc) → s ≤ length own → (at next : ℕ) → Placed role s own at next →
    parted next (insert own at r) ≡ with_feeder role r (parted s own)
put Source s own r within at next p = rw (p.0, p.1) (source_put s own r within)
put Sink s own r within at next p = rw (p.0, p.1) (sink_put s own r within)

pub placed_low : (role : Role) (s : ℕ) (own : List Arc) → s ≤ length own → (at next : ℕ) → Placed role s own at next →
    (at ≤ length own) × (next ≤ length own + 1)
placed_low Source s own within at next p = (omega (arith, p.0), omega (arith, p.1))
placed_low Sink s own within at next p = (omega (arith, p.0), omega (arith, p.1))

-- so it is where the rows have taken it
pub put_in : (role : Role) (s : ℕ) (own mine : List Arc) (r q : Arc) → s ≤ length own → (at next : ℕ) → Placed role s own at next →
    (u : Unit {0}) (res : Result Unit NotInserted) → res ≡ Ok u → q ≡ r → mine ≡ afterwards res (insert own at q) own →
    parted next mine ≡ with_feeder role r (parted s own)
put_in role s own mine r q within at next p u res ok same is =
    ap (parted next) (is ∙ ap (λ (o : Result Unit NotInserted). afterwards o (insert own at q) own) ok ∙ ap (insert own at) same)
    ∙ put role s own r within at next p

-- and there is one more of them
pub long_in : (own mine : List Arc) (q : Arc) (at : ℕ) → at ≤ length own → (u : Unit {0}) (res : Result Unit NotInserted) → res ≡ Ok u →
    mine ≡ afterwards res (insert own at q) own → length mine ≡ length own + 1
long_in own mine q at low u res ok is =
    ap length (is ∙ ap (λ (o : Result Unit NotInserted). afterwards o (insert own at q) own) ok) ∙ length-insert own at q low

-- the feeders fit the network below
abbrev pub Fits : Net → Feeders → Type 0
Fits g fs = FeedersFit g.junctions (length g.reaches) fs.sources fs.sinks

-- what is known of the feeders over a network
pub record Known (g : Net) (fs : Feeders) : Type 0 where
  pub few_sources : length fs.sources ≤ most_of_each
  pub few_sinks : length fs.sinks ≤ most_of_each
  pub fit : Fits g fs

module _ (g : Net) (fs : Feeders) (v : ℕ) (stated : Option ℕ) (k : Known g fs) where
  -- and it is known of the feeders with that of an accepted entry
  pub known_more : (role : Role) → Accepted role g fs v stated → Known g (with_feeder role (feeder role g v stated) fs)
  known_more Source a =
      let r = feeder Source g v stated in
      record {
        few_sources = simp length_push (omega (arith, a.room));
        few_sinks = k.few_sinks;
        fit = record {
          small = λ _. a.small;
          short = omega (arith, a.short, length_push fs.sources r, length-append fs.sources fs.sinks);
          from = All-push (SourceArc g.junctions) fs.sources r k.fit.from (refl, a.inside, omega arith, a.low);
          to = k.fit.to;
        };
      }
  known_more Sink a =
      let r = feeder Sink g v stated in
      record {
        few_sources = k.few_sources;
        few_sinks = simp length_push (omega (arith, a.room));
        fit = record {
          small = λ _. a.small;
          short = omega (arith, a.short, length_push fs.sinks r, length-append fs.sources fs.sinks);
          from = k.fit.from;
          to = All-push (SinkArc g.junctions) fs.sinks r k.fit.to (a.inside, refl, omega arith, a.low);
        };
      }
