-- The network of a drawing is commissioned and dry, record by record, where no check is against a record.
use Rattle.std.proofs.Common.{◌≡◌, ℕ, ◌<◌, ◌≤◌, List, [], ◌∷◌, ◌++◌, map, length, take, drop, None, Option, refl, arith}
use Rattle.std.specs.List.{All}
use Rattle.std.proofs.lemmas.List.{take_at, drop_at, length_push}
use Rattle.std.proofs.lemmas.List.Elements.{All-nil, All-map, All-append, All-push, All-weaker}
use Rattle.std.proofs.lemmas.Bool.Decides.{nat_tests}
use Rattle.refusal.specs.Checks.{first_of}
use Rattle.flow.specs.Bounds.{most_reaches}
use Rattle.flow.specs.Net.{Arc, Net, FairArc, Sound}
use Rattle.flow.specs.Histories.{CommissionedDry}
use Rattle.flow.proofs.Fairness.{fair_all, sound_from_fair}
use Rattle.network.specs.Rows.{arc_of_row}
use Rattle.table.specs.Drafting.{fresh, shape_checks, with_shape, lay_checks, with_reach, laid_row}
use Rattle.layer.specs.Layering.{leaving_from}
use Rattle.layer.specs.Chambered.{left_from, chambered, Chambering}
use Rattle.layer.specs.Gathered.{gathered, SourceArc, SinkArc, FeedersFit}
use Rattle.layer.proofs.Twins.{chambering_sound}
use Rattle.layer.proofs.Feeding.{gathered_sound}
use Rattle.chambers.specs.Entering.{chamber_checks, chamber_reach}
use Rattle.chambers.proofs.Admitting.{fit_more}
use Rattle.gathering.specs.declared.role.Role.TheVariants.{Source, Sink}
use Rattle.gathering.specs.Entering.{Feeders, no_feeders, listed, with_feeder, feeder, gather_checks}
use Rattle.gathering.proofs.Accepted.{accepted}
use Rattle.gathering.proofs.Entered.{Known, known_more}

-- reaches that carry nothing
abbrev pub Dry : List Arc → Type 0
Dry rs = All (λ r. r.carried ≡ 0) rs

sound : (g : Net) → CommissionedDry g → Sound g
sound g c = record {
  shaped = c.shaped;
  within = All-weaker (λ r. r.carried ≡ 0) (λ r. r.carried ≤ r.limit) (λ r dry. omega arith) g.reaches c.dry;
}

commissioned : (g : Net) → Sound g → Dry g.reaches → CommissionedDry g
commissioned g s dry = record { shaped = s.shaped; dry = dry }

-- ---- the table

pub fresh_founded : CommissionedDry fresh
fresh_founded =
    commissioned fresh
    (sound_from_fair fresh (omega arith) (omega arith) (omega arith) (omega arith) (omega arith)
    (λ e. let z : ⊥ = omega (arith, e) in z) (All-nil (FairArc 2)))
    (All-nil (λ r. r.carried ≡ 0))

pub shape_founded : (g : Net) (n i o : ℕ) → CommissionedDry g → first_of (shape_checks g n i o) ≡ None →
    CommissionedDry (with_shape g n i o)
shape_founded g n i o c none =
    commissioned (with_shape g n i o)
    (sound_from_fair (with_shape g n i o) (grind (arith, nat_tests)) (grind (arith, nat_tests))
    (omega (arith, c.shaped.listed)) (grind (arith, nat_tests)) (grind (arith, nat_tests)) (grind (arith, nat_tests))
    (λ k d low. let empty : length g.reaches ≤ 0 = grind (arith, nat_tests) in absurd (let z : ⊥ = omega arith in z)))
    c.dry

pub reach_founded : (g : Net) (places t h q : ℕ) → places ≤ most_reaches → CommissionedDry g →
    first_of (lay_checks g places t h q) ≡ None → CommissionedDry (with_reach g t h q)
reach_founded g places t h q few c none =
    let r = arc_of_row (laid_row t h q) in
    let room : length g.reaches < places = grind (arith, nat_tests) in
    let joined : (t < g.junctions) × (h < g.junctions) × (t ≡ h → ⊥) =
    (grind (arith, nat_tests), grind (arith, nat_tests), grind (arith, nat_tests)) in
    let fair : FairArc g.junctions r = (joined, omega arith, grind (arith, nat_tests)) in
    commissioned (with_reach g t h q)
    (sound_from_fair (with_reach g t h q) c.shaped.two c.shaped.few (omega (arith, length_push g.reaches r))
    c.shaped.intake_in c.shaped.outfall_in c.shaped.ends_differ
    (All-push (FairArc g.junctions) g.reaches r (fair_all g (sound g c)) fair))
    (All-push (λ r. r.carried ≡ 0) g.reaches r c.dry refl)

-- ---- chambers

-- chambers over a network that is commissioned and dry fit it, and are dry
pub record Lodging (g : Net) (own : List Arc) : Type 0 where
  pub fit : Chambering g.junctions (length g.reaches) own
  pub dry : Dry own

pub none_lodged : (g : Net) → CommissionedDry g → Lodging g []
none_lodged g c = record {
  fit = record {
    small = omega (arith, c.shaped.few);
    short = omega (arith, c.shaped.listed);
    each = λ e low. absurd (let z : ⊥ = omega arith in z);
    alone = λ e low. absurd (let z : ⊥ = omega arith in z);
  };
  dry = All-nil (λ r. r.carried ≡ 0);
}

pub more_lodged : (g : Net) (own : List Arc) (v q : ℕ) → Lodging g own → first_of (chamber_checks g own v q) ≡ None →
    Lodging g (own ++ (chamber_reach g own v q ∷ []))
more_lodged g own v q l none = record {
  fit = fit_more g own v q l.fit none;
  dry = All-push (λ r. r.carried ≡ 0) own (chamber_reach g own v q) l.dry refl;
}

pub chambers_founded : (g : Net) (own : List Arc) → CommissionedDry g → Lodging g own → CommissionedDry (chambered g own)
chambers_founded g own c l =
    commissioned (chambered g own) (chambering_sound g own (sound g c) l.fit)
    (All-append (λ r. r.carried ≡ 0) (map (leaving_from (left_from own)) g.reaches) own
    (All-map (λ r. r.carried ≡ 0) (leaving_from (left_from own)) g.reaches c.dry) l.dry)

-- ---- sources and sinks

-- feeders over such a network fit it, and are dry
pub record Feeding (g : Net) (fs : Feeders) : Type 0 where
  pub known : Known g fs
  pub sources : Dry fs.sources
  pub sinks : Dry fs.sinks

pub none_fed : (g : Net) → CommissionedDry g → Feeding g no_feeders
none_fed g c = record {
  known = record {
    few_sources = omega arith;
    few_sinks = omega arith;
    fit = record {
      small = λ some. absurd (let z : ⊥ = omega arith in z);
      short = omega (arith, c.shaped.listed);
      from = All-nil (SourceArc g.junctions);
      to = All-nil (SinkArc g.junctions);
    };
  };
  sources = All-nil (λ r. r.carried ≡ 0);
  sinks = All-nil (λ r. r.carried ≡ 0);
}

module _ (g : Net) (fs : Feeders) where
  pub source_fed : (v : ℕ) (stated : Option ℕ) → Feeding g fs → first_of (gather_checks Source g fs v stated) ≡ None →
      Feeding g (with_feeder Source (feeder Source g v stated) fs)
  source_fed v stated f none = record {
    known = known_more g fs v stated f.known Source (accepted Source g fs v stated none);
    sources = All-push (λ r. r.carried ≡ 0) fs.sources (feeder Source g v stated) f.sources refl;
    sinks = f.sinks;
  }

  pub sink_fed : (v : ℕ) (stated : Option ℕ) → Feeding g fs → first_of (gather_checks Sink g fs v stated) ≡ None →
      Feeding g (with_feeder Sink (feeder Sink g v stated) fs)
  sink_fed v stated f none = record {
    known = known_more g fs v stated f.known Sink (accepted Sink g fs v stated none);
    sources = f.sources;
    sinks = All-push (λ r. r.carried ≡ 0) fs.sinks (feeder Sink g v stated) f.sinks refl;
  }

gathered_dry : (g : Net) (own : List Arc) → Dry g.reaches → Dry own → Dry (gathered g own).reaches
gathered_dry g [] dry mine = dry
gathered_dry g (f ∷ fs) dry mine = All-append (λ r. r.carried ≡ 0) g.reaches (f ∷ fs) dry mine

pub feeders_founded : (g : Net) (fs : Feeders) → CommissionedDry g → Feeding g fs → CommissionedDry (gathered g (listed fs))
feeders_founded g fs c f =
    let s = length fs.sources in
    let fits : FeedersFit g.junctions (length g.reaches) (take s (listed fs)) (drop s (listed fs)) =
    rw (take_at fs.sources fs.sinks s refl, drop_at fs.sources fs.sinks s refl) f.known.fit in
    commissioned (gathered g (listed fs)) (gathered_sound g s (listed fs) (sound g c) fits)
    (gathered_dry g (listed fs) c.dry (All-append (λ r. r.carried ≡ 0) fs.sources fs.sinks f.sources f.sinks))
