-- A network is sound where its size keeps to the bounds and each of its reaches is fair.
use Rattle.std.proofs.Common.{ℕ, ◌<◌, ◌≤◌, ◌≢◌, length}
use Rattle.std.specs.List.{All}
use Rattle.std.proofs.lemmas.List.Elements.{All-weaker, All-get_or, All-from_get_or}
use Rattle.flow.specs.Bounds.{most_junctions, most_reaches, highest_limit}
use Rattle.flow.specs.Net.{Net, no_arc, arc_at, Joined, FairArc, Sound}

pub fair_at : (g : Net) → Sound g → (k : ℕ) → k < length g.reaches → FairArc g.junctions (arc_at g.reaches k)
fair_at g s k low = (
  All-get_or (Joined g.junctions) g.reaches k no_arc low s.shaped.joined,
  All-get_or (λ r. r.carried ≤ r.limit) g.reaches k no_arc low s.within,
  All-get_or (λ r. r.limit ≤ highest_limit) g.reaches k no_arc low s.shaped.limits,
)

pub fair_all : (g : Net) → Sound g → All (FairArc g.junctions) g.reaches
fair_all g s = All-from_get_or (FairArc g.junctions) g.reaches no_arc (fair_at g s)

pub sound_from_fair : (g : Net) → 2 ≤ g.junctions → g.junctions ≤ most_junctions → length g.reaches ≤ most_reaches →
    g.intake < g.junctions → g.outfall < g.junctions → g.intake ≢ g.outfall → All (FairArc g.junctions) g.reaches → Sound g
sound_from_fair g two few listed inside outside differ fair = record {
  shaped = record {
    two = two;
    few = few;
    listed = listed;
    intake_in = inside;
    outfall_in = outside;
    ends_differ = differ;
    joined = All-weaker (FairArc g.junctions) (Joined g.junctions) (λ r h. h.0) g.reaches fair;
    limits = All-weaker (FairArc g.junctions) (λ r. r.limit ≤ highest_limit) (λ r h. h.2) g.reaches fair;
  };
  within = All-weaker (FairArc g.junctions) (λ r. r.carried ≤ r.limit) (λ r h. h.1) g.reaches fair;
}
