-- The near side of the bottleneck as a function, and its marks.
use Rattle.std.proofs.Common.{◌≡◌, ℕ, ◌+◌, ◌-◌, ◌<◌, ◌≤◌, List, length, drop, get_or, ap, ◌∙◌, arith, length-append, length-drop}
use Rattle.std.specs.Prelude.{IsTrue, IsFalse, ◌↔◌}
use Rattle.std.proofs.lemmas.List.{get_or-append_right, get_or-drop}
use Rattle.std.proofs.lemmas.Bool.{both_ways}
use Rattle.std.proofs.lemmas.Bool.Decides.{same_from_decides}
use Rattle.flow.specs.Net.{Net, Shaped}
use Rattle.flow.specs.Routes.{Finished, Reached, IsRoute}
use Rattle.flow.specs.Cuts.{Side, IsBottleneck}
use Rattle.flow.specs.Histories.{IsMarked, marks_of}
use Rattle.flow.specs.Bottlenecks.{near_of, has_route, bottleneck_sum, bottleneck_count, marked_over}
use Rattle.flow.specs.BottleneckLaws.{BottleneckLaws}
use Rattle.flow.proofs.Answering.{marks_of-length, marks_tell}
use Rattle.flow.proofs.Distances.{walk_from_near, near_from_walk, walk_within, distance_below}

-- the near side is decided
pub near_of-is : (g : Net) → Shaped g → IsBottleneck g (near_of g)
near_of-is g shaped v low = (
  λ near. let x = walk_from_near g.reaches v g.junctions g.intake near in (x.steps, x.walk),
  λ (ss, w).
      let below = distance_below g shaped.joined g.intake v ss shaped.intake_in w in
      let x = walk_within g.reaches v g.junctions g.intake below in
      near_from_walk g.reaches v g.junctions g.intake x.steps x.walk (omega (arith, x.short, below)),
)

pub route_near : (g : Net) → Shaped g → IsTrue (has_route g) ↔ ((ss : List ℕ) × IsRoute g ss)
route_near g shaped = near_of-is g shaped g.outfall shaped.outfall_in

pub none_near : (g : Net) → Shaped g → IsFalse (has_route g) → Finished g
none_near g shaped none ss route = both_ways (has_route g) none ((route_near g shaped).1 (ss, route))

pub marked_tells : (g : Net) (marks : List ℕ) → Shaped g → IsFalse (has_route g) → g.junctions ≤ length marks →
    IsMarked g (marked_over g marks) (bottleneck_sum g) (bottleneck_count g)
marked_tells g marks shaped none enough =
    marks_tell g (near_of g) (drop g.junctions marks) shaped (near_of-is g shaped) (none_near g shaped none)

pub one_near : (g : Net) (near : Side) → Shaped g → IsBottleneck g near → (v : ℕ) → v < g.junctions → near v ≡ near_of g v
one_near g near shaped is v low =
    let this = near_of-is g shaped v low in
    same_from_decides {P = Reached g v} (near v) (near_of g v) ((is v low).0, (is v low).1) (this.0, this.1)

pub bottleneck_laws : BottleneckLaws
bottleneck_laws = record {
  near = near_of-is;
  route = route_near;
  marked = marked_tells;
  long = λ g marks enough. omega (
    arith,
    length-append (marks_of (near_of g) g.junctions) (drop g.junctions marks),
    marks_of-length (near_of g) g.junctions,
    length-drop g.junctions marks,
  );
  later = later;
  one = one_near;
}
  where
    later : (g : Net) (marks : List ℕ) (v : ℕ) → g.junctions ≤ v → get_or (marked_over g marks) v 0 ≡ get_or marks v 0
    later g marks v past =
        let back : g.junctions + (v - g.junctions) ≡ v = omega arith in
        get_or-append_right (marks_of (near_of g) g.junctions) (drop g.junctions marks) g.junctions v 0
        (marks_of-length (near_of g) g.junctions) past
        ∙ get_or-drop g.junctions marks (v - g.junctions) 0 ∙ ap (λ (u : ℕ). get_or marks u 0) back
