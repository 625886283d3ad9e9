-- What a table means as a network, and that this network is sound.
use Rattle.std.specs.Prelude.{ℕ, ◌<◌, length}
use Rattle.std.proofs.Common.{sym, subst, arith}
use Rattle.std.proofs.lemmas.List.Elements.{All-from_get_or}
use Rattle.refusal.specs.declared.Part.{Part}
use Rattle.refusal.specs.declared.Part.TheVariants.{Network}
use Rattle.flow.specs.Net.{Net, no_arc, arc_at, FairArc, Sound}
use Rattle.flow.proofs.Fairness.{sound_from_fair}
use Rattle.network.proofs.Rowing.{arcs_length, arcs_at}
use Rattle.table.specs.declared.draft.Draft.{Draft}
use Rattle.table.specs.declared.table.Table.{Table}
use Rattle.table.specs.Drafting.{draft_net}

-- what the draft came to that was commissioned
abbrev pub table_net : Table → Net
table_net t = draft_net t.laid

-- whatever a draft has come to is a sound network, and so is what a table means
pub draft_sound : (d : Draft) → Sound (draft_net d)
draft_sound d =
    let g = draft_net d in
    let count = arcs_length d.rows.now d.size.reaches in
    let fair : (k : ℕ) → k < length g.reaches → FairArc g.junctions (arc_at g.reaches k) = λ k low.
    subst (FairArc g.junctions) (sym (arcs_at d.rows.now d.size.reaches k low)) (d.fair k (omega (arith, count))) in
    sound_from_fair g d.two (omega (arith, d.many)) (omega (arith, d.few, count)) d.inside d.outside d.differ
    (All-from_get_or (FairArc g.junctions) g.reaches no_arc fair)

pub table_sound : (t : Table) → Sound (table_net t)
table_sound t = draft_sound t.laid

-- the network answers for all of its reaches
abbrev pub table_giver : Table → ℕ → Part
table_giver t k = Network
