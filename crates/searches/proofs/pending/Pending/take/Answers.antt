use Rattle.std.proofs.Common.{arith}
use Rattle.searches.proofs.Listed.{marked_in, last_marked, once_less, counted_less}
use Rattle.searches.proofs.pending.Pending.take.Goals as goal

pub bounds-self-from : goal.bounds-self-from
bounds-self-from c =
    let p = c.args.self.now in
    let items = rw (← c.from.ensures) at c.in_ok-junction.ensures.items in
    let marked = last_marked p.listed p.list.items c.from.result p.once p.counted c.pop.new.self.items items in
    omega (arith, marked_in p.listed c.from.result marked)

pub invariant_of-self-2 : goal.invariant_of-self-2
invariant_of-self-2 c =
    let p = c.args.self.now in
    let items = rw (← c.from.ensures) at c.in_ok-junction.ensures.items in
    record {
      once = once_less p.listed p.list.items c.from.result p.once p.counted c.pop.new.self.items items;
      counted = counted_less p.listed p.list.items c.from.result p.once p.counted c.pop.new.self.items items;
    }
