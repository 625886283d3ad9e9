use Rattle.std.proofs.Common.{◌<◌, length, arith}
use Rattle.searches.proofs.Listed.{room_more}
use Rattle.searches.proofs.pending.Pending.add.Goals as goal

pub push-requires : goal.push-requires
push-requires c =
    let p = c.args.self.now in
    let room : length p.list.items < 512 = omega (
      arith,
      room_more p.listed p.list.items c.from-place.result p.once p.counted
          (omega arith) c.if-not-self-place.true,
    ) in
    (omega arith, room)
