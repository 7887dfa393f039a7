use Rattle.std.proofs.Common.{arith}
use Rattle.search.proofs.Unseen.{unseen_some}
use Rattle.search.proofs.queue.see.Goals as goal

pub bounds-nodes-tail : goal.bounds-nodes-tail
bounds-nodes-tail c =
    let some = unseen_some c.args.distance.now c.args.node c.requires.node (rw (← c.from.ensures) c.if-distance-from.true) in
    omega (arith, some, c.requires.queued.room, c.requires.queued.fits)
