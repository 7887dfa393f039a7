use Rattle.std.proofs.Common.{ℕ, List, ap, refl, ◌+◌}
use Rattle.search.specs.declared.queue.Queue.{Queue}
use Rattle.std.proofs.Props.{props}
use Rattle.search.specs.Queue.{Queued}
use Rattle.search.proofs.queue.Queue.pop.Goals as goal

is_prop : (dist nodes : List ℕ) (tail : ℕ) → IsProp (Queued dist nodes tail)
is_prop dist nodes tail = Prim.hlevel props

pub returns : goal.returns
returns c =
    let q = c.args.self.now in
    (c.if-self.false, refl, ap (λ (k : Queued q.distance.now q.nodes.now q.tail). let r : Queue = record { distance = q.distance; nodes = q.nodes; head = q.head + 1; tail = q.tail; queued = k } in r) (is_prop _ _ _ _ _))
