use Rattle.std.proofs.Common.{◌-◌, length}
use Rattle.search.specs.Visits.{SameMemory, SawFirst}
use Rattle.search.proofs.Steps.{Going}
use Rattle.search.proofs.breadth_first.visit_all.Given as goal

abbrev pub invariant-loop-start : goal.invariant-loop-start
invariant-loop-start g l = SawFirst l.start-index l.starts 0 l.initial.queue l.queue

abbrev pub invariant-loop-node : goal.invariant-loop-node
invariant-loop-node g l = record {
  memory : SameMemory l.fn.queue l.queue;
  going : Going (g.G.Graph.neighbours l.graph) l.starts l.queue;
}

abbrev pub decreases-loop-node : goal.decreases-loop-node
decreases-loop-node g l = length l.initial.queue.distance.now - l.queue.head
