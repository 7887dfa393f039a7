use Rattle.std.proofs.Common.{◌+◌, length, get_or}
use Rattle.search.specs.Visits.{SawFirst}
use Rattle.search.proofs.breadth_first.visit.Given as goal

abbrev pub invariant-loop-neighbour : goal.invariant-loop-neighbour
invariant-loop-neighbour g l =
    SawFirst (length l.yielded) (g.G.Graph.neighbours l.graph l.node) (get_or l.initial.queue.distance.now l.node 0 + 1) l.initial.queue l.queue
