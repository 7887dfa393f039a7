use Rattle.std.proofs.Common.{get_or, sym, subst, arith}
use Rattle.search.specs.Walks.{From, Tells}
use Rattle.search.specs.Visits.{SawFirst}
use Rattle.search.proofs.Steps.{going_none, kept, going_more}
use Rattle.search.proofs.Ends.{tells}
use Rattle.search.proofs.breadth_first.visit_all.Goals as goal

pub loop-node-init : goal.loop-node-init
loop-node-init g c =
    let starts = c.args.starts.now in
    let saw = subst (λ i. SawFirst i starts 0 c.args.queue.now c.loop-start.queue) (omega arith) c.loop-start.invariant in
    record { memory = saw.grown.memory; going = going_none (g.G.Graph.neighbours c.args.graph.now) starts c.requires.unvisited c.requires.empty saw }

pub loop-node-preserved : goal.loop-node-preserved
loop-node-preserved g c =
    let before = c.loop-node.invariant in
    record {
      memory = kept before.going c.in-Some.ensures before.memory c.visit.ensures.grown;
      going = going_more before.going c.in-Some.ensures c.visit.ensures;
    }

pub returns-clause-told : goal.returns-clause-told
returns-clause-told g c v h =
    let graph = c.args.graph.now in
    let last = c.in_default.ensures in
    let long = c.loop-node.invariant.memory.long in
    subst (λ q. Tells (From (g.G.Graph.neighbours graph) c.args.starts.now v) (get_or q.distance.now v 0)) (sym last.1)
    (tells c.loop-node.invariant.going last.0
    (λ j l. omega (arith, long, c.requires.nodes, c.requires.starting j l))
    (λ u i l k. omega (arith, long, c.requires.nodes, (g.met.G.Graph.lawful graph).within u i (omega (arith, long, c.requires.nodes, l)) k))
    v (omega (arith, long, c.requires.nodes, h)))
