use Rattle.std.proofs.Common.{◌+◌, ◌<◌, length, get_or, drop, sym, ◌∙◌, subst, rules}
use Rattle.std.proofs.lemmas.List.{length_push}
use Rattle.std.proofs.lemmas.Grind.{get_or_default_zero}
use Rattle.std.proofs.lemmas.Iterator.Consumers.{YieldsList-from_first, YieldsList-turn}
use Rattle.search.specs.Visits.{Saw, SawFirst}
use Rattle.search.proofs.Steps.{few, saw_more}
use Rattle.search.proofs.breadth_first.visit.Goals as goal

pub loop-neighbour-preserved : goal.loop-neighbour-preserved
loop-neighbour-preserved g c =
    let q = c.args.queue.now in
    let all = g.G.Graph.neighbours c.args.graph.now c.args.node in
    let far = get_or q.distance.now c.args.node 0 + 1 in
    let seen = c.loop-neighbour.yielded in
    let node = c.in-Some.neighbour in
    let at = YieldsList-turn (YieldsList-from_first (λ n. n) (λ it. drop it.place (g.G.Graph.neighbours it.graph.now it.node)) all (search rules)) seen c.loop-neighbour.neighbour-iterator c.loop-neighbour.yielded_by c.next.result c.next.new.self node c.in-Some.is c.next.ensures.steps in
    let saw : Saw (get_or all (length seen) 0) far c.loop-neighbour.queue c.see.new.self = subst (λ n. Saw n far c.loop-neighbour.queue c.see.new.self) (at.1 ∙ get_or_default_zero all (length seen) node at.0) (rw c.from.ensures at c.see.ensures) in
    let place = c.requires.visiting.queued in
    let small : far < 65535 = subst (λ n. get_or q.distance.now n 0 + 1 < 65535) place.2 (few q place.0 place.1) in
    subst (λ i. SawFirst i all far q c.see.new.self) (sym (length_push seen node)) (saw_more (length seen) all far small at.0 c.loop-neighbour.invariant saw)
