use Rattle.std.proofs.Common.{◌≡◌, ℕ, ◌≤◌, List, length, replicate, sym, subst, arith}
use Rattle.std.proofs.lemmas.List.{get_or-replicate, length-replicate}
use Rattle.search.specs.Queue.{Queued}
use Rattle.search.proofs.Joining.{none_queued}
use Rattle.search.proofs.breadth_first.explore.Goals as goal

pub invariant_of-queue : goal.invariant_of-queue
invariant_of-queue g c =
    let n = length c.args.distance.now in
    let clear : List ℕ = replicate n 65535 in
    let long : length clear ≡ n = length-replicate n 65535 in
    let few : length clear ≤ 4096 = omega (arith, long, c.requires.nodes, (g.met.G.Graph.lawful c.args.graph.now).few) in
    record {
      queued = subst (λ d. Queued d c.args.work.now 0) (sym (c.fill.ensures.after (λ y e. e)))
          (none_queued clear c.args.work.now few (omega (arith, long, c.requires.room)) (λ v h. get_or-replicate n v 65535 0 (omega (arith, long))));
    }
