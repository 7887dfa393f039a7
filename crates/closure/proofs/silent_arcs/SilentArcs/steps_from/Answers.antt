use Rattle.closure.proofs.Paths.{least_paths}
use Rattle.closure.proofs.silent_arcs.SilentArcs.steps_from.Goals as goal

pub returns : goal.returns
returns c =
    let answer = c.in_ok-search.ensures in
    (answer.0.starting, λ v h. least_paths c.args.self.now.rows c.args.starts.now v _ _ (answer.1.nodes v h) (c.all_steps.ensures v h))
