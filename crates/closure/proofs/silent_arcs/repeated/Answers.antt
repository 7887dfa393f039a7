use Rattle.closure.proofs.Arcs.{arc_repeated}
use Rattle.closure.proofs.silent_arcs.repeated.Goals as goal

pub returns : goal.returns
returns c = arc_repeated c.args.row
