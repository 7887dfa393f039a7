use Rattle.std.proofs.Common.{◌≡◌, ◌<◌, length, arith}
use Rattle.closure.proofs.Arcs.{arc_more, arc_grew}
use Rattle.closure.proofs.silent_arcs.SilentArcs.insert.Goals as goal

pub returns : goal.returns
returns c =
    let rows = c.args.self.now.rows in
    let long : length rows ≡ 256 = omega arith in
    let stage : c.args.from < 256 = omega (arith, c.if-from-ge-STAGES.false) in
    rw c.from.ensures (record {
      arcs = arc_more rows c.args.from c.args.to c.insert.new.self _ long stage (rw c.from.ensures at c.insert.ensures.members);
      grew = arc_grew rows c.args.from c.args.to _ c.insert.result long stage (rw c.from.ensures at c.insert.ensures.grew);
    })
