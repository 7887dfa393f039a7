use Rattle.sets.proofs.Lists.{same_records}
use Rattle.sets.proofs.ascending_list.AscendingList.same.Goals as goal

pub returns : goal.returns
returns c =
    same_records c.args.self.now.record c.args.other.now.record c.eq.result c.args.self.now.ascends c.args.other.now.ascends
    (rw (← c.as_slice.ensures, ← c.as_slice-2.ensures) c.eq.ensures)
