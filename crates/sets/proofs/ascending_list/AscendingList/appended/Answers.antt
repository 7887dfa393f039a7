use Rattle.std.proofs.Common.{arith}
use Rattle.sets.proofs.Lists.{push_room, push_passes}
use Rattle.sets.proofs.ascending_list.AscendingList.appended.Goals as goal

pub bounds-items-from : goal.bounds-items-from
bounds-items-from c = omega (arith, push_room c.args.self.record c.args.n c.args.self.ascends (omega arith) c.requires.small c.requires.above)

pub invariant_of-result : goal.invariant_of-result
invariant_of-result c = rw c.from.ensures record { ascends = push_passes c.args.self.record c.args.n c.args.self.ascends (omega arith) c.requires.small c.requires.above }
