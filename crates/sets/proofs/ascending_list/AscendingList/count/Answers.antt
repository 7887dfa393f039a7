use Rattle.std.proofs.Common.{◌∙◌, sym, arith}
use Rattle.sets.proofs.Lists.{size_members}
use Rattle.sets.proofs.ascending_list.AscendingList.count.Goals as goal

pub returns : goal.returns
returns c = c.from.ensures ∙ sym (size_members c.args.self.now.record c.args.self.now.ascends (omega arith))
