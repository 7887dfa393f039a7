use Rattle.sets.proofs.Lists.{zeros}
use Rattle.sets.proofs.ascending_list.AscendingList.empty.Goals as goal

pub returns-clause-rest : goal.returns-clause-rest
returns-clause-rest c = λ i _. zeros 64 i
