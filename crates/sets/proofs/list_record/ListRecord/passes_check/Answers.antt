use Rattle.std.proofs.Common.{◌≡◌, arith, rules}
use Rattle.sets.specs.ListRecords.{passes}
use Rattle.sets.proofs.Lists.{check_ascends}
use Rattle.sets.proofs.list_record.ListRecord.passes_check.Goals as goal

pub returns-clause-ascends : goal.returns-clause-ascends
returns-clause-ascends c =
    let test : c.is_some_and.result ≡ passes c.args.self.now = search rules in
    check_ascends c.args.self.now c.is_some_and.result (omega arith) test
