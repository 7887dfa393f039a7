use Rattle.std.proofs.Common.{ltb, sym, rules, tests}
use Rattle.std.proofs.lemmas.Bool.{ltb-true, ltb-false}
use Rattle.std.proofs.lemmas.List.Sorted.{IsPartitionPoint-from_clause}
use Rattle.sets.specs.ListRecords.{listed}
use Rattle.sets.specs.ListRecordsLemmas.{members_below}
use Rattle.sets.proofs.Lists.{parted, next_none, next_some}
use Rattle.sets.proofs.ascending_list.AscendingList.next_from.Goals as goal

pub returns-in_err-next-clause-next : goal.returns-in_err-next-clause-next
returns-in_err-next-clause-next c =
    let list = c.args.self.now.record in
    let part = IsPartitionPoint-from_clause (λ y. ltb y c.args.from) (listed list) c.partition_point-at.result
    (rw c.as_slice-list.ensures at c.partition_point-at.ensures.partitioned) (parted list c.args.from c.args.self.now.ascends) (λ a r q k. search (rules, tests)) in
    rw c.from_residual.ensures (next_none list c.args.from _ c.args.self.now.ascends part (rw c.as_slice-list.ensures at (ltb-false _ _ (sym c.in_err-next.ensures.lookup.0))))

pub returns : goal.returns
returns c =
    let list = c.args.self.now.record in
    let part = IsPartitionPoint-from_clause (λ y. ltb y c.args.from) (listed list) c.partition_point-at.result
    (rw c.as_slice-list.ensures at c.partition_point-at.ensures.partitioned) (parted list c.args.from c.args.self.now.ascends) (λ a r q k. search (rules, tests)) in
    let next = next_some list c.args.from _ c.in_ok-next.field-0.now c.args.self.now.ascends part
    (rw c.as_slice-list.ensures at (ltb-true _ _ (sym c.in_ok-next.ensures.lookup.0)))
    (rw c.as_slice-list.ensures at c.in_ok-next.ensures.lookup.1) in
    rw c.from.ensures record { next = next; small = members_below list _ next.1 }
