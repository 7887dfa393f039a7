use Rattle.std.proofs.Common.{◌≡◌, ℕ, ◌-◌, ◌≤◌, ◌&&◌, ◌||◌, ltb}
use Rattle.sets.specs.ListRecords.{members, RestIsZero}
use Rattle.sets.proofs.ascending_list.AscendingList.union.Given as goal

abbrev pub invariant-loop-n : goal.invariant-loop-n
invariant-loop-n l =
    record {
      within : l.from ≤ 64;
      merged : (k : ℕ) → members l.out.record k ≡ (ltb k l.from && (members l.self.record k || members l.other.record k));
      rest : RestIsZero l.out.record;
    }

abbrev pub decreases-loop-n : goal.decreases-loop-n
decreases-loop-n l = 64 - l.from
