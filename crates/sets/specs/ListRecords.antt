-- What a list record means. Assumes nothing.
use Rattle.std.specs.Prelude.{◌≡◌, ℕ, ◌+◌, ◌<◌, ◌≤◌, Bool, ◌&&◌, List, nat_le, take, slice_index}
use Rattle.sets.specs.declared.list_record.ListRecord.{ListRecord}
use Rattle.sets.specs.Ascending.{ascend_from, among}

-- the numbers that a record lists: the first `len` of its items
abbrev pub listed : ListRecord → List ℕ
listed r = take r.len r.items

-- whether a record passes the check: it lists at most 64 numbers, below 64 and in ascending order
abbrev pub passes : ListRecord → Bool
passes r = nat_le r.len 64 && ascend_from 0 (listed r)

-- the same as a fact: there are at most 64, each is below 64, and each is below the next
abbrev pub Ascends : ListRecord → Type 0
Ascends r = (r.len ≤ 64) × ((i : ℕ) → i < r.len → slice_index r.items i < 64) × ((i : ℕ) → i + 1 < r.len → slice_index r.items i < slice_index r.items (i + 1))

-- whether n is a member: the numbers listed are the members of a record that passes the check, and any other has none
abbrev pub members : ListRecord → ℕ → Bool
members r n = passes r && among (listed r) n

-- the items that are not used are 0
abbrev pub RestIsZero : ListRecord → Type 0
RestIsZero r = (i : ℕ) → r.len ≤ i → slice_index r.items i ≡ 0
