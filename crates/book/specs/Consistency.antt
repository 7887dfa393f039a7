-- What is true of every book record, over its fields.
use Rattle.std.specs.Prelude.{◌≡◌, ℕ, ◌≤◌, Bool, true, false, List, Option, length, slice_index_or}
use Rattle.rules.specs.declared.change.Arc.{Arc}
use Rattle.book.specs.declared.record.Stage.{Stage}
use Rattle.book.specs.Slots.{tally, Once, Fit}

-- A stage beyond the record.
abbrev pub no_stage : Stage
no_stage = record { live = false; mark = 0 }

-- Whether a stage is live, and its mark, by the record's list.
abbrev pub live_in : List Stage → ℕ → Bool
live_in stages n = (slice_index_or stages n no_stage).live

abbrev pub mark_in : List Stage → ℕ → ℕ
mark_in stages n = (slice_index_or stages n no_stage).mark

-- 1 to 15 events; stage 0 is live; marks up to 7; no arc in two slots, arcs that fit, and as many as the count says.
abbrev pub Consistent : ℕ → List Stage → List (Option Arc) → ℕ → Type 0
Consistent events stages arcs count =
    ((1 ≤ events) × (events ≤ 15))
    × ((length stages ≡ 256) × (live_in stages 0 ≡ true) × ((n : ℕ) → mark_in stages n ≤ 7))
    × ((length arcs ≡ 1024) × Once arcs × Fit (live_in stages) events arcs × (count ≡ tally arcs))
