-- What arc slots mean: a slot holds an arc, which stands in the book, or none.
use Rattle.std.specs.Prelude.{◌≡◌, ℕ, ◌≤◌, Bool, true, false, not, ◌&&◌, ◌||◌, List, Some, None, Option, ◌==◌, nat_le, is_some, count_by, slice_index_or}
use Rattle.std.specs.List.{list_any}
use Rattle.rules.specs.declared.change.Arc.{Arc}

-- Whether the slot holds the arc (from, label, to).
abbrev pub here : ℕ → ℕ → ℕ → Option Arc → Bool
here m e n None = false
here m e n (Some a) = m == a.from && (e == a.label && n == a.to)

-- Whether this arc stands in one of the slots.
abbrev pub arcs_in : List (Option Arc) → ℕ → ℕ → ℕ → Bool
arcs_in ss m e n = list_any (here m e n) ss

-- Whether the slot holds an arc that leaves or enters the stage.
abbrev pub touches : ℕ → Option Arc → Bool
touches n None = false
touches n (Some a) = n == a.from || n == a.to

-- Whether such an arc stands in one of the slots.
abbrev pub joined : List (Option Arc) → ℕ → Bool
joined ss n = list_any (touches n) ss

-- In how many slots an arc stands.
abbrev pub tally : List (Option Arc) → ℕ
tally ss = count_by is_some ss

-- No arc stands in two slots.
abbrev pub Once : List (Option Arc) → Type 0
Once ss = (m e n : ℕ) → count_by (here m e n) ss ≤ 1

-- An arc that stands in the slot joins live stages, and its label is not above E.
abbrev pub proper : (ℕ → Bool) → ℕ → Option Arc → Bool
proper live E None = true
proper live E (Some a) = live a.from && (live a.to && nat_le a.label E)

-- So do the arcs in all the slots.
abbrev pub Fit : (ℕ → Bool) → ℕ → List (Option Arc) → Type 0
Fit live E ss = (k : ℕ) → proper live E (slice_index_or ss k None) ≡ true

-- Whether two slots hold the same: this arc, or none.
abbrev pub same_slot : Option Arc → Option Arc → Bool
same_slot None s = not (is_some s)
same_slot (Some a) s = here a.from a.label a.to s
