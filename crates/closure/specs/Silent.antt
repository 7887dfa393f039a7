-- Silent arcs among the stages, which are the numbers below 256, and the paths along them. Assumes nothing.
use Rattle.std.specs.Prelude.{◌≡◌, ℕ, suc, ◌<◌, ◌↔◌, Bool, true, false, ◌&&◌, ◌||◌, List, map, length, Some, None, Option, is_some, ◌==◌, nat_lt, slice_index, slice_index_or}
use Rattle.sets.specs.BitRows.{members}
use Rattle.sets.specs.declared.bit_row.BitRow.{BitRow}
use Rattle.search.specs.Walks.{Least}
use Rattle.closure.specs.declared.silent_arcs.SilentArcs.{SilentArcs}

-- whether an arc leads from stage u to stage v, where row u holds the stages that arcs from u lead to
unfoldable pub arc_in : List BitRow → ℕ → ℕ → Bool
arc_in rows u v = (nat_lt u 256 && nat_lt v 256) && slice_index_or (map members rows) u (λ _. false) v

-- the arcs that a value holds
abbrev pub has_arc : SilentArcs → ℕ → ℕ → Bool
has_arc arcs = arc_in arcs.rows

-- the arcs with one more, from one stage to another, if both numbers are stages
abbrev pub with_arc : ℕ → ℕ → (ℕ → ℕ → Bool) → ℕ → ℕ → Bool
with_arc from to arc u v = arc u v || ((u == from && v == to) && (nat_lt from 256 && nat_lt to 256))

-- a path of k silent arcs from stage s to stage v
pub data Path (arc : ℕ → ℕ → Bool) (s : ℕ) : ℕ → ℕ → Type 0 where
  none : {v : ℕ} → s ≡ v → Path arc s v 0
  more : {u v k : ℕ} → Path arc s u k → arc u v ≡ true → Path arc s v (suc k)

-- a path of k silent arcs to stage v from one of the starts
abbrev pub PathFrom : (ℕ → ℕ → Bool) → List ℕ → ℕ → ℕ → Type 0
PathFrom arc starts v k = (j : ℕ) × (j < length starts) × Path arc (slice_index starts j) v k

-- the least number of which P holds, or none if it holds of none
pub record LeastOrNone (P : ℕ → Type 0) (o : Option ℕ) : Type 0 where
  pub some : (d : ℕ) → (o ≡ Some d) ↔ Least P d
  pub none : (o ≡ None) ↔ ((k : ℕ) → P k → ⊥)

-- the fewest silent arcs from a start to each stage: place v has them for stage v, or none if no path leads there
abbrev pub FewestArcs : (ℕ → ℕ → Bool) → List ℕ → List (Option ℕ) → Type 0
FewestArcs arc starts steps = (v : ℕ) → v < 256 → LeastOrNone (PathFrom arc starts v) (slice_index_or steps v None)

-- whether a path leads to stage v, by what the steps tell
abbrev pub reached_in : List (Option ℕ) → ℕ → Bool
reached_in steps v = nat_lt v 256 && is_some (slice_index_or steps v None)
