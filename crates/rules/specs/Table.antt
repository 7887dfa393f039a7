-- A follow table beside its rule book: what each row must be, and where lists of events then lead.
use Rattle.std.specs.Prelude.{◌≡◌, ℕ, suc, ◌≤◌, Bool, true, ◌⊎◌, ◌↔◌, List, [], ◌∷◌, length, Some, None, Option}
use Rattle.rules.specs.Rules.{Rules}
use Rattle.rules.specs.Paths.{Stages, R, Exit, Holds, Same, Empty, Inhabited, Event, Word}

-- A follow table: which row numbers are in use, the set of each row, the row to which a step from a row by an event leads if it
-- is not declined, the start row, and the distance of each row.
pub record Table : Type 0 where
  pub used : ℕ → Bool
  pub set : ℕ → Stages
  pub exit : ℕ → ℕ → Option ℕ
  pub start : ℕ
  pub dist : ℕ → ℕ

-- Where a list of events leads from a row, or from no row.
abbrev pub onward : Table → List ℕ → Option ℕ → Option ℕ
onward t [] r = r
onward t (e ∷ w) None = None
onward t (e ∷ w) (Some r) = onward t w (t.exit r e)

-- The row to which a list of events leads from the start row, a step for each event; none if a step is declined.
abbrev pub leads : Table → List ℕ → Option ℕ
leads t w = onward t w (Some t.start)

-- Each row is right, seen for itself and its steps.
pub record Rows (rules : Rules) (t : Table) : Type 0 where
  -- The start row is in use, and holds what the empty list reaches.
  pub start_used : t.used t.start ≡ true
  pub start_set : Holds (t.set t.start) (R rules [])
  -- The set of a row is not empty.
  pub inhabited : (r : ℕ) → t.used r ≡ true → Inhabited (λ n. t.set r n ≡ true)
  -- A step leads to a row in use that holds the exit.
  pub exit_row : (r e q : ℕ) → t.used r ≡ true → Event rules e → t.exit r e ≡ Some q →
      (t.used q ≡ true) × Holds (t.set q) (Exit rules (t.set r) e)
  -- A step by an event is declined only where the exit is empty.
  pub no_exit : (r e : ℕ) → t.used r ≡ true → Event rules e → t.exit r e ≡ None → Empty (Exit rules (t.set r) e)
  -- A step by what is no event of the book is declined.
  pub no_event : (r e : ℕ) → t.used r ≡ true → (Event rules e → ⊥) → t.exit r e ≡ None
  -- No two rows hold the same set.
  pub apart : (r q : ℕ) → t.used r ≡ true → t.used q ≡ true → ((n : ℕ) → t.set r n ≡ t.set q n) → r ≡ q

-- Each row is right, a list as long as its distance leads to it, and no shorter one does.
pub record Sound (rules : Rules) (t : Table) : Type 0 where
  pub rows : Rows rules t
  pub near : (r : ℕ) → t.used r ≡ true → (w : List ℕ) × Word rules w × (leads t w ≡ Some r) × (length w ≡ t.dist r)
  pub nearest : (r : ℕ) (w : List ℕ) → t.used r ≡ true → Word rules w → leads t w ≡ Some r → t.dist r ≤ length w

-- The table is the subset construction of the book: one row for each reached set, and no other.
pub record Follows (rules : Rules) (t : Table) : Type 0 where
  -- A list of events leads to a row that holds exactly what it reaches,
  pub reached : (w : List ℕ) (r : ℕ) → Word rules w → leads t w ≡ Some r →
      (t.used r ≡ true) × Holds (t.set r) (R rules w) × Inhabited (R rules w)
  -- and nowhere exactly if it reaches nothing.
  pub nowhere : (w : List ℕ) → Word rules w → (leads t w ≡ None) ↔ Empty (R rules w)
  -- To a row in use some list leads that is as long as its distance,
  pub led_to : (r : ℕ) → t.used r ≡ true → (w : List ℕ) × Word rules w × (leads t w ≡ Some r) × (length w ≡ t.dist r)
  -- and no list that reaches its set is shorter.
  pub shortest : (r : ℕ) (w : List ℕ) → t.used r ≡ true → Word rules w → Holds (t.set r) (R rules w) →
      (leads t w ≡ Some r) × (t.dist r ≤ length w)
  -- No set has two rows.
  pub one_row : (v w : List ℕ) (r q : ℕ) → Word rules v → Word rules w → leads t v ≡ Some r → leads t w ≡ Some q →
      Same (R rules v) (R rules w) → r ≡ q
  -- A list with what is no event of the book leads nowhere.
  pub declined : (w : List ℕ) (r : ℕ) → leads t w ≡ Some r → Word rules w

-- Each row is right, and so are the distances, seen row by row.
pub record Layered (rules : Rules) (t : Table) : Type 0 where
  pub rows : Rows rules t
  -- The start row is at distance 0.
  pub start_at : t.dist t.start ≡ 0
  -- Every other row is a step from some row, and one farther than that.
  pub one_beyond : (r : ℕ) → t.used r ≡ true →
      (r ≡ t.start) ⊎ ((q : ℕ) × (e : ℕ) × (t.used q ≡ true) × Event rules e × (t.exit q e ≡ Some r) × (t.dist r ≡ suc (t.dist q)))
  -- No step leads more than one farther.
  pub no_farther : (q e r : ℕ) → t.used q ≡ true → Event rules e → t.exit q e ≡ Some r → t.dist r ≤ suc (t.dist q)

-- The table with only those rows in use.
abbrev pub only : (ℕ → Bool) → Table → Table
only keep t = record { used = keep; set = t.set; exit = t.exit; start = t.start; dist = t.dist }

-- The rows to keep are exactly those to which lists lead, and their distances are the lengths of the shortest such lists.
pub record Found (rules : Rules) (t : Table) (keep : ℕ → Bool) : Type 0 where
  pub reached : (r : ℕ) → keep r ≡ true →
      (t.used r ≡ true) × ((w : List ℕ) × Word rules w × (leads t w ≡ Some r) × (length w ≡ t.dist r))
  pub no_other : (r : ℕ) (w : List ℕ) → Word rules w → leads t w ≡ Some r → (keep r ≡ true) × (t.dist r ≤ length w)

-- The theorems on tables.
pub record TableLaws : Type 0 where
  -- A sound table is the subset construction of its book.
  pub follows : (rules : Rules) (t : Table) → Sound rules t → Follows rules t
  -- A table is sound if its distances are right row by row.
  pub layered : (rules : Rules) (t : Table) → Layered rules t → Sound rules t
  -- A table whose rows are right is sound if only the rows to which lists lead are kept.
  pub found : (rules : Rules) (t : Table) (keep : ℕ → Bool) → Rows rules t → Found rules t keep → Sound rules (only keep t)
