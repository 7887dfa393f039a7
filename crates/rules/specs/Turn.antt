-- Rows that stand in the order of their first lists, and the search that puts them so.
use Rattle.std.specs.Prelude.{◌≡◌, ℕ, suc, ◌<◌, true, ◌⊎◌, ◌↔◌, List, [], length, Some, None, Option, ◌≢◌, nat_lt, slice_index_or}
use Rattle.rules.specs.Rules.{Rules}
use Rattle.rules.specs.Paths.{Event}
use Rattle.rules.specs.Table.{Table, Rows, Sound, leads}
use Rattle.rules.specs.Order.{Enumeration}

-- Row i with event e comes before row j with event f: an earlier row, or the same row and a smaller event.
abbrev pub Earlier : ℕ → ℕ → ℕ → ℕ → Type 0
Earlier i e j f = (i < j) ⊎ ((i ≡ j) × (e < f))

-- Rows 0 to N - 1 stand in turn: each row r from 1 on was first met from an earlier row, `from r`, by the event `by r`, and
-- later than row r - 1. So stand the rows of a search that takes the rows in order and the events ascending, and puts each new
-- exit at the end.
pub record InTurn (rules : Rules) (t : Table) (N : ℕ) (from by : ℕ → ℕ) : Type 0 where
  pub rows : Rows rules t
  pub start : t.start ≡ 0
  pub places : (r : ℕ) → (t.used r ≡ true) ↔ (r < N)
  pub met : (r : ℕ) → 0 < r → r < N → (from r < r) × Event rules (by r) × (t.exit (from r) (by r) ≡ Some r)
  pub first : (r i e : ℕ) → 0 < r → r < N → i < N → Event rules e → t.exit i e ≡ Some r → Earlier i e (from r) (by r) → ⊥
  pub turn : (r : ℕ) → 0 < r → suc r < N → Earlier (from r) (by r) (from (suc r)) (by (suc r))

-- Rows 0 to N - 1 stand in the order of the first lists that lead to them.
pub record InOrder (rules : Rules) (t : Table) (N : ℕ) (ws : List (List ℕ)) : Type 0 where
  pub rows : Rows rules t
  pub start : t.start ≡ 0
  pub places : (r : ℕ) → (t.used r ≡ true) ↔ (r < N)
  pub enumerates : Enumeration rules ws
  pub count : length ws ≡ N
  pub leads_there : (r : ℕ) → r < N → leads t (slice_index_or ws r []) ≡ Some r

-- The rows in use have the places 0 to N - 1: `row` gives the row at a place, `place` the place of a row.
pub record Places (t : Table) (N : ℕ) (row place : ℕ → ℕ) : Type 0 where
  pub row_used : (i : ℕ) → i < N → (t.used (row i) ≡ true) × (place (row i) ≡ i)
  pub row_placed : (r : ℕ) → t.used r ≡ true → (place r < N) × (row (place r) ≡ r)

-- The place of a row, if there is a row.
abbrev pub placed : (ℕ → ℕ) → Option ℕ → Option ℕ
placed place None = None
placed place (Some r) = Some (place r)

-- The table with its rows numbered by place.
abbrev pub by_place : Table → ℕ → (ℕ → ℕ) → (ℕ → ℕ) → Table
by_place t N row place = record {
  used = λ i. nat_lt i N;
  set = λ i. t.set (row i);
  exit = λ i e. placed place (t.exit (row i) e);
  start = place t.start;
  dist = λ i. t.dist (row i);
}

-- What a search over the rows of a table has found when it is done: it began at the start row, took the found rows in order and
-- the events ascending, and gave each row met for the first time the next place. `from` and `by` are the place and the event by
-- which a row was met.
pub record Discovery (rules : Rules) (t : Table) (N : ℕ) (row place from by : ℕ → ℕ) : Type 0 where
  pub some_row : 0 < N
  pub begins : row 0 ≡ t.start
  pub found : (i : ℕ) → i < N → (t.used (row i) ≡ true) × (place (row i) ≡ i)
  pub met : (i : ℕ) → 0 < i → i < N → (from i < i) × Event rules (by i) × (t.exit (row (from i)) (by i) ≡ Some (row i))
  pub turn : (i : ℕ) → 0 < i → suc i < N → Earlier (from i) (by i) (from (suc i)) (by (suc i))
  pub looked : (i e q : ℕ) → i < N → Event rules e → t.exit (row i) e ≡ Some q →
      (place q < N) × (row (place q) ≡ q) × (0 < place q → Earlier i e (from (place q)) (by (place q)) → ⊥)

-- The same search before it is done: N rows are found, and what comes before the event e of place i has been looked at.
pub record Discovering (rules : Rules) (t : Table) (N i e : ℕ) (row place from by : ℕ → ℕ) : Type 0 where
  pub some_row : 0 < N
  pub begins : row 0 ≡ t.start
  pub found : (k : ℕ) → k < N → (t.used (row k) ≡ true) × (place (row k) ≡ k)
  pub met : (k : ℕ) → 0 < k → k < N →
      (from k < k) × Event rules (by k) × (t.exit (row (from k)) (by k) ≡ Some (row k)) × Earlier (from k) (by k) i e
  pub turn : (k : ℕ) → 0 < k → suc k < N → Earlier (from k) (by k) (from (suc k)) (by (suc k))
  pub looked : (j f q : ℕ) → j < N → Event rules f → Earlier j f i e → t.exit (row j) f ≡ Some q →
      (place q < N) × (row (place q) ≡ q) × (0 < place q → Earlier j f (from (place q)) (by (place q)) → ⊥)

-- Row q has been given the next place, N, met from place i by the event e; all else is as before.
pub record Appended (N i e q : ℕ) (row place from by row' place' from' by' : ℕ → ℕ) : Type 0 where
  pub row_kept : (k : ℕ) → k < N → row' k ≡ row k
  pub row_new : row' N ≡ q
  pub place_kept : (r : ℕ) → (r ≢ q) → place' r ≡ place r
  pub place_new : place' q ≡ N
  pub from_kept : (k : ℕ) → k < N → from' k ≡ from k
  pub from_new : from' N ≡ i
  pub by_kept : (k : ℕ) → k < N → by' k ≡ by k
  pub by_new : by' N ≡ e

-- The steps of such a search.
pub record SearchSteps (rules : Rules) (t : Table) : Type 0 where
  -- It begins with the start row at place 0.
  pub begin : (row place from by : ℕ → ℕ) → row 0 ≡ t.start → place (row 0) ≡ 0 → Discovering rules t 1 0 1 row place from by
  -- A step that is declined finds nothing.
  pub no_exit : (N i e : ℕ) (row place from by : ℕ → ℕ) → Discovering rules t N i e row place from by → t.exit (row i) e ≡ None →
      Discovering rules t N i (suc e) row place from by
  -- A step to a row that has a place finds nothing.
  pub seen : (N i e q : ℕ) (row place from by : ℕ → ℕ) → Discovering rules t N i e row place from by → t.exit (row i) e ≡ Some q →
      place q < N → row (place q) ≡ q → Discovering rules t N i (suc e) row place from by
  -- A step to any other row gives that row the next place.
  pub new : (N i e q : ℕ) (row place from by row' place' from' by' : ℕ → ℕ) → Discovering rules t N i e row place from by → i < N → Event rules e →
      t.exit (row i) e ≡ Some q → ((k : ℕ) → k < N → row k ≢ q) → Appended N i e q row place from by row' place' from' by' →
      Discovering rules t (suc N) i (suc e) row' place' from' by'
  -- After the last event comes the next place.
  pub next_row : (N i e : ℕ) (row place from by : ℕ → ℕ) → Discovering rules t N i e row place from by → rules.events < e →
      Discovering rules t N (suc i) 1 row place from by
  -- When every found row has been looked at the search is done.
  pub done : (N : ℕ) (row place from by : ℕ → ℕ) → Discovering rules t N N 1 row place from by → Discovery rules t N row place from by

-- The theorems on the order of rows.
pub record TurnLaws : Type 0 where
  -- Rows that stand in turn stand in the order of their first lists.
  pub turn_is_order : (rules : Rules) (t : Table) (N : ℕ) (from by : ℕ → ℕ) → InTurn rules t N from by →
      (ws : List (List ℕ)) × InOrder rules t N ws
  -- Rows numbered by place are still right, and their numbers are 0 to N - 1.
  pub placed_rows : (rules : Rules) (t : Table) (N : ℕ) (row place : ℕ → ℕ) → Rows rules t → Places t N row place →
      Rows rules (by_place t N row place) × ((i : ℕ) → ((by_place t N row place).used i ≡ true) ↔ (i < N))
  -- A search that is done has found every row, and they stand in turn.
  pub discovery_in_turn : (rules : Rules) (t : Table) (N : ℕ) (row place from by : ℕ → ℕ) → Sound rules t →
      Discovery rules t N row place from by → Places t N row place × InTurn rules (by_place t N row place) N from by
  -- Each step of the search does what is said of it.
  pub search_steps : (rules : Rules) (t : Table) → Rows rules t → SearchSteps rules t
