-- Walks of the graph and paths along silent arcs: shortest ones are as long. Assumes nothing.
use Rattle.std.proofs.Common.{◌≡◌, ℕ, suc, ◌<◌, ◌≤◌, Bool, true, false, cond, List, Option, MatchOption, sym, refl, ap, ◌∙◌, subst, arith}
use Rattle.sets.specs.declared.bit_row.BitRow.{BitRow}
use Rattle.search.specs.Walks.{Walk, stay, step, From, Tells}
use Rattle.search.proofs.Telling.{tells_like}
use Rattle.closure.specs.Neighbours.{neighbours_in, places, at_place}
use Rattle.closure.specs.Silent.{arc_in, Path, none, more, PathFrom, LeastOrNone}
use Rattle.closure.proofs.Arcs.{arc_ends}
use Rattle.closure.proofs.Least.{least_told}

path_walk : (rows : List BitRow) {s v k : ℕ} → Path (arc_in rows) s v k → Walk (neighbours_in rows) s v k
path_walk rows (none e) = stay e
path_walk rows (more {u = u} {v = v} p a) =
    let under : v < 256 = (arc_ends rows u v a).1 in
    step (path_walk rows p) v (omega (arith, places rows u)) (at_place rows u v under ∙ ap (λ (b : Bool). cond b v u) a)

-- a path of at most k arcs
abbrev Within : List BitRow → ℕ → ℕ → ℕ → Type 0
Within rows s v k = (m : ℕ) × (m ≤ k) × Path (arc_in rows) s v m

-- one place more, which may be a turn on the spot
turn : (rows : List BitRow) (s u v k : ℕ) → Within rows s u k → (b : Bool) → arc_in rows u v ≡ b → Within rows s (cond b v u) (suc k)
turn rows s u v k w true e = (suc w.0, omega (arith, w.1), more w.2 e)
turn rows s u v k w false e = (w.0, omega (arith, w.1), w.2)

walk_path : (rows : List BitRow) {s v k : ℕ} → Walk (neighbours_in rows) s v k → Within rows s v k
walk_path rows (stay e) = (0, omega arith, none e)
walk_path rows {s} (step {u = u} {k = k} w i h e) =
    subst (λ (x : ℕ). Within rows s x (suc k)) (sym (at_place rows u i (omega (arith, places rows u))) ∙ e) (turn rows s u i k (walk_path rows w) (arc_in rows u i) refl)

-- what the search tells of a stage is the least number of arcs of a path there
pub least_paths : (rows : List BitRow) (starts : List ℕ) (v x : ℕ) (o : Option ℕ) → Tells (From (neighbours_in rows) starts v) x → MatchOption o (x ≡ 65535) (λ d. (d < 65535) × (d ≡ x)) → LeastOrNone (PathFrom (arc_in rows) starts v) o
least_paths rows starts v x o t =
    least_told (PathFrom (arc_in rows) starts v) x o
    (tells_like (From (neighbours_in rows) starts v) (PathFrom (arc_in rows) starts v)
    (λ k f. (f.0, f.1, path_walk rows f.2))
    (λ k f. let w = walk_path rows f.2 in (w.0, w.1, (f.0, f.1, w.2)))
    x t)
