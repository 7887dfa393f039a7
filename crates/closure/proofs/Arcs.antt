-- Rows of bits as silent arcs. Assumes nothing.
use Rattle.std.proofs.Common.{◌≡◌, ℕ, ◌<◌, ◌≤◌, Bool, true, false, not, ◌&&◌, ltb, List, map, length, get_or, set, replicate, Some, None, Option, MatchOption, sym, ap, ◌∙◌, ap₂, ⊎_elim, arith}
use Rattle.std.specs.List.{slice_get}
use Rattle.std.specs.Bool.{then_some}
use Rattle.std.specs.Slice.{IsItemAt}
use Rattle.std.specs.Borrow.{Bor}
use Rattle.sets.specs.contracts.bit_row.BitRowSmallSet.TheImpl.Laws.{below-law}
use Rattle.std.proofs.lemmas.List.{get_or-set_same, get_or-set_other, get_or-replicate, get_or-map, map-set, length-map, length-replicate}
use Rattle.std.proofs.lemmas.Option.{slice_get-get_or, slice_get_past}
use Rattle.std.proofs.lemmas.Bool.{lt-ltb, le-ltb, cases_lt, cases_eq, and_parts, and_left, and_right, false_from_ne_true, ltb-true}
use Rattle.std.proofs.lemmas.Bool.Decides.{nat_tests}
use Rattle.sets.specs.Members.{with_member}
use Rattle.sets.specs.BitRows.{members}
use Rattle.sets.specs.declared.bit_row.BitRow.{BitRow}
use Rattle.closure.specs.Neighbours.{leads, neighbours_in, places, at_place}
use Rattle.closure.specs.Silent.{arc_in, with_arc}

-- whether v is in row u
abbrev in_row_at : List BitRow → ℕ → ℕ → Bool
in_row_at rows u v = get_or (map members rows) u (λ _. false) v

pub arc_in_lem : (rows : List BitRow) (u v : ℕ) (d : BitRow) → length rows ≡ 256 → u < 256 → v < 256 → arc_in rows u v ≡ members (get_or rows u d) v
unfolding arc_in
arc_in_lem rows u v d long h l =
    ap₂ (λ (a b : Bool). (a && b) && in_row_at rows u v) (lt-ltb u 256 h) (lt-ltb v 256 l)
    ∙ ap (λ (p : ℕ → Bool). p v) (get_or-map members rows u d (λ _. false) (omega arith))

-- an arc leads only from a stage to a stage
pub arc_out : (rows : List BitRow) (u v : ℕ) → 256 ≤ u → arc_in rows u v ≡ false
unfolding arc_in
arc_out rows u v h = let e = le-ltb u 256 h in rw e

pub arc_beyond : (rows : List BitRow) (u v : ℕ) → 256 ≤ v → arc_in rows u v ≡ false
unfolding arc_in
arc_beyond rows u v h = and_left (ltb u 256 && ltb v 256) (in_row_at rows u v) (and_right (ltb u 256) (ltb v 256) (le-ltb v 256 h))

-- what is said of row u, if there is one, is said of the arcs from u
pub contains_row : (rows : List BitRow) (u v : ℕ) (r : Bool) (o : Option (Bor BitRow)) {P : Bor BitRow → Type 0} → length rows ≡ 256 → IsItemAt rows u o → MatchOption o (r ≡ false) P → ((row : Bor BitRow) → P row → r ≡ members row.now v) → r ≡ arc_in rows u v
contains_row rows u v r None long at said is = said ∙ sym (arc_out rows u v (omega (arith, at.3)))
contains_row rows u v r (Some row) long at said is =
    is row said ∙ ⊎_elim
    (λ (l : v < 256). ap (λ (x : BitRow). members x v) at.1 ∙ sym (arc_in_lem rows u v row.now long (omega (arith, at.3.0)) l))
    (λ (l : 256 ≤ v). false_from_ne_true (members row.now v) (λ e. omega (arith, below-law row.now v e)) ∙ sym (arc_beyond rows u v l))
    (cases_lt v 256)

pub arc_ends : (rows : List BitRow) (u v : ℕ) → arc_in rows u v ≡ true → (u < 256) × (v < 256)
unfolding arc_in
arc_ends rows u v h =
    let ends = and_parts (ltb u 256) (ltb v 256) (and_parts (ltb u 256 && ltb v 256) (in_row_at rows u v) h).0 in
    (ltb-true u 256 ends.0, ltb-true v 256 ends.1)

-- the same row for every stage
pub arc_repeated : (row : BitRow) (u v : ℕ) → arc_in (replicate 256 row) u v ≡ ((ltb u 256 && ltb v 256) && members row v)
unfolding arc_in
arc_repeated row u v = ⊎_elim
    (λ (l : u < 256).
    let long = length-replicate 256 row in
    ap (λ (p : ℕ → Bool). (ltb u 256 && ltb v 256) && p v)
    (get_or-map members (replicate 256 row) u row (λ _. false) (omega arith) ∙ ap members (get_or-replicate 256 u row row l)))
    (λ (l : 256 ≤ u). let e = le-ltb u 256 l in rw e)
    (cases_lt u 256)

-- rows after one is written
set_here : (rows : List BitRow) (from v : ℕ) (row : BitRow) → from < length rows → in_row_at (set rows from row) from v ≡ members row v
set_here rows from v row h =
    let long = length-map rows members in
    ap (λ (ps : List (ℕ → Bool)). get_or ps from (λ _. false) v) (map-set members rows from row)
    ∙ ap (λ (p : ℕ → Bool). p v) (get_or-set_same (map members rows) from (members row) (λ _. false) (omega arith))

set_there : (rows : List BitRow) (from u v : ℕ) (row : BitRow) → (u ≡ from → ⊥) → in_row_at (set rows from row) u v ≡ in_row_at rows u v
set_there rows from u v row e =
    ap (λ (ps : List (ℕ → Bool)). get_or ps u (λ _. false) v) (map-set members rows from row)
    ∙ ap (λ (p : ℕ → Bool). p v) (get_or-set_other (map members rows) from u (members row) (λ _. false) e)

-- one more member in one row is one more arc
pub arc_more : (rows : List BitRow) (from to : ℕ) (row d : BitRow) → length rows ≡ 256 → from < 256
    → ((k : ℕ) → members row k ≡ with_member 256 to (members (get_or rows from d)) k) → (u v : ℕ) → arc_in (set rows from row) u v ≡ with_arc from to (arc_in rows) u v
unfolding arc_in
arc_more rows from to row d long low h u v = ⊎_elim
    (λ (e : u ≡ from).
    let new : in_row_at (set rows from row) u v ≡ members row v = ap (λ (x : ℕ). in_row_at (set rows from row) x v) e ∙ set_here rows from v row (omega arith) in
    let old : in_row_at rows u v ≡ members (get_or rows from d) v = ap (λ (x : ℕ). in_row_at rows x v) e ∙ ap (λ (p : ℕ → Bool). p v) (get_or-map members rows from d (λ _. false) (omega arith)) in
    let is = h v in
    grind (arith, nat_tests))
    (λ (e : u ≡ from → ⊥).
    let same = set_there rows from u v row e in
    grind (arith, nat_tests))
    (cases_eq u from)

-- there was one more just if the arc was not there
pub arc_grew : (rows : List BitRow) (from to : ℕ) (d : BitRow) (r : Bool) → length rows ≡ 256 → from < 256 → r ≡ (ltb to 256 && not (members (get_or rows from d) to)) → r ≡ ((ltb from 256 && ltb to 256) && not (arc_in rows from to))
arc_grew rows from to d r long low is = ⊎_elim
    (λ (l : to < 256). let old = arc_in_lem rows from to d long low l in grind (arith, nat_tests))
    (λ (l : 256 ≤ to). grind (arith, nat_tests))
    (cases_lt to 256)

-- what stands at each place of the list of neighbours
pub neighbour_at : (rows : List BitRow) (u v x : ℕ) → x ≡ leads rows u v → then_some (ltb v 256) x ≡ slice_get (neighbours_in rows u) v
neighbour_at rows u v x e = ⊎_elim
    (λ (l : v < 256). ap (λ (b : Bool). then_some b x) (lt-ltb v 256 l) ∙ ap Some (e ∙ sym (at_place rows u v l)) ∙ sym (slice_get-get_or (neighbours_in rows u) v 0 (omega (arith, places rows u))))
    (λ (l : 256 ≤ v). ap (λ (b : Bool). then_some b x) (le-ltb v 256 l) ∙ sym (slice_get_past (neighbours_in rows u) v (omega (arith, places rows u))))
    (cases_lt v 256)
