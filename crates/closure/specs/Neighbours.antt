-- The silent arcs as a graph: each stage has a place for every stage. The laws of the graph are proved here, and not
-- in proofs/, since an impl gives them in a ghost member, which may cite specs/ alone. Assumes nothing.
use Rattle.std.specs.Prelude.{◌≡◌, ℕ, ◌<◌, Bool, true, false, if◌then◌else◌, List, map, length, slice_index}
use Rattle.std.proofs.Common.{sym, subst, arith}
use Rattle.std.specs.List.{range_with_len}
use Rattle.std.proofs.lemmas.List.FromFn.{length-map-range_with_len, get_or-map-range_with_len}
use Rattle.sets.specs.declared.bit_row.BitRow.{BitRow}
use Rattle.search.specs.Walks.{Lawful}
use Rattle.closure.specs.Silent.{arc_in}

-- where place v of stage u leads: to v if there is such an arc, and else back to u
abbrev pub leads : List BitRow → ℕ → ℕ → ℕ
leads rows u v = if arc_in rows u v then v else u

-- the neighbours of a stage: 256 places
unfoldable pub neighbours_in : List BitRow → ℕ → List ℕ
neighbours_in rows u = map (leads rows u) (range_with_len 0 256)

pub places : (rows : List BitRow) (u : ℕ) → length (neighbours_in rows u) ≡ 256
unfolding neighbours_in
places rows u = length-map-range_with_len (leads rows u) 0 256

pub at_place : (rows : List BitRow) (u v : ℕ) → v < 256 → slice_index (neighbours_in rows u) v ≡ leads rows u v
unfolding neighbours_in
at_place rows u v h = get_or-map-range_with_len (leads rows u) 0 256 v v 0 h (omega arith)

leads_within : (rows : List BitRow) (u v : ℕ) → u < 256 → v < 256 → leads rows u v < 256
leads_within rows u v h l = pick (arc_in rows u v)
  where
    pick : (b : Bool) → (if b then v else u) < 256
    pick true = l
    pick false = h

pub lawful_in : (rows : List BitRow) → Lawful 256 (neighbours_in rows)
lawful_in rows =
    record {
      few = omega arith;
      short = λ u l. omega (arith, places rows u);
      within = λ u v l h.
          let under : v < 256 = omega (arith, places rows u) in
          subst (λ x. x < 256) (sym (at_place rows u v under)) (leads_within rows u v l under);
    }
