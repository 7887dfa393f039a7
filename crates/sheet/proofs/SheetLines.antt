-- A sheet is read exactly if its lines that are not skipped are those of changes.
use Rattle.std.proofs.Common.{◌≡◌, ◌+◌, ◌<◌, ◌≤◌, Bool, true, false, cond, ltb, List, [], ◌∷◌, ◌++◌, length, Ok, Err, Result, sym, refl, ap, ◌∙◌, subst, inl, inr, append_assoc, append-nil, arith, length-append}
use Rattle.std.proofs.lemmas.Bool.{ltb-true, ltb-false, lt-ltb, le-ltb}
use Rattle.text.specs.Split.{Told, lines, is_skipped_line}
use Rattle.rules.specs.declared.change.Change.{Change}
use Rattle.rules.specs.declared.change.Change.TheVariants.{Stage, Drop, Arc, Cut, Mark}
use Rattle.rules.specs.ChangeLines.{change_line}
use Rattle.sheet_faults.specs.declared.LineFault.{LineFault}
use Rattle.sheet_faults.specs.declared.LineFault.TheVariants.{TooManyChanges}
use Rattle.sheet_faults.specs.declared.SheetFault.{SheetFault}
use Rattle.sheet_faults.specs.declared.SheetFault.TheVariants.{TooLong}
use Rattle.sheet_faults.specs.Faults.{in_sheet}
use Rattle.sheet.specs.declared.changes.PlacedChange.{PlacedChange}
use Rattle.text.specs.Outcomes.{and_then}
use Rattle.sheet.specs.Sheets.{placed_of, pushed, sheet_from, sheet_of}
use Rattle.sheet.specs.Laws.{LineOf, LinesOf, ReadExactly}
use Rattle.sheet.proofs.LineForms.{ok_same, err_ok, and_then_ok, reads_line, line_read}

not_skipped : (ch : Change) → is_skipped_line (change_line ch) ≡ false
not_skipped (Stage n m) = refl
not_skipped (Drop n) = refl
not_skipped (Arc a) = refl
not_skipped (Cut a) = refl
not_skipped (Mark n m) = refl

-- a line of a change before others
pub line_before : (l : Told) (ls : List Told) (item : PlacedChange) (rest : List PlacedChange) → LineOf l item → LinesOf ls rest → LinesOf (l ∷ ls) (item ∷ rest)
line_before l ls item rest h k = inr (item, rest, refl, h, k)

-- what is read of the lines behind a first one
abbrev onward : List PlacedChange → Told → List Told → Bool → Result (List PlacedChange) LineFault
onward done l ls v = cond v (sheet_from done ls) (and_then (placed_of l) (λ ch. and_then (pushed done ch) (λ more. sheet_from more ls)))

-- a line that is read adds its change
read_one : (done : List PlacedChange) (l : Told) (ls : List Told) (item : PlacedChange) → LineOf l item → length done < 64 →
    sheet_from done (l ∷ ls) ≡ sheet_from (done ++ item ∷ []) ls
read_one done l ls item h lt =
    ap (onward done l ls) (ap is_skipped_line h.text ∙ not_skipped item.change)
    ∙ ap (λ (r : Result PlacedChange LineFault). and_then r (λ ch. and_then (pushed done ch) (λ more. sheet_from more ls))) (reads_line l item h)
    ∙ ap (λ (v : Bool). and_then (cond v (Ok (done ++ item ∷ [])) (Err (TooManyChanges item.place))) (λ more. sheet_from more ls)) (lt-ltb (length done) 64 lt)

from_lines : (ls : List Told) (done items : List PlacedChange) → length done + length items ≤ 64 → LinesOf ls items → sheet_from done ls ≡ Ok (done ++ items)
from_lines [] done items le h = ap {B = Result (List PlacedChange) LineFault} Ok (sym (append-nil done) ∙ ap (λ (xs : List PlacedChange). done ++ xs) (sym h))
from_lines (l ∷ ls) done items le (inl (skip, h)) = ap (onward done l ls) skip ∙ from_lines ls done items le h
from_lines (l ∷ ls) done items le (inr (item, rest, e, line, h)) =
    let size = ap length e in
    read_one done l ls item line (omega arith)
    ∙ from_lines ls (done ++ item ∷ []) rest (omega (arith, length-append done (item ∷ []))) h
    ∙ ap {B = Result (List PlacedChange) LineFault} Ok (append_assoc done (item ∷ []) rest ∙ ap (λ (xs : List PlacedChange). done ++ xs) (sym e))

-- the changes that are read behind others
record Read (done all : List PlacedChange) (ls : List Told) : Type 0 where
  pub items : List PlacedChange
  pub all_is : all ≡ done ++ items
  pub few : length all ≤ 64
  pub lines_of : LinesOf ls items

pushed_ok : (done : List PlacedChange) (item : PlacedChange) (more : List PlacedChange) → pushed done item ≡ Ok more → (length done < 64) × (more ≡ done ++ item ∷ [])
pushed_ok done item more h = go (ltb (length done) 64) refl h
  where
    go : (v : Bool) → ltb (length done) 64 ≡ v → cond v (Ok (done ++ item ∷ [])) (Err (TooManyChanges item.place)) ≡ Ok more → (length done < 64) × (more ≡ done ++ item ∷ [])
    go true p e = (ltb-true (length done) 64 p, sym (ok_same (done ++ item ∷ []) more e))
    go false p e = absurd (err_ok _ more e)

one_more : (done more all items : List PlacedChange) (item : PlacedChange) → all ≡ more ++ items → more ≡ done ++ item ∷ [] → all ≡ done ++ (item ∷ items)
one_more done more all items item p q = p ∙ ap (λ (xs : List PlacedChange). xs ++ items) q ∙ append_assoc done (item ∷ []) items

to_lines : (ls : List Told) (done all : List PlacedChange) → length done ≤ 64 → sheet_from done ls ≡ Ok all → Read done all ls
to_lines [] done all le h =
    let e = ok_same done all h in
    record { items = []; all_is = sym e ∙ sym (append-nil done); few = omega (arith, ap length e); lines_of = refl }
to_lines (l ∷ ls) done all le h = go (is_skipped_line l.text) refl h (to_lines ls done all le) (λ more. to_lines ls more all)
  where
    go : (v : Bool) → is_skipped_line l.text ≡ v → onward done l ls v ≡ Ok all → (sheet_from done ls ≡ Ok all → Read done all ls) →
        ((more : List PlacedChange) → length more ≤ 64 → sheet_from more ls ≡ Ok all → Read more all ls) → Read done all (l ∷ ls)
    go true p e skip take = let r = skip e in record { items = r.items; all_is = r.all_is; few = r.few; lines_of = inl (p, r.lines_of) }
    go false p e skip take =
        let a = and_then_ok (placed_of l) (λ ch. and_then (pushed done ch) (λ more. sheet_from more ls)) all e in
        let b = and_then_ok (pushed done a.0) (λ more. sheet_from more ls) all a.2 in
        let d = pushed_ok done a.0 b.0 b.1 in
        let r = take b.0 (omega (arith, d.0, ap length d.1, length-append done (a.0 ∷ []))) b.2 in
        record {
          items = a.0 ∷ r.items;
          all_is = one_more done b.0 all r.items a.0 r.all_is d.1;
          few = r.few;
          lines_of = line_before l ls a.0 r.items (line_read l a.0 a.1) r.lines_of;
        }

in_sheet_ok : {A : Type 0} (r : Result A LineFault) (x : A) → in_sheet r ≡ Ok x → r ≡ Ok x
in_sheet_ok {A = A} (Ok y) x h = ap {B = Result A LineFault} Ok (ok_same y x h)
in_sheet_ok (Err l) x h = absurd (err_ok _ x h)

pub read_exactly : ReadExactly
read_exactly bs items = (there, back)
  where
    there : sheet_of bs ≡ Ok items → (length bs ≤ 4096) × (length items ≤ 64) × LinesOf (lines bs) items
    there h = go (ltb 4096 (length bs)) refl h
      where
        go : (v : Bool) → ltb 4096 (length bs) ≡ v → cond v (Err TooLong) (in_sheet (sheet_from [] (lines bs))) ≡ Ok items →
            (length bs ≤ 4096) × (length items ≤ 64) × LinesOf (lines bs) items
        go true p e = absurd (err_ok _ items e)
        go false p e =
            let r = to_lines (lines bs) [] items (omega arith) (in_sheet_ok (sheet_from [] (lines bs)) items e) in
            (ltb-false 4096 (length bs) p, r.few, subst (LinesOf (lines bs)) (sym r.all_is) r.lines_of)

    back : (length bs ≤ 4096) × (length items ≤ 64) × LinesOf (lines bs) items → sheet_of bs ≡ Ok items
    back h =
        ap (λ (v : Bool). cond {A = Result (List PlacedChange) SheetFault} v (Err TooLong) (in_sheet (sheet_from [] (lines bs)))) (le-ltb 4096 (length bs) h.0)
        ∙ ap in_sheet (from_lines (lines bs) [] items (omega (arith, h.1)) h.2)
