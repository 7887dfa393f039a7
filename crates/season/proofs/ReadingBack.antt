-- Changes that are written as lines are read back.
use Rattle.std.proofs.Common.{◌≡◌, ℕ, ◌+◌, ◌*◌, ◌<◌, ◌≤◌, true, false, not, eqb, List, [], ◌∷◌, ◌++◌, map, length, Ok, decimal, sym, refl, ap, ◌∙◌, subst, inl, append_assoc, arith, length-append}
use Rattle.std.specs.List.{AllByRecursion, flat_map}
use Rattle.std.proofs.lemmas.Bool.{and_from}
use Rattle.std.proofs.lemmas.List.{length-map}
use Rattle.text.specs.Split.{Told, parts}
use Rattle.text.proofs.First.{tell}
use Rattle.text.proofs.Numerals.{lacks, numeral}
use Rattle.text.proofs.Parting.{lacks_append, part_more}
use Rattle.rules.specs.declared.change.Change.{Change}
use Rattle.rules.specs.declared.change.Change.TheVariants.{Stage, Drop, Arc, Cut, Mark}
use Rattle.rules.specs.ChangeLines.{change_line, Small}
use Rattle.sheet.specs.declared.changes.PlacedChange.{PlacedChange}
use Rattle.sheet.specs.Sheets.{sheet_of}
use Rattle.sheet.specs.Laws.{LinesOf}
use Rattle.sheet.proofs.SheetLines.{line_before, read_exactly}
use Rattle.book_text.specs.Canonical.{line_text}

-- the numbers of changes have at most three digits
abbrev pub AllSmall : List Change → Type 0
AllSmall = AllByRecursion Small

-- the lines of changes
abbrev pub lines_text : List Change → List ℕ
lines_text = flat_map line_text

pub line_is : (c : Change) (rest : List ℕ) → line_text c ++ rest ≡ change_line c ++ (10 ∷ rest)
line_is c rest = append_assoc (change_line c) (10 ∷ []) rest

lacks_two : (by : ℕ) (a b : List ℕ) → eqb 32 by ≡ false → lacks by a ≡ true → lacks by b ≡ true → lacks by (a ++ (32 ∷ b)) ≡ true
lacks_two by a b e p q = lacks_append by a (32 ∷ b) p (and_from (not (eqb 32 by)) (lacks by b) (ap not e) q)

lacks_three : (m e n : ℕ) → (m < 1000) × (e < 1000) × (n < 1000) → lacks 10 (decimal m ++ (32 ∷ (decimal e ++ (32 ∷ decimal n)))) ≡ true
lacks_three m e n s =
    lacks_two 10 (decimal m) _ refl (numeral m s.0).no_end (lacks_two 10 (decimal e) (decimal n) refl (numeral e s.1).no_end (numeral n s.2).no_end)

pub no_end : (c : Change) → Small c → lacks 10 (change_line c) ≡ true
no_end (Stage n m) s = lacks_two 10 (decimal n) (decimal m) refl (numeral n s.0).no_end (numeral m s.1).no_end
no_end (Drop n) s = (numeral n s).no_end
no_end (Arc a) s = lacks_three a.from a.label a.to s
no_end (Cut a) s = lacks_three a.from a.label a.to s
no_end (Mark n m) s = lacks_two 10 (decimal n) (decimal m) refl (numeral n s.0).no_end (numeral m s.1).no_end

-- the line of a change has at most 15 bytes
short_two : (n m : ℕ) → (n < 1000) × (m < 1000) → length (decimal n ++ (32 ∷ decimal m)) ≤ 7
short_two n m s = omega (arith, length-append (decimal n) (32 ∷ decimal m), (numeral n s.0).short, (numeral m s.1).short)

short_three : (m e n : ℕ) → (m < 1000) × (e < 1000) × (n < 1000) → length (decimal m ++ (32 ∷ (decimal e ++ (32 ∷ decimal n)))) ≤ 11
short_three m e n s = omega (arith, length-append (decimal m) (32 ∷ (decimal e ++ (32 ∷ decimal n))), (numeral m s.0).short, short_two e n (s.1, s.2))

short_change : (c : Change) → Small c → length (change_line c) ≤ 15
short_change (Stage n m) s = omega (arith, short_two n m s)
short_change (Drop n) s = omega (arith, (numeral n s).short)
short_change (Arc a) s = omega (arith, short_three a.from a.label a.to s)
short_change (Cut a) s = omega (arith, short_three a.from a.label a.to s)
short_change (Mark n m) s = omega (arith, short_two n m s)

short_text : (cs : List Change) → AllSmall cs → length (lines_text cs) ≤ 16 * length cs
short_text [] s = omega arith
short_text (c ∷ cs) s = omega (arith, length-append (line_text c) (lines_text cs), length-append (change_line c) (10 ∷ []), short_change c s.0, short_text cs s.1)

-- the changes that are read, each with the place of its line
abbrev items_from : ℕ → ℕ → List Change → List PlacedChange
items_from line at [] = []
items_from line at (c ∷ cs) = record { change = c; place = record { line = line; offset = at } } ∷ items_from (line + 1) (at + (length (change_line c) + 1)) cs

items_changes : (line at : ℕ) (cs : List Change) → map (λ x. x.change) (items_from line at cs) ≡ cs
items_changes line at [] = refl
items_changes line at (c ∷ cs) = ap (λ (xs : List Change). c ∷ xs) (items_changes (line + 1) (at + (length (change_line c) + 1)) cs)

lines_of_changes : (cs : List Change) → AllSmall cs → (line at : ℕ) → LinesOf (parts 10 1 line at (lines_text cs)) (items_from line at cs)
lines_of_changes [] s line at = inl (refl, refl)
lines_of_changes (c ∷ cs) s line at =
    let rest = lines_of_changes cs s.1 (line + 1) (at + (length (change_line c) + 1)) in
    let e : parts 10 1 line at (line_text c ++ lines_text cs) ≡ tell line at (change_line c) ∷ parts 10 1 (line + 1) (at + (length (change_line c) + 1)) (lines_text cs) =
    ap (parts 10 1 line at) (line_is c (lines_text cs)) ∙ part_more 10 1 line at (change_line c) (lines_text cs) (no_end c s.0) in
    subst (λ (ls : List Told). LinesOf ls (items_from line at (c ∷ cs))) (sym e)
    (line_before (tell line at (change_line c)) _ (record { change = c; place = record { line = line; offset = at } }) _ (record { text = refl; small = s.0; place = refl }) rest)

pub reads_back : (cs : List Change) → AllSmall cs → length cs ≤ 64 → (items : List PlacedChange) × (sheet_of (lines_text cs) ≡ Ok items) × (map (λ x. x.change) items ≡ cs)
reads_back cs s le = (
  items_from 1 0 cs,
  (read_exactly (lines_text cs) (items_from 1 0 cs)).1 (omega (arith, short_text cs s), omega (arith, length-map (items_from 1 0 cs) (λ (x : PlacedChange). x.change), ap length (items_changes 1 0 cs)), lines_of_changes cs s 1 0),
  items_changes 1 0 cs,
)
