-- What it means that a sheet is read.
use Rattle.std.specs.Prelude.{◌≡◌, ℕ, ◌≤◌, true, ◌⊎◌, ◌↔◌, List, [], ◌∷◌, length, Ok}
use Rattle.text.specs.Split.{Told, lines, is_skipped_line}
use Rattle.rules.specs.ChangeLines.{change_line, Small}
use Rattle.sheet.specs.declared.changes.PlacedChange.{PlacedChange}
use Rattle.sheet.specs.Sheets.{sheet_of}

-- The line is that of the change, which has its place.
pub record LineOf (l : Told) (item : PlacedChange) : Type 0 where
  pub text : l.text ≡ change_line item.change
  pub small : Small item.change
  pub place : item.place ≡ l.place

-- The lines that are not skipped are those of the changes, in order.
abbrev pub LinesOf : List Told → List PlacedChange → Type 0
LinesOf [] items = items ≡ []
LinesOf (l ∷ ls) items =
    ((is_skipped_line l.text ≡ true) × LinesOf ls items) ⊎ ((item : PlacedChange) × (rest : List PlacedChange) × (items ≡ item ∷ rest) × LineOf l item × LinesOf ls rest)

-- A sheet is read, with these changes, exactly if it has at most 4,096 bytes and the lines that are not skipped are those
-- of the changes, of which there are at most 64.
abbrev pub ReadExactly : Type 0
ReadExactly = (bs : List ℕ) (items : List PlacedChange) →
    (sheet_of bs ≡ Ok items) ↔ ((length bs ≤ 4096) × (length items ≤ 64) × LinesOf (lines bs) items)
