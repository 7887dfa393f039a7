-- What a sheet makes of a rule book.
use Rattle.std.specs.Prelude.{◌≡◌, ℕ, List, [], ◌∷◌, length, Some, None, Ok, Err, Option, Result}
use Rattle.text.specs.declared.parts.Place.{Place}
use Rattle.rules.specs.declared.change.BookFault.{BookFault}
use Rattle.rules.specs.Rules.{Rules}
use Rattle.rules.specs.Changes.{changed, first_fault}
use Rattle.book.specs.declared.record.Book.{Book}
use Rattle.book.specs.Records.{rules_of}
use Rattle.sheet.specs.declared.changes.PlacedChange.{PlacedChange}
use Rattle.sheet_faults.specs.declared.Declined.{Declined}
use Rattle.sheet_faults.specs.declared.SheetFault.{SheetFault}
use Rattle.sheet_faults.specs.declared.SheetFault.TheVariants.{Book as InBook}
use Rattle.text.specs.Outcomes.{over, and_then}
use Rattle.sheet.specs.Sheets.{sheet_of}

-- The result, unless the book declines the change at this place.
abbrev pub unless : {A : Type 0} → Option BookFault → Place → Result A Declined → Result A Declined
unless None p r = r
unless (Some f) p r = Err (record { fault = f; place = p })

-- The book of width W after changes in order, each checked against the book as the earlier ones left it; or the first
-- that is declined.
abbrev pub applied : ℕ → Rules → List PlacedChange → Result Rules Declined
applied W b [] = Ok b
applied W b (x ∷ xs) = unless (first_fault W b x.change) x.place (applied W (changed b x.change) xs)

-- A result whose fault is the book's, taken for one of the sheet.
abbrev pub in_book : {A : Type 0} → Result A Declined → Result A SheetFault
in_book (Ok x) = Ok x
in_book (Err d) = Err (InBook d)

-- What a sheet makes of a book: the whole sheet is read first, and then its changes are made. How many there are, and
-- the book after them; or the first fault.
abbrev pub sheet_applied : ℕ → Rules → List ℕ → Result (ℕ × Rules) SheetFault
sheet_applied W b bytes = and_then (sheet_of bytes) (λ items. over (λ after. (length items, after)) (in_book (applied W b items)))

-- The book record is changed by the whole sheet, or it is as it was.
abbrev pub SheetPost : ℕ → Book → List ℕ → Result ℕ SheetFault → Book → Type 0
SheetPost W before bytes (Ok n) after = sheet_applied W (rules_of before) bytes ≡ Ok (n, rules_of after)
SheetPost W before bytes (Err f) after = (sheet_applied W (rules_of before) bytes ≡ Err f) × (after ≡ before)
