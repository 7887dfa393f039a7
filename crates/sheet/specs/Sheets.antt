-- The changes that a sheet asks for.
use Rattle.std.specs.Prelude.{ℕ, cond, List, [], ◌∷◌, ◌++◌, length, take, Ok, Err, Result, nat_lt}
use Rattle.text.specs.Split.{Told, lines, is_skipped_line}
use Rattle.sheet_faults.specs.declared.LineFault.{LineFault}
use Rattle.sheet_faults.specs.declared.LineFault.TheVariants.{TooManyChanges}
use Rattle.sheet_faults.specs.declared.SheetFault.{SheetFault}
use Rattle.sheet_faults.specs.declared.SheetFault.TheVariants.{TooLong}
use Rattle.sheet.specs.declared.changes.PlacedChange.{PlacedChange}
use Rattle.sheet.specs.declared.changes.Changes.{Changes}
use Rattle.text.specs.Outcomes.{over, and_then}
use Rattle.sheet_faults.specs.Faults.{in_sheet}
use Rattle.sheet.specs.Lines.{line_of, change_of}

-- The changes that a `Changes` holds, in order.
abbrev pub items_of : Changes → List PlacedChange
items_of c = take c.count c.items

-- The change that a line asks for, with the place of the line: first 12, then 13, then 14.
abbrev pub placed_of : Told → Result PlacedChange LineFault
placed_of l = and_then (line_of l) (λ form. over (λ ch. record { change = ch; place = l.place }) (change_of form))

-- The changes with one more behind them; 15 if there are 64 already.
abbrev pub pushed : List PlacedChange → PlacedChange → Result (List PlacedChange) LineFault
pushed done ch = cond (nat_lt (length done) 64) (Ok (done ++ ch ∷ [])) (Err (TooManyChanges ch.place))

-- The changes that were read before, with those of these lines; or the first fault.
abbrev pub sheet_from : List PlacedChange → List Told → Result (List PlacedChange) LineFault
sheet_from done [] = Ok done
sheet_from done (l ∷ ls) =
    cond (is_skipped_line l.text) (sheet_from done ls)
    (and_then (placed_of l) (λ ch. and_then (pushed done ch) (λ more. sheet_from more ls)))

-- The changes of a sheet: 11 if it has more than 4,096 bytes, and else line by line.
abbrev pub sheet_of : List ℕ → Result (List PlacedChange) SheetFault
sheet_of bs = cond (nat_lt 4096 (length bs)) (Err TooLong) (in_sheet (sheet_from [] (lines bs)))
