use Rattle.std.proofs.Common.{◌≡◌, []}
use Rattle.text.specs.Split.{lines, left}
use Rattle.sheet.specs.Sheets.{items_of, sheet_from}
use Rattle.sheet.proofs.reading.read_lines.Given as goal

-- what is read, and then the lines that are left, give what all the lines give
abbrev pub invariant-loop-line : goal.invariant-loop-line
invariant-loop-line l = sheet_from (items_of l.changes) (left l.line-iterator) ≡ sheet_from [] (lines l.sheet)
