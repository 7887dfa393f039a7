use Rattle.std.proofs.Common.{◌≡◌, ◌++◌, string_bytes}
use Rattle.book.specs.Records.{rules_of}
use Rattle.season_text.specs.Seasons.{sheets_of, left}
use Rattle.season.specs.Answers.{book_of, answers_to}
use Rattle.season.proofs.check_sheets.Given as goal

-- the sheets that are left lead to the same answers and the same book as all of them did at the beginning
abbrev pub invariant-loop-sheet : goal.invariant-loop-sheet
invariant-loop-sheet l =
    (string_bytes l.text ++ answers_to (rules_of l.book) (left l.sheet-iterator) ≡ string_bytes l.initial.text ++ answers_to (rules_of l.initial.book) (sheets_of l.input))
    × (book_of (rules_of l.book) (left l.sheet-iterator) ≡ book_of (rules_of l.initial.book) (sheets_of l.input))
