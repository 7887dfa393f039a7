use Rattle.std.proofs.Common.{◌≡◌, ◌++◌, string_bytes}
use Rattle.book_text.proofs.Sheets.{sheets_left}
use Rattle.book_text.proofs.writing.written.Given as goal

-- what is written, with the sheets that are left, is the whole
abbrev pub invariant-loop-sheet : goal.invariant-loop-sheet
invariant-loop-sheet l = record {
  size : l.sheet-iterator.size ≡ 64;
  text : string_bytes l.text ++ sheets_left l.sheet-iterator.rest.now ≡ string_bytes l.initial.text ++ sheets_left l.initial.sheet-iterator.rest.now;
}
