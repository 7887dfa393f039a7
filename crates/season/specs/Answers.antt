-- What is answered to a season's text, and the rule book that its sheets leave.
use Rattle.std.specs.Prelude.{◌≡◌, ℕ, List, [], ◌∷◌, ◌++◌, Some, None, Ok, Err, codes, decimal, Option, Result}
use Rattle.rules.specs.Rules.{Rules, fresh}
use Rattle.sheet_faults.specs.declared.SheetFault.{SheetFault}
use Rattle.sheet_faults.specs.Faults.{fault_words}
use Rattle.book_update.specs.Updates.{sheet_applied}
use Rattle.book_text.specs.Canonical.{CanonicalText}
use Rattle.season_text.specs.Seasons.{line_texts, events_of, sheets_of}

-- The answer to a sheet that is refused: `no`, and the fault's number, line and offset.
abbrev pub fault_text : SheetFault → List ℕ
fault_text f = codes "no " ++ (fault_words f ++ (10 ∷ []))

-- The answer to a sheet, from what it makes of the book.
abbrev pub answer_text : Result (ℕ × Rules) SheetFault → List ℕ
answer_text (Ok x) = codes "ok " ++ (decimal x.0 ++ (10 ∷ []))
answer_text (Err f) = fault_text f

-- The book after a sheet: a sheet that is refused leaves it as it was.
abbrev pub book_after : Rules → Result (ℕ × Rules) SheetFault → Rules
book_after b (Ok x) = x.1
book_after b (Err f) = b

-- The book of width 256 that sheets leave, one after the other.
abbrev pub book_of : Rules → List (List ℕ) → Rules
book_of b [] = b
book_of b (s ∷ ss) = book_of (book_after b (sheet_applied 256 b s)) ss

-- The answers to sheets, one after the other.
abbrev pub answers_to : Rules → List (List ℕ) → List ℕ
answers_to b [] = []
answers_to b (s ∷ ss) = answer_text (sheet_applied 256 b s) ++ answers_to (book_after b (sheet_applied 256 b s)) ss

-- A sheet's answer is written behind a text, and the book is what the sheet leaves.
pub record SheetAnswered (before : List ℕ) (b : Rules) (sheet after : List ℕ) (next : Rules) : Type 0 where
  pub text : after ≡ before ++ answer_text (sheet_applied 256 b sheet)
  pub book : next ≡ book_after b (sheet_applied 256 b sheet)

-- The same of several sheets.
pub record Answered (before : List ℕ) (b : Rules) (sheets : List (List ℕ)) (after : List ℕ) (next : Rules) : Type 0 where
  pub text : after ≡ before ++ answers_to b sheets
  pub book : next ≡ book_of b sheets

-- The answer to sheets, begun with a book: a line for each sheet, a line `book`, and the canonical text of the book that
-- the sheets leave.
pub record Checked (b : Rules) (sheets : List (List ℕ)) (answer : List ℕ) : Type 0 where
  pub canonical : List ℕ
  pub is_canonical : CanonicalText (book_of b sheets) canonical
  pub is : answer ≡ answers_to b sheets ++ (codes "book\n" ++ canonical)

-- The answer to sheets and a number of events, which may be absent.
abbrev pub AnswerTo : Option ℕ → List (List ℕ) → List ℕ → Type 0
AnswerTo None sheets answer = answer ≡ codes "no 1 0 0\n"
AnswerTo (Some E) sheets answer = Checked (fresh E) sheets answer

-- The answer to a season's text.
abbrev pub Responds : List ℕ → List ℕ → Type 0
Responds input answer = AnswerTo (events_of (line_texts input)) (sheets_of input) answer
