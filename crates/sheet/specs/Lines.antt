-- The five forms of a line, and the change that a line asks for.
use Rattle.std.specs.Prelude.{ℕ, cond, List, [], ◌∷◌, Ok, Err, codes, Option, option_map, Result}
use Rattle.std.specs.Option.{ok_or}
use Rattle.std.specs.Str.{bytes_eq}
use Rattle.text.specs.declared.parts.Place.{Place}
use Rattle.text.specs.Split.{Told, told, words}
use Rattle.text.specs.Numbers.{number_of}
use Rattle.rules.specs.declared.change.Arc.{Arc as AnArc}
use Rattle.rules.specs.declared.change.Change.{Change}
use Rattle.rules.specs.declared.change.Change.TheVariants as change
use Rattle.sheet_faults.specs.declared.WordFault.{WordFault}
use Rattle.sheet_faults.specs.declared.WordFault.TheVariants.{UnknownKeyword, NotANumber}
use Rattle.sheet_faults.specs.declared.LineFault.{LineFault}
use Rattle.sheet_faults.specs.declared.LineFault.TheVariants.{WordCount}
use Rattle.sheet.specs.declared.line.Keyword.{Keyword}
use Rattle.sheet.specs.declared.line.Keyword.TheVariants as keyword
use Rattle.sheet.specs.declared.line.Line.{Line}
use Rattle.sheet.specs.declared.line.Line.TheVariants as line
use Rattle.text.specs.Outcomes.{over, and_then}
use Rattle.text.specs.Counted.{one_of, two_of, three_of}
use Rattle.sheet_faults.specs.Faults.{in_line}

-- A line in plain values: its form, and its words behind the first.
pub data ToldLine : Type 0 where
  stage : Told → Told → ToldLine
  dropped : Told → ToldLine
  arc : Told → Told → Told → ToldLine
  cut : Told → Told → Told → ToldLine
  mark : Told → Told → ToldLine

-- What a `Line` tells.
abbrev pub told_line : Line → ToldLine
told_line (line.Stage n m) = stage (told n) (told m)
told_line (line.Drop n) = dropped (told n)
told_line (line.Arc m e n) = arc (told m) (told e) (told n)
told_line (line.Cut m e n) = cut (told m) (told e) (told n)
told_line (line.Mark n m) = mark (told n) (told m)

-- The keyword that a word is; 12 for any other word.
abbrev pub keyword_of : Told → Result Keyword WordFault
keyword_of w =
    cond (bytes_eq w.text (codes "stage")) (Ok keyword.Stage)
    (cond (bytes_eq w.text (codes "drop")) (Ok keyword.Drop)
    (cond (bytes_eq w.text (codes "arc")) (Ok keyword.Arc)
    (cond (bytes_eq w.text (codes "cut")) (Ok keyword.Cut)
    (cond (bytes_eq w.text (codes "mark")) (Ok keyword.Mark) (Err (UnknownKeyword w.place))))))

-- The form that a keyword gives a line, from the words behind it; absent for a wrong count of words.
abbrev pub form_of : List Told → Keyword → Option ToldLine
form_of ws keyword.Stage = option_map (λ w. stage w.0 w.1) (two_of ws)
form_of ws keyword.Drop = option_map dropped (one_of ws)
form_of ws keyword.Arc = option_map (λ w. arc w.0 w.1 w.2) (three_of ws)
form_of ws keyword.Cut = option_map (λ w. cut w.0 w.1 w.2) (three_of ws)
form_of ws keyword.Mark = option_map (λ w. mark w.0 w.1) (two_of ws)

-- A line's form from its words, of which there is always a first one: 12 for that, and then 13.
abbrev pub from_words : Place → List Told → Result ToldLine LineFault
from_words p [] = Err (WordCount p)
from_words p (h ∷ ws) = and_then (in_line (keyword_of h)) (λ k. ok_or (form_of ws k) (WordCount p))

-- The form of a line: first 12, then 13.
abbrev pub line_of : Told → Result ToldLine LineFault
line_of l = from_words l.place (words l)

-- The number that a word is; 14 for any other word.
abbrev pub number_of_word : Told → Result ℕ WordFault
number_of_word w = ok_or (number_of w.text) (NotANumber w.place)

-- The numbers that two words are; the first word that is none is the fault.
abbrev pub two_numbers_of : Told → Told → Result (ℕ × ℕ) WordFault
two_numbers_of v w = and_then (number_of_word v) (λ x. over (λ y. (x, y)) (number_of_word w))

-- The arc that three words give; the first word that is no number is the fault.
abbrev pub arc_of : Told → Told → Told → Result AnArc WordFault
arc_of u v w = and_then (number_of_word u) (λ m. over (λ x. record { from = m; label = x.0; to = x.1 }) (two_numbers_of v w))

-- The change with the numbers that the line's words are.
abbrev pub numbered : ToldLine → Result Change WordFault
numbered (stage n m) = over (λ x. change.Stage x.0 x.1) (two_numbers_of n m)
numbered (dropped n) = over change.Drop (number_of_word n)
numbered (arc m e n) = over change.Arc (arc_of m e n)
numbered (cut m e n) = over change.Cut (arc_of m e n)
numbered (mark n m) = over (λ x. change.Mark x.0 x.1) (two_numbers_of n m)

-- The change that a line of this form asks for.
abbrev pub change_of : ToldLine → Result Change LineFault
change_of l = in_line (numbered l)
