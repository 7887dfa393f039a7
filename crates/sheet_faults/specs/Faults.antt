-- The number, the layer and the place of each fault of a sheet.
use Rattle.std.specs.Prelude.{ℕ, List, ◌∷◌, ◌++◌, Ok, Err, decimal, Result}
use Rattle.text.specs.declared.parts.Place.{Place}
use Rattle.rules.specs.Changes.{fault_number}
use Rattle.sheet_faults.specs.declared.Layer.{Layer}
use Rattle.sheet_faults.specs.declared.Layer.TheVariants as layer
use Rattle.sheet_faults.specs.declared.WordFault.{WordFault}
use Rattle.sheet_faults.specs.declared.WordFault.TheVariants.{UnknownKeyword, NotANumber}
use Rattle.sheet_faults.specs.declared.LineFault.{LineFault}
use Rattle.sheet_faults.specs.declared.LineFault.TheVariants.{Word, WordCount, TooManyChanges}
use Rattle.sheet_faults.specs.declared.Declined.{Declined}
use Rattle.sheet_faults.specs.declared.SheetFault.{SheetFault}
use Rattle.sheet_faults.specs.declared.SheetFault.TheVariants.{TooLong, Line, Book}

-- 12: the first word is none of the five; 14: a word is no number word. Both have the place of the word.
abbrev pub word_number : WordFault → ℕ
word_number (UnknownKeyword p) = 12
word_number (NotANumber p) = 14

abbrev pub word_place : WordFault → Place
word_place (UnknownKeyword p) = p
word_place (NotANumber p) = p

-- 13: a wrong count of words; 15: a 65th change. Both have the place of the line.
abbrev pub line_number : LineFault → ℕ
line_number (Word w) = word_number w
line_number (WordCount p) = 13
line_number (TooManyChanges p) = 15

abbrev pub line_place : LineFault → Place
line_place (Word w) = word_place w
line_place (WordCount p) = p
line_place (TooManyChanges p) = p

-- 21 to 28: the rule book declines a change, with the place of its line.
abbrev pub declined_number : Declined → ℕ
declined_number d = fault_number d.fault

abbrev pub declined_place : Declined → Place
declined_place d = d.place

-- 11: the sheet is too long, which has no line of its own.
abbrev pub sheet_number : SheetFault → ℕ
sheet_number TooLong = 11
sheet_number (Line l) = line_number l
sheet_number (Book d) = declined_number d

-- The number by which each layer is told.
abbrev pub layer_number : Layer → ℕ
layer_number layer.Text = 1
layer_number layer.Book = 2

-- The text's faults are of one layer, and the book's of another.
abbrev pub sheet_layer : SheetFault → Layer
sheet_layer TooLong = layer.Text
sheet_layer (Line l) = layer.Text
sheet_layer (Book d) = layer.Book

abbrev pub sheet_place : SheetFault → Place
sheet_place TooLong = record { line = 0; offset = 0 }
sheet_place (Line l) = line_place l
sheet_place (Book d) = declined_place d

-- What is written of a fault: its number, and the line and the offset of its place, with a space between each two.
abbrev pub fault_words : SheetFault → List ℕ
fault_words f = decimal (sheet_number f) ++ (32 ∷ (decimal (sheet_place f).line ++ (32 ∷ decimal (sheet_place f).offset)))

-- A result whose fault is a word's, taken for one of the line.
abbrev pub in_line : {A : Type 0} → Result A WordFault → Result A LineFault
in_line (Ok x) = Ok x
in_line (Err w) = Err (Word w)

-- A result whose fault is a line's, taken for one of the sheet.
abbrev pub in_sheet : {A : Type 0} → Result A LineFault → Result A SheetFault
in_sheet (Ok x) = Ok x
in_sheet (Err l) = Err (Line l)
