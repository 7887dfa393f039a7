-- The text of a season: the number of events, and sheets.
use Rattle.std.specs.Prelude.{ℕ, cond, ◌&&◌, List, [], ◌∷◌, ◌++◌, map, Some, None, codes, Option, nat_le}
use Rattle.std.specs.Str.{bytes_eq}
use Rattle.text.specs.Split.{Told, lines}
use Rattle.text.specs.Numbers.{number_of}
use Rattle.season_text.specs.declared.sheets.Sheets.{Sheets}

-- The lines of a text without their places.
abbrev pub line_texts : List ℕ → List (List ℕ)
line_texts bs = map (λ l. l.text) (lines bs)

-- A number of events, which is from 1 to 15.
abbrev pub ranged : Option ℕ → Option ℕ
ranged None = None
ranged (Some n) = cond (nat_le 1 n && nat_le n 15) (Some n) None

-- The number of events that the first line gives.
abbrev pub events_of : List (List ℕ) → Option ℕ
events_of [] = None
events_of (l ∷ ls) = ranged (number_of l)

-- The sheets that lines make, of which some lines are read already: each sheet has the lines before a line `end`, every
-- one with its byte 10. Lines that no line `end` follows make no sheet.
abbrev pub sheets_from : List ℕ → List (List ℕ) → List (List ℕ)
sheets_from read [] = []
sheets_from read (l ∷ ls) = cond (bytes_eq l (codes "end")) (read ∷ sheets_from [] ls) (sheets_from (read ++ (l ++ (10 ∷ []))) ls)

-- The sheets that all the lines of a text make.
abbrev pub sheets_in : List ℕ → List (List ℕ)
sheets_in bs = sheets_from [] (line_texts bs)

-- All but the first.
abbrev pub others : List (List ℕ) → List (List ℕ)
others [] = []
others (l ∷ ls) = ls

-- The sheets of a season's text.
abbrev pub sheets_of : List ℕ → List (List ℕ)
sheets_of bs = sheets_from [] (others (line_texts bs))

-- The offset of the first line `end`.
abbrev pub end_at : List Told → Option ℕ
end_at [] = None
end_at (l ∷ ls) = cond (bytes_eq l.text (codes "end")) (Some l.place.offset) (end_at ls)

-- What a `Sheets` has still to give.
abbrev pub left : Sheets → List (List ℕ)
left s = sheets_in s.rest.now
