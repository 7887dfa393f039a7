-- A book's canonical text, read again as a season.
use Rattle.std.specs.Prelude.{◌≡◌, ℕ, ◌≤◌, List, [], ◌∷◌, Some, Ok}
use Rattle.rules.specs.Rules.{Rules, Alike, WellFormed, fresh}
use Rattle.book_update.specs.Updates.{sheet_applied}
use Rattle.book_text.specs.Canonical.{CanonicalText}
use Rattle.season_text.specs.Seasons.{line_texts, events_of, sheets_of}

-- All the sheets are accepted, one after the other, by a book of width W, and lead from one book to the other.
abbrev pub Accepted : ℕ → Rules → List (List ℕ) → Rules → Type 0
Accepted W b [] after = b ≡ after
Accepted W b (s ∷ ss) after = (n : ℕ) × (next : Rules) × (sheet_applied W b s ≡ Ok (n, next)) × Accepted W next ss after

-- The canonical text of a well-formed book is the text of a season with as many events, all of whose sheets are accepted
-- and make a book alike of a fresh one.
abbrev pub ReadsBack : Type 0
ReadsBack = (W : ℕ) (b : Rules) (text : List ℕ) → W ≤ 256 → WellFormed W b → CanonicalText b text →
    (events_of (line_texts text) ≡ Some b.events) × ((after : Rules) × Accepted W (fresh b.events) (sheets_of text) after × Alike b after)
