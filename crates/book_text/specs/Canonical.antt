-- The canonical changes and the canonical text of a rule book.
use Rattle.std.specs.Prelude.{◌≡◌, ℕ, zero, suc, ◌<◌, ◌≤◌, true, cond, ◌⊎◌, ◌↔◌, List, [], ◌∷◌, ◌++◌, map, codes, decimal, ◌==◌}
use Rattle.rules.specs.declared.change.Arc.{Arc as AnArc}
use Rattle.rules.specs.declared.change.Change.{Change}
use Rattle.rules.specs.declared.change.Change.TheVariants.{Stage, Arc, Mark}
use Rattle.rules.specs.Rules.{Rules, Alike, WellFormed, fresh}
use Rattle.rules.specs.Changes.{Leads}
use Rattle.rules.specs.ChangeLines.{change_line}
use Rattle.rules.specs.Counts.{Among}
use Rattle.rules.specs.Listing.{each_below}

-- The change that makes a stage as it is, if it is live. Stage 0 is live in every book, so it is given its mark only.
abbrev pub stage_change : Rules → ℕ → List Change
stage_change b n = cond (n == 0) (Mark 0 (b.mark 0) ∷ []) (cond (b.live n) (Stage n (b.mark n) ∷ []) [])

-- All the live stages in ascending order.
abbrev pub stage_changes : Rules → List Change
stage_changes b = each_below 256 (stage_change b)

-- One arc stands before another: its from stage is smaller, or that is equal and its label is smaller, or both are equal
-- and its to stage is smaller.
abbrev pub ArcBefore : AnArc → AnArc → Type 0
ArcBefore x y = (x.from < y.from) ⊎ ((x.from ≡ y.from) × ((x.label < y.label) ⊎ ((x.label ≡ y.label) × (x.to < y.to))))

-- Each arc stands before all that follow.
abbrev pub Ascending : List AnArc → Type 0
Ascending [] = Unit {0}
Ascending (x ∷ xs) = ((y : AnArc) → Among y xs → ArcBefore x y) × Ascending xs

-- All the arcs of the book, in ascending order.
pub record ArcsInOrder (b : Rules) (arcs : List AnArc) : Type 0 where
  pub ascending : Ascending arcs
  pub exactly : (x : AnArc) → Among x arcs ↔ (b.arc x.from x.label x.to ≡ true)

-- The canonical changes of a book: its live stages in ascending order, and then its arcs in ascending order.
pub record CanonicalChanges (b : Rules) (changes : List Change) : Type 0 where
  pub arcs : List AnArc
  pub in_order : ArcsInOrder b arcs
  pub are : changes ≡ stage_changes b ++ map Arc arcs

-- The line of a change with the byte 10 that ends it.
abbrev pub line_text : Change → List ℕ
line_text ch = change_line ch ++ (10 ∷ [])

-- The lines of changes in sheets of at most 64 changes, of which the first has room for so many. A line `end` stands
-- after each sheet.
unfoldable pub in_sheets : ℕ → List Change → List ℕ
in_sheets room [] = codes "end\n"
in_sheets zero (ch ∷ chs) = codes "end\n" ++ (line_text ch ++ in_sheets 63 chs)
in_sheets (suc room) (ch ∷ chs) = line_text ch ++ in_sheets room chs

-- The text of so many events and of changes: the number of events on the first line, and then the sheets.
abbrev pub text_of : ℕ → List Change → List ℕ
text_of events changes = decimal events ++ (10 ∷ in_sheets 64 changes)

-- The canonical text of a book.
pub record CanonicalText (b : Rules) (text : List ℕ) : Type 0 where
  pub changes : List Change
  pub canonical : CanonicalChanges b changes
  pub is : text ≡ text_of b.events changes

-- What the canonical text is good for.
pub record CanonicalLaws : Type 0 where
  -- A fresh book of any width above the live stages takes the canonical changes of a book, and is then alike.
  pub rebuilds : (W : ℕ) (b : Rules) (changes : List Change) → W ≤ 256 → WellFormed W b → CanonicalChanges b changes →
      (after : Rules) × Leads W changes (fresh b.events) after × Alike b after
  -- Books that are alike have one canonical text.
  pub one : (W : ℕ) (a b : Rules) (x y : List ℕ) → WellFormed W a → Alike a b → CanonicalText a x → CanonicalText b y → x ≡ y
