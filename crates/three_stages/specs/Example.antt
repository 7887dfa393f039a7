-- A book of three stages, and what updates of it give.
use Rattle.std.specs.Prelude.{◌≡◌, ℕ, ◌≤◌, Bool, false, ◌&&◌, ◌||◌, List, [], ◌∷◌, length, ◌==◌}
use Rattle.rules.specs.Rules.{Rules, WellFormed}
use Rattle.rules.specs.Counts.{Counts}
use Rattle.rules.specs.Paths.{Stages, R, Holds, Word}
use Rattle.rules.specs.Image.{Image}
use Rattle.rules.specs.Report.{Reached, Tally, Reported}

-- Whether a stage is listed: the set of the listed stages.
abbrev pub has_stage : List ℕ → ℕ → Bool
has_stage [] n = false
has_stage (m ∷ ms) n = m == n || has_stage ms n

-- Whether an arc (from, label, to) is listed.
abbrev pub has_arc : List (ℕ × ℕ × ℕ) → ℕ → ℕ → ℕ → Bool
has_arc [] m e n = false
has_arc (a ∷ more) m e n = (a.0 == m && (a.1 == e && a.2 == n)) || has_arc more m e n

-- The book with E events, the listed live stages, all with mark 0, and the listed arcs.
abbrev pub book_of : ℕ → List ℕ → List (ℕ × ℕ × ℕ) → Rules
book_of E stages arcs = record { events = E; live = has_stage stages; mark = λ n. 0; arc = has_arc arcs }

-- A book with events 1 and 2, the stages 0, 1 and 2, and the listed arcs.
abbrev pub three_stage_rules : List (ℕ × ℕ × ℕ) → Rules
three_stage_rules arcs = book_of 2 (0 ∷ 1 ∷ 2 ∷ []) arcs

-- The example: by event 1 from stage 0 to stages 1 and 2, by event 2 from both to stage 2.
abbrev pub example_book : Rules
example_book = three_stage_rules ((0, 1, 1) ∷ (0, 1, 2) ∷ (1, 2, 2) ∷ (2, 2, 2) ∷ [])

-- The set S is reached by a list of length d and by none shorter.
pub record AtDistance (rules : Rules) (S : Stages) (d : ℕ) : Type 0 where
  pub near : (w : List ℕ) × Word rules w × Holds S (R rules w) × (length w ≡ d)
  pub nearest : (w : List ℕ) → Word rules w → Holds S (R rules w) → d ≤ length w

-- The sets kept, born and retired, the pairs named and turned.
abbrev pub tally_of : ℕ → ℕ → ℕ → ℕ → ℕ → Tally
tally_of k b r n t = record { kept = k; born = b; retired = r; named = n; turned = t }

-- What is true of the example book and of its updates.
pub record ThreeStageCases : Type 0 where
  -- The book is well formed, for the greatest width and for a smaller one.
  pub formed : WellFormed 256 example_book
  pub formed_64 : WellFormed 64 example_book
  -- Three sets are reached: {0} at once, {1, 2} by one event, {2} by two.
  pub sets : Counts Stages (Reached example_book) 3
  pub set_0 : AtDistance example_book (has_stage (0 ∷ [])) 0
  pub set_1_2 : AtDistance example_book (has_stage (1 ∷ 2 ∷ [])) 1
  pub set_2 : AtDistance example_book (has_stage (2 ∷ [])) 2
  -- Its image, and that of the fresh book with one event.
  pub image : Image example_book
      (0x12 ∷ 0x02 ∷ 0x00 ∷ 0x28 ∷ 0x88 ∷ 0x90 ∷ 0x01 ∷ 0x00 ∷ 0x03 ∷ 0x00 ∷ 0x04 ∷ 0x00 ∷ 0x88 ∷ 0x00 ∷ 0x20 ∷ 0x04 ∷ [])
  pub fresh_image : Image (book_of 1 (0 ∷ []) []) (0x11 ∷ 0x00 ∷ 0x00 ∷ 0x08 ∷ 0x80 ∷ 0x00 ∷ [])
  -- The arc (0, 1, 2) is cut: {1} is born, {1, 2} retired, and the pair of {0} and 1 is named and turned.
  pub one_cut : Reported example_book (three_stage_rules ((0, 1, 1) ∷ (1, 2, 2) ∷ (2, 2, 2) ∷ [])) (tally_of 2 1 1 1 1)
  -- A silent arc leads from 0 to 2: {0, 2} is born and {0} retired; no kept set and event is named.
  pub silent_from_0 : Reported example_book (three_stage_rules ((0, 0, 2) ∷ (0, 1, 1) ∷ (0, 1, 2) ∷ (1, 2, 2) ∷ (2, 2, 2) ∷ [])) (tally_of 2 1 1 0 0)
  -- A silent arc leads from 1 to 2: the pair of {0} and 1 is named, since 1 is in its exit, and is not turned.
  pub silent_from_1 : Reported example_book (three_stage_rules ((1, 0, 2) ∷ (0, 1, 1) ∷ (0, 1, 2) ∷ (1, 2, 2) ∷ (2, 2, 2) ∷ [])) (tally_of 3 0 0 1 0)
  -- A silent arc leads from 2 to 1: {2} is retired. The pairs of {0} and 1 and of {1, 2} and 2 are named, since 2 is in their exits,
  -- and only the second is turned.
  pub silent_from_2 : Reported example_book (three_stage_rules ((2, 0, 1) ∷ (0, 1, 1) ∷ (0, 1, 2) ∷ (1, 2, 2) ∷ (2, 2, 2) ∷ [])) (tally_of 2 0 1 2 1)
  -- The arc (0, 1, 2) is cut and a silent arc leads from 1 to 2. Both name the pair of {0} and 1, which counts once and is not turned.
  pub named_twice : Reported example_book (three_stage_rules ((1, 0, 2) ∷ (0, 1, 1) ∷ (1, 2, 2) ∷ (2, 2, 2) ∷ [])) (tally_of 3 0 0 1 0)
  -- Both arcs from 0 are cut: only {0} is kept, and its pair with 1 is named and turned.
  pub both_cuts : Reported example_book (three_stage_rules ((1, 2, 2) ∷ (2, 2, 2) ∷ [])) (tally_of 1 0 2 1 1)
  -- Nothing is altered.
  pub nothing : Reported example_book example_book (tally_of 3 0 0 0 0)
