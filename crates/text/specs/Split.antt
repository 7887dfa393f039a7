-- The parts of a text between bytes of one value, each with its place.
use Rattle.std.specs.Prelude.{◌≡◌, ℕ, suc, ◌+◌, ◌-◌, ◌*◌, ◌<◌, ◌≤◌, Bool, true, cond, List, [], ◌∷◌, ◌++◌, length, take, drop, Some, None, Option, ◌==◌, ◌≢◌}
use Rattle.text.specs.declared.parts.Place.{Place}
use Rattle.text.specs.declared.parts.Part.{Part}
use Rattle.text.specs.declared.parts.Parts.{Parts}

-- A part in plain values: its bytes and its place.
pub record Told : Type 0 where
  pub text : List ℕ
  pub place : Place

-- What a `Part` tells.
abbrev pub told : Part → Told
told p = record { text = drop p.place.offset p.upto.now; place = p.place }

-- How many bytes stand before the first that is `by`.
abbrev pub part_length : ℕ → List ℕ → ℕ
part_length by [] = 0
part_length by (b ∷ bs) = cond (b == by) 0 (suc (part_length by bs))

-- An empty part at this place.
abbrev pub empty : ℕ → ℕ → Told
empty line at = record { text = []; place = record { line = line; offset = at } }

-- The parts with the byte b, which stands at this place, in front of the first of them.
abbrev pub before : ℕ → ℕ → ℕ → List Told → List Told
before line at b [] = []
before line at b (p ∷ ps) = record { text = b ∷ p.text; place = record { line = line; offset = at } } ∷ ps

-- The parts of a text that begins at this place: a byte `by` ends a part and takes the line on by `step`,
-- and any other byte belongs to its part. There is always a last part, which may be empty.
abbrev pub parts : ℕ → ℕ → ℕ → ℕ → List ℕ → List Told
parts by step line at [] = empty line at ∷ []
parts by step line at (b ∷ bs) = cond (b == by) (empty line at ∷ parts by step (line + step) (at + 1) bs) (before line at b (parts by step line (at + 1) bs))

-- The lines of a text: its parts between bytes 10, on lines 1, 2 and so on.
abbrev pub lines : List ℕ → List Told
lines bs = parts 10 1 1 0 bs

-- A line is skipped if it is empty or its first byte is 35, a #.
abbrev pub is_skipped_line : List ℕ → Bool
is_skipped_line [] = true
is_skipped_line (b ∷ bs) = b == 35

-- The words of a line: its parts between spaces, all on this line.
abbrev pub words : Told → List Told
words p = parts 32 0 p.place.line p.place.offset p.text

-- The parts of a text from a place on, or none without a place.
abbrev pub parts_from : ℕ → ℕ → List ℕ → Option Place → List Told
parts_from by step bs None = []
parts_from by step bs (Some p) = parts by step p.line p.offset (drop p.offset bs)

-- What a `Parts` has still to give.
abbrev pub left : Parts → List Told
left c = parts_from c.separator.byte c.separator.lines c.text.now c.next

-- The texts of the parts in order, with one byte `by` between each two.
abbrev pub joined : ℕ → List Told → List ℕ
joined by [] = []
joined by (p ∷ []) = p.text
joined by (p ∷ q ∷ ps) = p.text ++ (by ∷ joined by (q ∷ ps))

-- The byte `by` stands nowhere in the text.
abbrev pub Lacks : ℕ → List ℕ → Type 0
Lacks by [] = Unit {0}
Lacks by (b ∷ bs) = (b ≢ by) × Lacks by bs

-- No part has the byte `by`.
abbrev pub Free : ℕ → List Told → Type 0
Free by [] = Unit {0}
Free by (p ∷ ps) = Lacks by p.text × Free by ps

-- The parts are what stands between the bytes `by` of the text: there is at least one, joined by that byte they give
-- the text back, and none of them has it.
pub record Whole (by : ℕ) (bs : List ℕ) (ps : List Told) : Type 0 where
  pub some : 0 < length ps
  pub back : joined by ps ≡ bs
  pub free : Free by ps

-- How many bytes of the text are `by`.
abbrev pub count : ℕ → List ℕ → ℕ
count by [] = 0
count by (b ∷ bs) = cond (b == by) (suc (count by bs)) (count by bs)

-- Part k, from 0, of a text that begins at this line and offset: its bytes stand at its offset, behind k bytes `by`,
-- each of which takes the line on by `step`.
pub record Stands (by step line at : ℕ) (bs : List ℕ) (k : ℕ) (p : Told) : Type 0 where
  pub from : at ≤ p.place.offset
  pub there : take (length p.text) (drop (p.place.offset - at) bs) ≡ p.text
  pub behind : count by (take (p.place.offset - at) bs) ≡ k
  pub numbered : p.place.line ≡ line + step * k

-- These are the parts from k on, and each stands so.
abbrev pub Placed : ℕ → ℕ → ℕ → ℕ → List ℕ → ℕ → List Told → Type 0
Placed by step line at bs k [] = Unit {0}
Placed by step line at bs k (p ∷ ps) = Stands by step line at bs k p × Placed by step line at bs (suc k) ps
