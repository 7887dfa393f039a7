-- The image of a rule book, bit by bit, and as bytes.
use Rattle.std.specs.Prelude.{◌≡◌, ℕ, zero, suc, ◌+◌, ◌-◌, ◌*◌, ◌/◌, ◌%◌, ◌^◌, ◌<◌, ◌≤◌, Bool, true, false, cond, ◌↔◌, List, [], ◌∷◌, ◌++◌, map, length, Some, None, Option, ◌==◌, slice_index_or}
use Rattle.std.specs.List.{range_with_len}
use Rattle.rules.specs.Rules.{Rules, WellFormed}
use Rattle.rules.specs.Listing.{each_below}
use Rattle.rules.specs.Table.{Table}
use Rattle.rules.specs.Order.{TellsSame}
use Rattle.rules.specs.Turn.{InOrder, InTurn}

-- A number in so many bits, the most significant first.
abbrev pub field : ℕ → ℕ → List Bool
field zero n = []
field (suc k) n = (n / 2 ^ k % 2 == 1) ∷ field k n

-- The header: version 1, the number of events, the highest live stage, the number of rows less 1.
abbrev pub header_bits : ℕ → ℕ → ℕ → List Bool
header_bits E top N = field 4 1 ++ (field 4 E ++ (field 8 top ++ field 12 (N - 1)))

-- A stage: whether it is live, and its mark, 0 if it is not live.
abbrev pub stage_bits : Rules → ℕ → List Bool
stage_bits rules n = rules.live n ∷ field 3 (cond (rules.live n) (rules.mark n) 0)

-- An exit: 0 if there is none, or else a bit 1 and the place of its row.
abbrev pub exit_bits : Option ℕ → List Bool
exit_bits None = field 13 0
exit_bits (Some place) = true ∷ field 12 place

-- A row: a bit for each stage up to the highest live one, then the exit by each event.
abbrev pub row_bits : Rules → ℕ → Table → ℕ → List Bool
row_bits rules top t r = each_below (suc top) (λ n. t.set r n ∷ []) ++ each_below rules.events (λ k. exit_bits (t.exit r (suc k)))

-- The whole image: the header, the stages, the rows.
abbrev pub image_bits : Rules → ℕ → ℕ → Table → List Bool
image_bits rules top N t = header_bits rules.events top N ++ (each_below (suc top) (stage_bits rules) ++ each_below N (row_bits rules top t))

-- The bit at a place; past the end it is 0.
abbrev pub digit : List Bool → ℕ → ℕ
digit bits i = cond (slice_index_or bits i false) 1 0

-- Byte k: bits 8 k to 8 k + 7, the most significant first.
abbrev pub byte : List Bool → ℕ → ℕ
byte bits k = 128 * digit bits (8 * k) + 64 * digit bits (8 * k + 1) + 32 * digit bits (8 * k + 2) + 16 * digit bits (8 * k + 3)
    + 8 * digit bits (8 * k + 4) + 4 * digit bits (8 * k + 5) + 2 * digit bits (8 * k + 6) + digit bits (8 * k + 7)

-- The bits packed into as few bytes as hold them.
abbrev pub bytes : List Bool → List ℕ
bytes bits = map (byte bits) (range_with_len 0 ((length bits + 7) / 8))

-- The highest live stage.
pub record Highest (rules : Rules) (top : ℕ) : Type 0 where
  pub is_live : rules.live top ≡ true
  pub last : (n : ℕ) → rules.live n ≡ true → n ≤ top

-- The bytes are the image of the book: its rows, put in the order of their first lists, give these bits.
pub record Image (rules : Rules) (image : List ℕ) : Type 0 where
  pub top : ℕ
  pub count : ℕ
  pub by_place : Table
  pub words : List (List ℕ)
  pub few : count ≤ 4096
  pub highest : Highest rules top
  pub in_order : InOrder rules by_place count words
  pub is : image ≡ bytes (image_bits rules top count by_place)

-- Where the bits of the image stand: stage n at 28 + 4 n; with M stages and rows of M + 13 E bits, row r after the stages,
-- its exit by event k + 1 after its M bits.
pub record BitPlaces (rules : Rules) (top N : ℕ) (t : Table) : Type 0 where
  pub size : length (image_bits rules top N t) ≡ 28 + (suc top * 4 + N * (suc top + rules.events * 13))
  pub header : (i : ℕ) → i < 28 → slice_index_or (image_bits rules top N t) i false ≡ slice_index_or (header_bits rules.events top N) i false
  pub stage : (n i : ℕ) → n ≤ top → i < 4 → slice_index_or (image_bits rules top N t) (28 + (n * 4 + i)) false ≡ slice_index_or (stage_bits rules n) i false
  pub member : (r n : ℕ) → r < N → n ≤ top →
      slice_index_or (image_bits rules top N t) (28 + (suc top * 4 + (r * (suc top + rules.events * 13) + n))) false ≡ t.set r n
  pub exit_at : (r k i : ℕ) → r < N → k < rules.events → i < 13 →
      slice_index_or (image_bits rules top N t) (28 + (suc top * 4 + (r * (suc top + rules.events * 13) + (suc top + (k * 13 + i))))) false
      ≡ slice_index_or (exit_bits (t.exit r (suc k))) i false

-- The theorems on images.
pub record ImageLaws : Type 0 where
  -- Books that tell the same have the same image.
  pub one_image : (a b : Rules) (x y : List ℕ) → TellsSame a b → Image a x → Image b y → x ≡ y
  -- Rows that stand in turn make the image.
  pub turn_image : (rules : Rules) (t : Table) (top N : ℕ) (from by : ℕ → ℕ) → N ≤ 4096 → Highest rules top → InTurn rules t N from by →
      Image rules (bytes (image_bits rules top N t))
  -- The images of two well-formed books, perhaps of different widths, are equal exactly if the books tell the same.
  pub equal_images : (V W : ℕ) (a b : Rules) (x y : List ℕ) → V ≤ 256 → W ≤ 256 → WellFormed V a → WellFormed W b → Image a x → Image b y →
      (x ≡ y) ↔ TellsSame a b
  -- The bits of every image stand at these places.
  pub bit_places : (rules : Rules) (top N : ℕ) (t : Table) → BitPlaces rules top N t
  -- Bit j of byte k, the most significant first, is bit 8 k + j.
  pub byte_digits : (bits : List Bool) (k j : ℕ) → j < 8 → byte bits k / 2 ^ (7 - j) % 2 ≡ digit bits (8 * k + j)
