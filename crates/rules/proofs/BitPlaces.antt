-- Where the bits of an image stand.
use Rattle.std.proofs.Common.{◌≡◌, ℕ, zero, suc, ◌+◌, ◌-◌, ◌*◌, ◌/◌, ◌%◌, ◌^◌, ◌<◌, ◌≤◌, Bool, false, List, [], ◌∷◌, ◌++◌, length, get_or, sym, refl, ap, ◌∙◌, subst, ap₂, mul-one, arith, length-append, get_or-append-add}
use lib.ListN.{get_or-append}
use native.Mathlib.Decide.{dec_lt}
use Rattle.rules.specs.Rules.{Rules}
use Rattle.rules.specs.Table.{Table}
use Rattle.rules.specs.Image.{header_bits, stage_bits, exit_bits, row_bits, image_bits, digit, byte, BitPlaces}
use Rattle.rules.specs.Listing.{each_below}
use Rattle.rules.proofs.ImageReading.{digit_small, Eight, eight_at, length_each, length_exit}

-- past a front of known length
past : (u v : List Bool) (c i : ℕ) → length u ≡ c → get_or (u ++ v) (c + i) false ≡ get_or v i false
past u v c i h = subst (λ (x : ℕ). get_or (u ++ v) (x + i) false ≡ get_or v i false) h (get_or-append-add u v i false)

each_at : (n c : ℕ) (f : ℕ → List Bool) → ((k : ℕ) → length (f k) ≡ c) → (k i : ℕ) → k < n → i < c → get_or (each_below n f) (k * c + i) false ≡ get_or (f k) i false
unfolding each_below
each_at zero c f h k i a b = absurd (omega arith)
each_at (suc n) c f h k i a b = go (λ l. each_at n c f h k i l b) (dec_lt k n)
  where
    inside : k < n → k * c + i < n * c
    inside l = lib.Arith.digits_lt l b

    go : (k < n → get_or (each_below n f) (k * c + i) false ≡ get_or (f k) i false) → Dec (k < n) → get_or (each_below (suc n) f) (k * c + i) false ≡ get_or (f k) i false
    go ih (yes l) = get_or-append (each_below n f) (f n) false (k * c + i) (subst (λ (x : ℕ). k * c + i < x) (sym (length_each n c f h)) (inside l)) ∙ ih l
    go ih (no l) = let e : n ≡ k = omega arith in
        subst (λ (x : ℕ). get_or (each_below n f ++ f n) (x * c + i) false ≡ get_or (f x) i false) e (past (each_below n f) (f n) (n * c) i (length_each n c f h))

module _ (rules : Rules) (top N : ℕ) (t : Table) where
  abbrev stages : List Bool
  stages = each_below (suc top) (stage_bits rules)

  abbrev rows : List Bool
  rows = each_below N (row_bits rules top t)

  abbrev sets : ℕ → List Bool
  sets r = each_below (suc top) (λ n. t.set r n ∷ [])

  abbrev exits : ℕ → List Bool
  exits r = each_below rules.events (λ k. exit_bits (t.exit r (suc k)))

  stages_length : length stages ≡ suc top * 4
  stages_length = length_each (suc top) 4 (stage_bits rules) (λ n. refl)

  sets_length : (r : ℕ) → length (sets r) ≡ suc top
  sets_length r = length_each (suc top) 1 (λ n. t.set r n ∷ []) (λ n. refl) ∙ mul-one (suc top)

  exits_length : (r : ℕ) → length (exits r) ≡ rules.events * 13
  exits_length r = length_each rules.events 13 (λ k. exit_bits (t.exit r (suc k))) (λ k. length_exit (t.exit r (suc k)))

  row_length : (r : ℕ) → length (row_bits rules top t r) ≡ suc top + rules.events * 13
  row_length r = length-append (sets r) (exits r) ∙ ap₂ {C = ℕ} ◌+◌ (sets_length r) (exits_length r)

  in_stages : (i : ℕ) → i < suc top * 4 → get_or (image_bits rules top N t) (28 + i) false ≡ get_or stages i false
  in_stages i h = past (header_bits rules.events top N) (stages ++ rows) 28 i refl
      ∙ get_or-append stages rows false i (subst (λ (x : ℕ). i < x) (sym stages_length) h)

  in_rows : (i : ℕ) → get_or (image_bits rules top N t) (28 + (suc top * 4 + i)) false ≡ get_or rows i false
  in_rows i = past (header_bits rules.events top N) (stages ++ rows) 28 (suc top * 4 + i) refl ∙ past stages rows (suc top * 4) i stages_length

  in_row : (r i : ℕ) → r < N → i < suc top + rules.events * 13 →
      get_or (image_bits rules top N t) (28 + (suc top * 4 + (r * (suc top + rules.events * 13) + i))) false ≡ get_or (row_bits rules top t r) i false
  in_row r i h l = in_rows (r * (suc top + rules.events * 13) + i) ∙ each_at N (suc top + rules.events * 13) (row_bits rules top t) row_length r i h l

  member : (r n : ℕ) → r < N → n ≤ top → get_or (image_bits rules top N t) (28 + (suc top * 4 + (r * (suc top + rules.events * 13) + n))) false ≡ t.set r n
  member r n h l = in_row r n h (omega arith)
      ∙ get_or-append (sets r) (exits r) false n (subst (λ (x : ℕ). n < x) (sym (sets_length r)) (omega arith))
      ∙ ap (λ (x : ℕ). get_or (sets r) x false) (sym (one n)) ∙ each_at (suc top) 1 (λ n. t.set r n ∷ []) (λ n. refl) n 0 (omega arith) (omega arith)
    where
      one : (n : ℕ) → n * 1 + 0 ≡ n
      one n = omega arith

  exit_at : (r k i : ℕ) → r < N → k < rules.events → i < 13 →
      get_or (image_bits rules top N t) (28 + (suc top * 4 + (r * (suc top + rules.events * 13) + (suc top + (k * 13 + i))))) false ≡ get_or
      (exit_bits (t.exit r (suc k))) i false
  exit_at r k i h l m = in_row r (suc top + (k * 13 + i)) h (omega arith) ∙ past (sets r) (exits r) (suc top) (k * 13 + i) (sets_length r)
      ∙ each_at rules.events 13 (λ k. exit_bits (t.exit r (suc k))) (λ k. length_exit (t.exit r (suc k))) k i l m

  pub bit_places : BitPlaces rules top N t
  bit_places = record {
    size = length-append (header_bits rules.events top N) (stages ++ rows) ∙ ap (λ (x : ℕ). 28 + x) (length-append stages rows
        ∙ ap₂ {C = ℕ} ◌+◌ stages_length (length_each N (suc top + rules.events * 13) (row_bits rules top t) row_length));
    header = λ i h. get_or-append (header_bits rules.events top N) (stages ++ rows) false i h;
    stage = λ n i h l. in_stages (n * 4 + i) (omega arith) ∙ each_at (suc top) 4 (stage_bits rules) (λ n. refl) n i (omega arith) l;
    member = member;
    exit_at = exit_at;
  }

-- a number by its eight digits, and each of them read off it
abbrev in_eight : ℕ → ℕ → ℕ → ℕ → ℕ → ℕ → ℕ → ℕ → ℕ
in_eight a b c d e f g h = 128 * a + 64 * b + 32 * c + 16 * d + 8 * e + 4 * f + 2 * g + h

eight_digits : (a b c d e f g h : ℕ) → a ≤ 1 → b ≤ 1 → c ≤ 1 → d ≤ 1 → e ≤ 1 → f ≤ 1 → g ≤ 1 → h ≤ 1 →
    (in_eight a b c d e f g h / 128 % 2 ≡ a) × (in_eight a b c d e f g h / 64 % 2 ≡ b) × (in_eight a b c d e f g h / 32 % 2 ≡ c)
    × (in_eight a b c d e f g h / 16 % 2 ≡ d) × (in_eight a b c d e f g h / 8 % 2 ≡ e) × (in_eight a b c d e f g h / 4 % 2 ≡ f)
    × (in_eight a b c d e f g h / 2 % 2 ≡ g) × (in_eight a b c d e f g h / 1 % 2 ≡ h)
eight_digits a b c d e f g h p q r s t u v w =
    (omega arith, omega arith, omega arith, omega arith, omega arith, omega arith, omega arith, omega arith)

pub byte_digits : (bits : List Bool) (k j : ℕ) → j < 8 → byte bits k / 2 ^ (7 - j) % 2 ≡ digit bits (8 * k + j)
byte_digits bits k j h = eight_at (λ j. byte bits k / 2 ^ (7 - j) % 2 ≡ digit bits (8 * k + j)) eight j h
  where
    small : (i : ℕ) → digit bits i ≤ 1
    small = digit_small bits

    shift : digit bits (8 * k) ≡ digit bits (8 * k + 0)
    shift = ap (digit bits) (omega arith)

    eight : Eight (λ j. byte bits k / 2 ^ (7 - j) % 2 ≡ digit bits (8 * k + j))
    eight =
        let d = eight_digits (digit bits (8 * k)) (digit bits (8 * k + 1)) (digit bits (8 * k + 2)) (digit bits (8 * k + 3)) (digit bits (8 * k + 4))
        (digit bits (8 * k + 5)) (digit bits (8 * k + 6)) (digit bits (8 * k + 7)) (small _) (small _) (small _) (small _) (small _) (small _) (small _) (small _) in
        record { b0 = d.0 ∙ shift; b1 = d.1; b2 = d.2; b3 = d.3; b4 = d.4; b5 = d.5; b6 = d.6; b7 = d.7 }
