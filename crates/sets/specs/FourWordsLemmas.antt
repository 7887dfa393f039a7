-- A row's members are below 256, and every set of numbers below 256 is a row: for the laws of bit rows. Assumes nothing.
use Rattle.std.specs.Prelude.{◌≡◌, ℕ, zero, suc, ◌+◌, ◌*◌, ◌/◌, ◌%◌, ◌<◌, ◌≤◌, Bool, true, false, List, [], ◌∷◌, ◌==◌, slice_index, refl}
use Rattle.std.proofs.Common.{ap, ◌∙◌, ⊎_elim, arith}
use Rattle.std.specs.Int.{bit_at}
use Rattle.std.proofs.lemmas.Bool.{lt-ltb, le-ltb, cases_lt, both_ways}
use Rattle.std.proofs.lemmas.Nat.Bits.{bit_at_lowest, bit_at-suc}
use Rattle.sets.specs.Members.{one}
use Rattle.sets.specs.FourWords.{in_row}

pub row_in : (ws : List ℕ) (n : ℕ) → n < 256 → in_row ws n ≡ (bit_at (slice_index ws (n / 64)) (n % 64) == 1)
row_in ws n h = let below = lt-ltb n 256 h in rw below

pub row_out : (ws : List ℕ) (n : ℕ) → 256 ≤ n → in_row ws n ≡ false
row_out ws n h = let above = le-ltb n 256 h in rw above

pub row_below : (ws : List ℕ) (n : ℕ) → in_row ws n ≡ true → n < 256
row_below ws n h = ⊎_elim (λ (l : n < 256). l) (λ (l : 256 ≤ n). absurd (both_ways _ (row_out ws n l) h)) (cases_lt n 256)

-- the number of k bits that has bit j set where p j is true
unfoldable pub number_of_bits : ℕ → (ℕ → Bool) → ℕ
number_of_bits zero p = 0
number_of_bits (suc k) p = one (p 0) + 2 * number_of_bits k (λ j. p (suc j))

lowest_bit : (b : Bool) (m : ℕ) → ((one b + 2 * m) % 2 == 1) ≡ b
lowest_bit true m = let odd : (1 + 2 * m) % 2 ≡ 1 = omega arith in rw odd
lowest_bit false m = let even : (0 + 2 * m) % 2 ≡ 0 = omega arith in rw even

other_bits : (b : Bool) (m : ℕ) → (one b + 2 * m) / 2 ≡ m
other_bits true m = omega arith
other_bits false m = omega arith

bits_of_number : (k : ℕ) (p : ℕ → Bool) (j : ℕ) → j < k → (bit_at (number_of_bits k p) j == 1) ≡ p j
unfolding number_of_bits
bits_of_number zero p j l = absurd (omega arith)
bits_of_number (suc k) p zero l = ap (λ b. b == 1) (bit_at_lowest _) ∙ lowest_bit (p 0) _
bits_of_number (suc k) p (suc j) l =
    ap (λ b. b == 1) (bit_at-suc _ j ∙ ap (λ w. bit_at w j) (other_bits (p 0) _)) ∙ bits_of_number k (λ j. p (suc j)) j (omega arith)

-- the word at q of the row of the numbers for which p is true
abbrev word_of : (ℕ → Bool) → ℕ → ℕ
word_of p q = number_of_bits 64 (λ j. p (q * 64 + j))

abbrev pub row_of : (ℕ → Bool) → List ℕ
row_of p = word_of p 0 ∷ word_of p 1 ∷ word_of p 2 ∷ word_of p 3 ∷ []

word_at : (p : ℕ → Bool) (q : ℕ) → q < 4 → slice_index (row_of p) q ≡ word_of p q
word_at p zero h = refl
word_at p (suc zero) h = refl
word_at p (suc (suc zero)) h = refl
word_at p (suc (suc (suc zero))) h = refl
word_at p (suc (suc (suc (suc q)))) h = absurd (omega arith)

pub row_of_lem : (p : ℕ → Bool) (n : ℕ) → n < 256 → in_row (row_of p) n ≡ p n
row_of_lem p n h =
    let parts : n / 64 * 64 + n % 64 ≡ n = omega arith in
    row_in (row_of p) n h
    ∙ ap (λ w. bit_at w (n % 64) == 1) (word_at p (n / 64) (omega arith))
    ∙ bits_of_number 64 _ (n % 64) (omega arith)
    ∙ ap p parts
