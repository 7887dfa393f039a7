-- Number words.
use Rattle.std.specs.Prelude.{◌≡◌, ℕ, ◌+◌, ◌-◌, ◌*◌, ◌<◌, cond, List, [], ◌∷◌, Some, None, decimal, Option, ◌==◌, nat_le}

-- The value of a byte that is a digit, from 48 for 0 to 57 for 9.
abbrev pub digit_of : ℕ → Option ℕ
digit_of b = cond (nat_le 48 b) (cond (nat_le b 57) (Some (b - 48)) None) None

-- A number with one more digit behind it; absent if either is.
abbrev pub with_digit : Option ℕ → Option ℕ → Option ℕ
with_digit None d = None
with_digit (Some n) None = None
with_digit (Some n) (Some d) = Some (n * 10 + d)

-- The number of a number word: one to three digits, the first not 0 unless it is the only one.
abbrev pub number_of : List ℕ → Option ℕ
number_of [] = None
number_of (a ∷ []) = digit_of a
number_of (a ∷ b ∷ []) = cond (a == 48) None (with_digit (digit_of a) (digit_of b))
number_of (a ∷ b ∷ c ∷ []) = cond (a == 48) None (with_digit (with_digit (digit_of a) (digit_of b)) (digit_of c))
number_of (a ∷ b ∷ c ∷ d ∷ bs) = None

-- Number words are the numbers below 1,000 as they are written in decimal.
pub record NumberWords : Type 0 where
  pub reads : (n : ℕ) → n < 1000 → number_of (decimal n) ≡ Some n
  pub only : (w : List ℕ) (n : ℕ) → number_of w ≡ Some n → (n < 1000) × (w ≡ decimal n)
