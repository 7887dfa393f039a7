-- Sets of numbers as tests: n is a member of p where p n is true. Assumes nothing.
use Rattle.std.specs.Prelude.{◌≡◌, ℕ, zero, suc, ◌+◌, ◌<◌, ◌≤◌, Bool, true, false, ◌&&◌, ◌||◌, Option, MatchOption, ◌==◌, nat_lt}

-- a test as a number: 1 where it is true
abbrev pub one : Bool → ℕ
one true = 1
one false = 0

-- how many numbers below w are members of p
unfoldable pub size : ℕ → (ℕ → Bool) → ℕ
size zero p = 0
size (suc n) p = size n p + one (p n)

-- p with n as one more member, if n is below w
abbrev pub with_member : ℕ → ℕ → (ℕ → Bool) → ℕ → Bool
with_member w n p k = p k || (k == n && nat_lt n w)

-- p and q have the same members
abbrev pub SameMembers : (ℕ → Bool) → (ℕ → Bool) → Type 0
SameMembers p q = (n : ℕ) → p n ≡ q n

-- r is the least member of p not below from, or absent where there is none
abbrev pub NextFrom : (ℕ → Bool) → ℕ → Option ℕ → Type 0
NextFrom p from r =
    MatchOption r
    ((n : ℕ) → from ≤ n → p n ≡ false)
    (λ m. (from ≤ m) × (p m ≡ true) × ((n : ℕ) → from ≤ n → n < m → p n ≡ false))
