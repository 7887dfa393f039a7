-- Numbers below 64 in strictly ascending order. Assumes nothing.
use Rattle.std.specs.Prelude.{ℕ, ◌+◌, Bool, true, ◌&&◌, List, [], ◌∷◌, ◌==◌, nat_le, nat_lt}
use Rattle.std.specs.List.{list_any}

-- whether each number is below 64, at least `least`, and above the number before it
abbrev pub ascend_from : ℕ → List ℕ → Bool
ascend_from least [] = true
ascend_from least (x ∷ xs) = (nat_le least x && nat_lt x 64) && ascend_from (x + 1) xs

-- whether n is one of the numbers
abbrev pub among : List ℕ → ℕ → Bool
among xs n = list_any (λ x. x == n) xs
