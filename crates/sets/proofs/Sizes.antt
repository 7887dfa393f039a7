-- How many numbers below a bound are members: for whoever cites `count`. Assumes nothing.
use Rattle.std.specs.Prelude.{◌≡◌, ℕ, zero, suc, ◌+◌, ◌<◌, Bool, refl}
use Rattle.std.proofs.Common.{ap, ap₂, arith}
use Rattle.sets.specs.Members.{one, size}

pub size_alike : (n : ℕ) (p q : ℕ → Bool) → ((k : ℕ) → k < n → p k ≡ q k) → size n p ≡ size n q
unfolding size
size_alike zero p q h = refl
size_alike (suc n) p q h = ap₂ (λ (x y : ℕ). x + y) (size_alike n p q (λ k l. h k (omega arith))) (ap one (h n (omega arith)))
