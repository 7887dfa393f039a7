-- How many numbers below a bound are members, and how many bits of a word are set. Assumes nothing.
use Rattle.std.proofs.Common.{◌≡◌, ℕ, zero, suc, ◌+◌, ◌*◌, ◌/◌, ◌%◌, ◌^◌, ◌<◌, ◌≤◌, Bool, true, false, refl, ap, ap₂, ◌∙◌, sym, eqb, ⊎_elim, arith}
use native.Mathlib.Nat.{add-suc, add-zero}
use Rattle.std.specs.Int.{bit_at}
use Rattle.std.specs.Int.Count.{ones, ones_step}
use Rattle.std.proofs.lemmas.Nat.Bits.{bit_at_lowest, bit_at-suc}
use Rattle.std.proofs.lemmas.Bool.{cases_eq}
use Rattle.sets.specs.Members.{one, size}
use Rattle.sets.proofs.Sizes.{size_alike}

pub size_none : (p : ℕ → Bool) → size 0 p ≡ 0
unfolding size
size_none p = refl

one_le : (b : Bool) → one b ≤ 1
one_le true = omega arith
one_le false = omega arith

pub size_le : (n : ℕ) (p : ℕ → Bool) → size n p ≤ n
unfolding size
size_le zero p = omega arith
size_le (suc n) p = omega (arith, size_le n p, one_le (p n))

pub size_add : (a b : ℕ) (p : ℕ → Bool) → size (a + b) p ≡ size a p + size b (λ k. p (a + k))
unfolding size
size_add a zero p = rw (add-zero a) (omega arith)
size_add a (suc b) p = rw add-suc (let rest = size_add a b p in omega arith)

pub size_first : (n : ℕ) (p : ℕ → Bool) → size (suc n) p ≡ one (p 0) + size n (λ k. p (suc k))
unfolding size
size_first zero p = omega arith
size_first (suc n) p = let rest = size_first n p in omega arith

one_bit : (w : ℕ) → w % 2 ≡ one (eqb (w % 2) 1)
one_bit w = ⊎_elim (λ (e : w % 2 ≡ 0). rw e) (λ (e : w % 2 ≡ 0 → ⊥). let odd : w % 2 ≡ 1 = omega arith in rw odd) (cases_eq (w % 2) 0)

pub size_of_bits : (k w : ℕ) → w < 2 ^ k → ones w ≡ size k (λ j. eqb (bit_at w j) 1)
unfolding size ones
size_of_bits zero w h = let none : w ≡ 0 = omega arith in let at : ones 0 ≡ 0 = refl in ap ones none ∙ at
size_of_bits (suc k) w h =
    let half : w / 2 < 2 ^ k = let twice = Rattle.std.proofs.Common.pow-suc 2 k in omega (arith, twice) in
    ones_step w
    ∙ ap₂ (λ (x y : ℕ). x + y)
    (one_bit w ∙ ap (λ b. one (eqb b 1)) (sym (bit_at_lowest w)))
    (size_of_bits k (w / 2) half ∙ size_alike k _ _ (λ j l. ap (λ b. eqb b 1) (sym (bit_at-suc w j))))
    ∙ sym (size_first k (λ j. eqb (bit_at w j) 1))
