-- Tests, sums and lists over the numbers below a bound.
use Rattle.std.proofs.Common.{◌≡◌, ℕ, zero, suc, ◌+◌, ◌<◌, ◌≤◌, Bool, true, ◌||◌, ◌⊎◌, List, ◌++◌, length, sym, refl, ap, ◌∙◌, subst, inl, inr, arith, length-append}
use Rattle.std.proofs.lemmas.Bool.{false≢true, or_cases, cases_eq, or_left, or_right}
use Rattle.rules.specs.Rules.{any_below, sum_below}
use Rattle.rules.specs.Counts.{Among, NoRepeat}
use Rattle.rules.specs.Listing.{each_below}
use Rattle.rules.proofs.Counting.{among_left, among_right, among_split, repeat_append}

-- the test passes at some number below n exactly if it passes at one
pub any_some : (n : ℕ) (p : ℕ → Bool) → any_below n p ≡ true → (k : ℕ) × (k < n) × (p k ≡ true)
unfolding any_below
any_some zero p h = absurd (false≢true h)
any_some (suc n) p h = go (or_cases (p n) (any_below n p) h) (any_some n p)
  where
    go : (p n ≡ true) ⊎ (any_below n p ≡ true) → (any_below n p ≡ true → (k : ℕ) × (k < n) × (p k ≡ true)) → (k : ℕ) × (k < suc n) × (p k ≡ true)
    go (inl x) r = (n, omega arith, x)
    go (inr x) r = let y = r x in (y.0, omega (arith, y.1), y.2)

pub some_any : (n : ℕ) (p : ℕ → Bool) (k : ℕ) → k < n → p k ≡ true → any_below n p ≡ true
unfolding any_below
some_any zero p k lt h = absurd (omega arith)
some_any (suc n) p k lt h = go (cases_eq k n) (λ l. some_any n p k l h)
  where
    go : (k ≡ n) ⊎ (k ≡ n → ⊥) → (k < n → any_below n p ≡ true) → (p n || any_below n p) ≡ true
    go (inl e) r = or_left (p n) (any_below n p) (sym (ap p e) ∙ h)
    go (inr d) r = or_right (p n) (any_below n p) (r (omega arith))

-- a sum of sums
pub sum_add : (n : ℕ) (f g : ℕ → ℕ) → sum_below n (λ k. f k + g k) ≡ sum_below n f + sum_below n g
unfolding sum_below
sum_add zero f g = refl
sum_add (suc n) f g = let r = sum_add n f g in omega arith

-- a sum of equal numbers
pub sum_same : (n : ℕ) (f g : ℕ → ℕ) → ((k : ℕ) → f k ≡ g k) → sum_below n f ≡ sum_below n g
sum_same n f g h = ap (sum_below n) (λ i k. h k i)

-- a sum of zeros
pub sum_zero : (n : ℕ) (f : ℕ → ℕ) → ((k : ℕ) → f k ≡ 0) → sum_below n f ≡ 0
unfolding sum_below
sum_zero zero f h = refl
sum_zero (suc n) f h = let r = sum_zero n f h in let q = h n in omega arith

pub sum_none : (n : ℕ) (f : ℕ → ℕ) → ((k : ℕ) → k < n → f k ≡ 0) → sum_below n f ≡ 0
unfolding sum_below
sum_none zero f h = refl
sum_none (suc n) f h = let r = sum_none n f (λ k lt. h k (omega arith)) in let q = h n (omega arith) in omega arith

-- a sum of zeros and a single 1
pub sum_one : (n : ℕ) (f : ℕ → ℕ) (j : ℕ) → j < n → f j ≡ 1 → ((k : ℕ) → (k ≡ j → ⊥) → f k ≡ 0) → sum_below n f ≡ 1
unfolding sum_below
sum_one zero f j lt h z = absurd (omega arith)
sum_one (suc n) f j lt h z = go (cases_eq j n) (λ l. sum_one n f j l h z)
  where
    go : (j ≡ n) ⊎ (j ≡ n → ⊥) → (j < n → sum_below n f ≡ 1) → f n + sum_below n f ≡ 1
    go (inl e) g = let r = sum_none n f (λ (k : ℕ) (l : k < n). z k (omega arith)) in let q : f n ≡ 1 = sym (ap f e) ∙ h in omega arith
    go (inr d) g = let r = g (omega arith) in let q = z n (λ x. d (sym x)) in omega arith

-- a sum of smaller numbers, one of them smaller for sure
pub sum_le : (n : ℕ) (f g : ℕ → ℕ) → ((k : ℕ) → f k ≤ g k) → sum_below n f ≤ sum_below n g
unfolding sum_below
sum_le zero f g h = omega arith
sum_le (suc n) f g h = let r = sum_le n f g h in let q = h n in omega arith

pub sum_lt : (n : ℕ) (f g : ℕ → ℕ) (j : ℕ) → j < n → ((k : ℕ) → f k ≤ g k) → f j < g j → sum_below n f < sum_below n g
unfolding sum_below
sum_lt zero f g j lt h s = absurd (omega arith)
sum_lt (suc n) f g j lt h s = go (cases_eq j n) (λ l. sum_lt n f g j l h s)
  where
    go : (j ≡ n) ⊎ (j ≡ n → ⊥) → (j < n → sum_below n f < sum_below n g) → f n + sum_below n f < g n + sum_below n g
    go (inl e) r = let a : f n < g n = subst (λ (k : ℕ). f k < g k) e s in let b = sum_le n f g h in omega arith
    go (inr d) r = let a = r (omega arith) in let b = h n in omega arith

pub each_some : {A : Type 0} (n : ℕ) (f : ℕ → List A) (a : A) → Among a (each_below n f) → (k : ℕ) × (k < n) × Among a (f k)
unfolding each_below
each_some zero f a h = absurd h
each_some {A = A} (suc n) f a h = go (among_split a (each_below n f) (f n) h) (each_some n f a)
  where
    go : Among a (each_below n f) ⊎ Among a (f n) → (Among a (each_below n f) → (k : ℕ) × (k < n) × Among a (f k)) → (k : ℕ) × (k < suc n) × Among a (f k)
    go (inl u) r = let x = r u in (x.0, omega (arith, x.1), x.2)
    go (inr v) r = (n, omega arith, v)

pub some_each : {A : Type 0} (n : ℕ) (f : ℕ → List A) (a : A) (k : ℕ) → k < n → Among a (f k) → Among a (each_below n f)
unfolding each_below
some_each zero f a k lt h = absurd (omega arith)
some_each {A = A} (suc n) f a k lt h = go (cases_eq k n) (λ l. some_each n f a k l h)
  where
    go : (k ≡ n) ⊎ (k ≡ n → ⊥) → (k < n → Among a (each_below n f)) → Among a (each_below n f ++ f n)
    go (inl e) r = among_right a (each_below n f) (f n) (subst (λ (j : ℕ). Among a (f j)) e h)
    go (inr d) r = among_left a (each_below n f) (f n) (r (omega arith))

-- no repeat, where each member tells the number at which it is listed
pub each_once : {A : Type 0} (n : ℕ) (f : ℕ → List A) (tag : A → ℕ) → ((k : ℕ) (a : A) → Among a (f k) → tag a ≡ k) →
    ((k : ℕ) → NoRepeat (f k)) → NoRepeat (each_below n f)
unfolding each_below
each_once zero f tag t h = tt
each_once (suc n) f tag t h = repeat_append (each_below n f) (f n) (each_once n f tag t h) (h n)
    (λ a u v. let x = each_some n f a u in let p = t x.0 a x.2 in let q = t n a v in let l = x.1 in omega arith)

pub each_length : {A : Type 0} (n : ℕ) (f : ℕ → List A) (c : ℕ → ℕ) → ((k : ℕ) → length (f k) ≡ c k) → length (each_below n f) ≡ sum_below n c
unfolding each_below sum_below
each_length zero f c h = refl
each_length (suc n) f c h = let r = each_length n f c h in let q = h n in omega (arith, length-append (each_below n f) (f n))
