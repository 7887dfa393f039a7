-- Number words are the numbers below 1,000 as they are written: tested one by one.
use Rattle.std.proofs.Common.{◌≡◌, ℕ, zero, suc, ◌+◌, ◌-◌, ◌*◌, ◌<◌, ◌≤◌, Bool, true, false, cond, not, ◌&&◌, ◌||◌, eqb, leb, ◌⊎◌, List, [], ◌∷◌, length, Some, None, decimal, Option, sym, refl, ap, ◌∙◌, inl, inr, arith}
use Rattle.std.proofs.lemmas.Bool.{false≢true, eqb-true, eq-eqb, ne_eqb, leb-true, and_parts, cases_eq}
use Rattle.std.specs.Fmt.{digits}
use Rattle.text.specs.Numbers.{digit_of, with_digit, number_of, NumberWords}

-- the byte does not stand in the text
abbrev pub lacks : ℕ → List ℕ → Bool
lacks by [] = true
lacks by (c ∷ cs) = not (eqb c by) && lacks by cs

abbrev some_equals : Option ℕ → ℕ → Bool
some_equals None n = false
some_equals (Some x) n = eqb x n

some_is : (o : Option ℕ) (n : ℕ) → some_equals o n ≡ true → o ≡ Some n
some_is None n h = absurd (false≢true h)
some_is (Some x) n h = ap {B = Option ℕ} Some (eqb-true x n h)

abbrev good : ℕ → Bool
good n = some_equals (number_of (decimal n)) n && (lacks 32 (decimal n) && (lacks 10 (decimal n) && leb (length (decimal n)) 3))

unfoldable all_below : ℕ → (ℕ → Bool) → Bool
all_below zero p = true
all_below (suc n) p = p n && all_below n p

all_at : (n : ℕ) (p : ℕ → Bool) (k : ℕ) → all_below n p ≡ true → k < n → p k ≡ true
unfolding all_below
all_at zero p k h lt = absurd (omega arith)
all_at (suc n) p k h lt = go (cases_eq k n) (all_at n p k (and_parts (p n) (all_below n p) h).1)
  where
    go : (k ≡ n) ⊎ (k ≡ n → ⊥) → (k < n → p k ≡ true) → p k ≡ true
    go (inl e) r = ap p e ∙ (and_parts (p n) (all_below n p) h).0
    go (inr d) r = r (omega arith)

tested : all_below 1000 good ≡ true
unfolding all_below digits
tested = refl

pub record Numeral (n : ℕ) : Type 0 where
  pub reads : number_of (decimal n) ≡ Some n
  pub no_space : lacks 32 (decimal n) ≡ true
  pub no_end : lacks 10 (decimal n) ≡ true
  pub short : length (decimal n) ≤ 3

pub numeral : (n : ℕ) → n < 1000 → Numeral n
numeral n lt =
    let a = and_parts (some_equals (number_of (decimal n)) n) _ (all_at 1000 good n tested lt) in
    let b = and_parts (lacks 32 (decimal n)) _ a.1 in
    let d = and_parts (lacks 10 (decimal n)) (leb (length (decimal n)) 3) b.1 in
    record { reads = some_is (number_of (decimal n)) n a.0; no_space = b.0; no_end = d.0; short = leb-true (length (decimal n)) 3 d.1 }

-- the digits of a number stand in its writing
abbrev same : List ℕ → List ℕ → Bool
same [] [] = true
same [] (y ∷ ys) = false
same (x ∷ xs) [] = false
same (x ∷ xs) (y ∷ ys) = eqb x y && same xs ys

same_is : (xs ys : List ℕ) → same xs ys ≡ true → xs ≡ ys
same_is [] [] h = refl
same_is [] (y ∷ ys) h = absurd (false≢true h)
same_is (x ∷ xs) [] h = absurd (false≢true h)
same_is (x ∷ xs) (y ∷ ys) h = let p = and_parts (eqb x y) (same xs ys) h in λ i. eqb-true x y p.0 i ∷ same_is xs ys p.1 i

one_digit : all_below 10 (λ x. same ((48 + x) ∷ []) (decimal x)) ≡ true
unfolding all_below digits
one_digit = refl

two_digits : all_below 10 (λ x. eqb x 0 || all_below 10 (λ y. same ((48 + x) ∷ (48 + y) ∷ []) (decimal (x * 10 + y)))) ≡ true
unfolding all_below digits
two_digits = refl

three_digits : all_below 10 (λ x. eqb x 0 || all_below 10 (λ y. all_below 10 (λ z. same ((48 + x) ∷ (48 + y) ∷ (48 + z) ∷ []) (decimal ((x * 10 + y) * 10 + z))))) ≡ true
unfolding all_below digits
three_digits = refl

none_some : (x : ℕ) → ◌≡◌ {A = Option ℕ} None (Some x) → ⊥
none_some x h = let z : ◌≡◌ {A = ℕ} 0 1 = cc in omega arith

some_same : (x y : ℕ) → ◌≡◌ {A = Option ℕ} (Some x) (Some y) → x ≡ y
some_same x y h = cc

-- a byte that is a digit
record Digit (a x : ℕ) : Type 0 where
  pub small : x < 10
  pub is : a ≡ 48 + x

digit_is : (a x : ℕ) → digit_of a ≡ Some x → Digit a x
digit_is a x h = go (leb 48 a) (leb a 57) refl refl h
  where
    go : (u v : Bool) → leb 48 a ≡ u → leb a 57 ≡ v → cond u (cond v (Some (a - 48)) None) None ≡ Some x → Digit a x
    go true true p q e =
        let d = some_same (a - 48) x e in
        record { small = omega (arith, leb-true a 57 q, d); is = omega (arith, leb-true 48 a p, d) }
    go true false p q e = absurd (none_some x e)
    go false v p q e = absurd (none_some x e)

-- one more digit behind a number
record Longer (o : Option ℕ) (a n : ℕ) : Type 0 where
  pub front : ℕ
  pub digit : ℕ
  pub front_is : o ≡ Some front
  pub digit_at : Digit a digit
  pub value : n ≡ front * 10 + digit

longer : (o : Option ℕ) (a n : ℕ) → with_digit o (digit_of a) ≡ Some n → Longer o a n
longer None a n h = absurd (none_some n h)
longer (Some m) a n h = go (digit_of a) refl h
  where
    go : (d : Option ℕ) → digit_of a ≡ d → with_digit (Some m) d ≡ Some n → Longer (Some m) a n
    go None e k = absurd (none_some n k)
    go (Some x) e k = record { front = m; digit = x; front_is = refl; digit_at = digit_is a x e; value = sym (some_same (m * 10 + x) n k) }

past_zero : (x : ℕ) (p : Bool) → (x ≡ 0 → ⊥) → (eqb x 0 || p) ≡ true → p ≡ true
past_zero x p d h = sym (ap (λ (v : Bool). v || p) (ne_eqb x 0 d)) ∙ h

no_zero : (a x n : ℕ) (o : Option ℕ) → cond (eqb a 48) None o ≡ Some n → Digit a x → x ≡ 0 → ⊥
no_zero a x n o h d e =
    let z : eqb a 48 ≡ true = eq-eqb a 48 (omega (arith, d.is, e)) in
    none_some n (sym (ap (λ (v : Bool). cond v None o) z) ∙ h)

past_first : (a n : ℕ) (o : Option ℕ) → cond (eqb a 48) None o ≡ Some n → o ≡ Some n
past_first a n o h = go (eqb a 48) h
  where
    go : (v : Bool) → cond v None o ≡ Some n → o ≡ Some n
    go true e = absurd (none_some n e)
    go false e = e

only_numerals : (w : List ℕ) (n : ℕ) → number_of w ≡ Some n → (n < 1000) × (w ≡ decimal n)
only_numerals [] n h = absurd (none_some n h)
only_numerals (a ∷ []) n h =
    let d = digit_is a n h in
    let p = d.small in
    (omega arith, (λ i. d.is i ∷ []) ∙ same_is ((48 + n) ∷ []) (decimal n) (all_at 10 (λ x. same ((48 + x) ∷ []) (decimal x)) n one_digit d.small))
only_numerals (a ∷ b ∷ []) n h =
    let l = longer (digit_of a) b n (past_first a n _ h) in
    let d = digit_is a l.front l.front_is in
    let t = past_zero l.front _ (no_zero a l.front n _ h d)
    (all_at 10 (λ x. eqb x 0 || all_below 10 (λ y. same ((48 + x) ∷ (48 + y) ∷ []) (decimal (x * 10 + y)))) l.front two_digits d.small) in
    let s = same_is _ _ (all_at 10 (λ y. same ((48 + l.front) ∷ (48 + y) ∷ []) (decimal (l.front * 10 + y))) l.digit t l.digit_at.small) in
    (omega (arith, l.value, d.small, l.digit_at.small), (λ i. d.is i ∷ l.digit_at.is i ∷ []) ∙ s ∙ ap decimal (sym l.value))
only_numerals (a ∷ b ∷ c ∷ []) n h =
    let k = longer (with_digit (digit_of a) (digit_of b)) c n (past_first a n _ h) in
    let l = longer (digit_of a) b k.front k.front_is in
    let d = digit_is a l.front l.front_is in
    let t = past_zero l.front _ (no_zero a l.front n _ h d)
    (all_at 10 (λ x. eqb x 0 || all_below 10 (λ y. all_below 10 (λ z. same ((48 + x) ∷ (48 + y) ∷ (48 + z) ∷ []) (decimal ((x * 10 + y) * 10 + z))))) l.front three_digits d.small) in
    let u = all_at 10 (λ y. all_below 10 (λ z. same ((48 + l.front) ∷ (48 + y) ∷ (48 + z) ∷ []) (decimal ((l.front * 10 + y) * 10 + z)))) l.digit t l.digit_at.small in
    let s = same_is _ _ (all_at 10 (λ z. same ((48 + l.front) ∷ (48 + l.digit) ∷ (48 + z) ∷ []) (decimal ((l.front * 10 + l.digit) * 10 + z))) k.digit u k.digit_at.small) in (
      omega (arith, k.value, l.value, d.small, l.digit_at.small, k.digit_at.small),
      (λ i. d.is i ∷ l.digit_at.is i ∷ k.digit_at.is i ∷ []) ∙ s ∙ ap decimal (sym (k.value ∙ ap (λ (m : ℕ). m * 10 + k.digit) l.value)),
    )
only_numerals (a ∷ b ∷ c ∷ d ∷ w) n h = absurd (none_some n h)

pub number_words : NumberWords
number_words = record { reads = λ n lt. (numeral n lt).reads; only = only_numerals }
