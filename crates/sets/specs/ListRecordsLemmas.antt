-- A list record's members are below 64, and every set of numbers below 64 is the meaning of one: for the laws of list records. Assumes nothing.
use Rattle.std.specs.Prelude.{◌≡◌, ℕ, zero, suc, ◌+◌, ◌-◌, ◌<◌, ◌≤◌, Bool, true, false, ◌&&◌, ◌||◌, List, [], ◌∷◌, ◌++◌, ◌==◌, length, replicate, cond, nat_lt, refl}
use Rattle.std.proofs.Common.{sym, ap, ap₂, ◌∙◌, ⊎_elim, arith, length-append}
use Rattle.std.proofs.lemmas.Bool.{false≢true, lt-ltb, ltb-true, le-ltb, le-leb, leb-true, eq-eqb, eqb-true, cases_Bool, cases_eq, and_parts, and_from, or_cases, or_left, or_right}
use Rattle.std.proofs.lemmas.Bool.Decides.{nat_tests}
use Rattle.std.proofs.lemmas.List.{take_at, append-nil, length-replicate}
use Rattle.std.proofs.lemmas.List.Folds.{list_any-append}
use Rattle.sets.specs.declared.list_record.ListRecord.{ListRecord}
use Rattle.sets.specs.Ascending.{ascend_from, among}
use Rattle.sets.specs.ListRecords.{listed, members}

-- ---- ascending numbers

pub ascend_parts : (least x : ℕ) (xs : List ℕ) → ascend_from least (x ∷ xs) ≡ true → (least ≤ x) × (x < 64) × (ascend_from (x + 1) xs ≡ true)
ascend_parts least x xs h = let all = and_parts _ _ h in let first = and_parts _ _ all.0 in (leb-true _ _ first.0, ltb-true _ _ first.1, all.1)

pub ascend_cons : (least x : ℕ) (xs : List ℕ) → least ≤ x → x < 64 → ascend_from (x + 1) xs ≡ true → ascend_from least (x ∷ xs) ≡ true
ascend_cons least x xs a b h = and_from _ _ (and_from _ _ (le-leb _ _ a) (lt-ltb _ _ b)) h

pub among_between : (least : ℕ) (xs : List ℕ) (n : ℕ) → ascend_from least xs ≡ true → among xs n ≡ true → (least ≤ n) × (n < 64)
among_between least [] n a h = absurd (false≢true h)
among_between least (x ∷ xs) n a h =
    let p = ascend_parts least x xs a in
    ⊎_elim
    (λ (e : (x == n) ≡ true). let is = eqb-true x n e in (omega arith, omega arith))
    (λ (e : among xs n ≡ true). let rest = among_between (x + 1) xs n p.2 e in (omega arith, rest.1))
    (or_cases (x == n) (among xs n) h)

-- one more number at the end
pub ascend_push : (least : ℕ) (xs : List ℕ) (n : ℕ) → ascend_from least xs ≡ true → least ≤ n → n < 64 → ((k : ℕ) → among xs k ≡ true → k < n) → ascend_from least (xs ++ n ∷ []) ≡ true
ascend_push least [] n a low small above = ascend_cons least n [] low small refl
ascend_push least (x ∷ xs) n a low small above =
    let p = ascend_parts least x xs a in
    let first = above x (or_left (x == x) (among xs x) (eq-eqb x x refl)) in
    ascend_cons least x (xs ++ n ∷ []) p.0 p.1 (ascend_push (x + 1) xs n p.2 (omega arith) small (λ k m. above k (or_right (x == k) (among xs k) m)))

among_push : (xs : List ℕ) (n k : ℕ) → among (xs ++ n ∷ []) k ≡ (among xs k || k == n)
among_push xs n k = let joined = list_any-append (λ x. x == k) xs (n ∷ []) in grind (arith, nat_tests)

-- ---- records

pub members_below : (r : ListRecord) (n : ℕ) → members r n ≡ true → n < 64
members_below r n h =
    let both = and_parts _ _ h in
    (among_between 0 (listed r) n (and_parts _ _ both.0).1 both.1).1

-- the numbers below k for which p is true, in order
unfoldable pub numbers : (ℕ → Bool) → ℕ → List ℕ
numbers p zero = []
numbers p (suc k) = numbers p k ++ cond (p k) (k ∷ []) []

record AreNumbers (p : ℕ → Bool) (k : ℕ) (xs : List ℕ) : Type 0 where
  short : length xs ≤ k
  ascend : ascend_from 0 xs ≡ true
  are : (n : ℕ) → among xs n ≡ (nat_lt n k && p n)

with_next : (p : ℕ → Bool) (k : ℕ) (xs : List ℕ) → k < 64 → AreNumbers p k xs → p k ≡ true → AreNumbers p (suc k) (xs ++ k ∷ [])
with_next p k xs h before e = record {
  short = omega (arith, before.short, length-append xs (k ∷ []));
  ascend = ascend_push 0 xs k before.ascend (omega arith) h (λ n m. ltb-true n k (and_parts _ _ (sym (before.are n) ∙ m)).0);
  are = λ n. let was = before.are n in let pushed = among_push xs k n in ⊎_elim
      (λ (x : n ≡ k). let here = ap p x ∙ e in grind (arith, nat_tests))
      (λ (x : n ≡ k → ⊥). grind (arith, nat_tests))
      (cases_eq n k);
}

without_next : (p : ℕ → Bool) (k : ℕ) (xs : List ℕ) → AreNumbers p k xs → p k ≡ false → AreNumbers p (suc k) xs
without_next p k xs before e = record {
  short = omega (arith, before.short);
  ascend = before.ascend;
  are = λ n. let was = before.are n in ⊎_elim
      (λ (x : n ≡ k). let here = ap p x ∙ e in grind (arith, nat_tests))
      (λ (x : n ≡ k → ⊥). grind (arith, nat_tests))
      (cases_eq n k);
}

are_numbers : (p : ℕ → Bool) (k : ℕ) → k ≤ 64 → AreNumbers p k (numbers p k)
unfolding numbers
are_numbers p zero h = record { short = omega arith; ascend = refl; are = λ n. let above = le-ltb n 0 (omega arith) in rw above }
are_numbers p (suc k) h =
    let before = are_numbers p k (omega arith) in
    ⊎_elim
    (λ (e : p k ≡ true). rw e (with_next p k (numbers p k) (omega arith) before e))
    (λ (e : p k ≡ false). rw (e, append-nil) (without_next p k (numbers p k) before e))
    (cases_Bool (p k))

abbrev pub record_of : (ℕ → Bool) → ListRecord
record_of p = record { len = length (numbers p 64); items = numbers p 64 ++ replicate (64 - length (numbers p 64)) 0 }

pub record_of_lem : (p : ℕ → Bool) (n : ℕ) → n < 64 → members (record_of p) n ≡ p n
record_of_lem p n h =
    let ns = are_numbers p 64 (omega arith) in
    let are : listed (record_of p) ≡ numbers p 64 = take_at (numbers p 64) (replicate (64 - length (numbers p 64)) 0) (length (numbers p 64)) refl in
    let small : nat_lt n 64 ≡ true = lt-ltb n 64 h in
    ap₂ (λ b xs. b && among xs n) (and_from _ _ (le-leb _ _ ns.short) (ap (ascend_from 0) are ∙ ns.ascend)) are
    ∙ ns.are n
    ∙ ap (λ b. b && p n) small

pub record_of_whole : (p : ℕ → Bool) → length (record_of p).items ≡ 64
record_of_whole p =
    let ns = are_numbers p 64 (omega arith) in
    omega (arith, ns.short, length-append (numbers p 64) (replicate (64 - length (numbers p 64)) 0), length-replicate {A = ℕ} (64 - length (numbers p 64)) 0)
