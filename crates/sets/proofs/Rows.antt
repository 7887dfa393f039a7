-- What the operations on four words do to the numbers in their row. Assumes nothing.
use Rattle.std.proofs.Common.{◌≡◌, ℕ, ◌+◌, ◌-◌, ◌*◌, ◌/◌, ◌%◌, ◌^◌, ◌<◌, ◌≤◌, Bool, true, false, ◌||◌, not, Some, None, ltb, eqb, zero, suc, List, length, get_or, set, take, take-suc, drop, shr-shr, refl, sym, ap, ap₂, ◌∙◌, ⊎_elim, arith}
use borrow.Rule.Slice.PartMut.{mid_of}
use lib.Bits.{bit_or}
use lib.Pointwise.{pointwise}
use Rattle.std.specs.Prelude.{IsTrue, ◌↔◌, nat_eq}
use Rattle.std.specs.Cmp.Lexicographic.{told_text}
use lib.Count.{ones}
use Rattle.std.specs.Int.{bit_at, trailing_zeros, w64}
use Rattle.std.specs.List.{position, position_or_len, sum_by}
use Rattle.std.proofs.lemmas.List.{get_or-set_same, get_or-set_other, get_or-drop, length-drop, get_or_read, take_rest, take_all, ext_get_or}
use Rattle.std.proofs.lemmas.List.Quantifiers.{position-Some}
use Rattle.std.proofs.lemmas.List.Sums.{fails_before_first, sum_by_push}
use Rattle.std.proofs.lemmas.Bool.{cases_lt, cases_eq, lt-ltb, eqb-true, ltb-true, not-false, false≢true}
use Rattle.std.proofs.lemmas.Bool.Decides.{nat_tests}
use Rattle.std.proofs.lemmas.Nat.{div-mul-add, mod-mul-add}
use Rattle.std.proofs.lemmas.Nat.Bits.{bit_at-zero, bit_at-lt, bit_at_or, bit_at_set_same, bit_at_set_other, bit_at-trailing_zeros, bit_at_above, same_from_bits_below}
use Rattle.sets.specs.Members.{size, with_member, SameMembers, NextFrom}
use Rattle.sets.proofs.Sizes.{size_alike}
use Rattle.sets.specs.FourWords.{in_row}
use Rattle.sets.specs.FourWordsLemmas.{row_in, row_out}
use Rattle.sets.proofs.Counts.{size_none, size_add, size_le, size_of_bits}

-- a member by its word and its bit
pub row_at : (ws : List ℕ) (i j : ℕ) → i < 4 → j < 64 → in_row ws (i * 64 + j) ≡ eqb (bit_at (get_or ws i 0) j) 1
row_at ws i j p q = row_in ws (i * 64 + j) (omega arith) ∙ ap₂ (λ (x y : ℕ). eqb (bit_at (get_or ws x 0) y) 1) (div-mul-add i 64 j q) (mod-mul-add i 64 j q)

-- no member in a word of 0
row_zero : (ws : List ℕ) (n : ℕ) → n < 256 → get_or ws (n / 64) 0 ≡ 0 → in_row ws n ≡ false
row_zero ws n h z = row_in ws n h ∙ ap (λ w. eqb (bit_at w (n % 64)) 1) z ∙ ap (λ b. eqb b 1) (bit_at-zero (n % 64))

pub row_either : (us vs ws : List ℕ) → ((q : ℕ) → q < 4 → get_or ws q 0 ≡ bit_or (get_or us q 0) (get_or vs q 0)) → (n : ℕ) → in_row ws n ≡ (in_row us n || in_row vs n)
row_either us vs ws h n =
    let word = h (n / 64) in
    let bit = bit_at_or (get_or us (n / 64) 0) (get_or vs (n / 64) 0) (n % 64) in
    let left = bit_at-lt (get_or us (n / 64) 0) (n % 64) in
    let right = bit_at-lt (get_or vs (n / 64) 0) (n % 64) in
    grind (arith, nat_tests)

-- ---- equal rows

same_bit : (a b : ℕ) → a < 2 → b < 2 → eqb a 1 ≡ eqb b 1 → a ≡ b
same_bit a b p q e = grind (arith, nat_tests)

same_words : (us vs : List ℕ) → length us ≡ 4 → length vs ≡ 4 → ((i : ℕ) → get_or us i 0 < 2 ^ 64) → ((i : ℕ) → get_or vs i 0 < 2 ^ 64)
    → SameMembers (in_row us) (in_row vs) → us ≡ vs
same_words us vs m n p q h = ext_get_or 0 us vs (m ∙ sym n) (λ i l.
    same_from_bits_below 64 (get_or us i 0) (get_or vs i 0) (p i) (q i) (λ j k.
    same_bit _ _ (bit_at-lt _ _) (bit_at-lt _ _) (sym (row_at us i j (omega arith) k) ∙ h (i * 64 + j) ∙ row_at vs i j (omega arith) k)))

pub row_equal : (us vs : List ℕ) (r : Bool) → length us ≡ 4 → length vs ≡ 4 → ((i : ℕ) → get_or us i 0 < 2 ^ 64) → ((i : ℕ) → get_or vs i 0 < 2 ^ 64)
    → r ≡ pointwise nat_eq us vs → IsTrue r ↔ SameMembers (in_row us) (in_row vs)
row_equal us vs true m n p q is = ((λ _ k. ap (λ ws. in_row ws k) (told_text us vs true is)), (λ _. refl))
row_equal us vs false m n p q is = ((λ e. absurd (false≢true e)), (λ h. absurd (told_text us vs false is (same_words us vs m n p q h))))

-- ---- one more member

pub row_with : (ws : List ℕ) (n k : ℕ) → length ws ≡ 4 → n < 256
    → in_row (set ws (n / 64) (bit_or (get_or ws (n / 64) 0) ((1 * 2 ^ (n % 64)) % 18446744073709551616))) k ≡ with_member 256 n (in_row ws) k
row_with ws n k len h = ⊎_elim
    (λ (e : k / 64 ≡ n / 64).
    let word = ap (λ (q : ℕ). get_or (set ws (n / 64) more) q 0) e ∙ get_or-set_same ws (n / 64) more 0 (omega arith) in
    let old = ap (λ (q : ℕ). get_or ws q 0) e in
    ⊎_elim
    (λ (x : k % 64 ≡ n % 64). let here = bit_at_set_same w64 (get_or ws (n / 64) 0) (n % 64) (omega arith) in grind (arith, nat_tests))
    (λ (x : k % 64 ≡ n % 64 → ⊥). let there = bit_at_set_other w64 (get_or ws (n / 64) 0) (n % 64) (omega arith) (k % 64) x in grind (arith, nat_tests))
    (cases_eq (k % 64) (n % 64)))
    (λ (e : k / 64 ≡ n / 64 → ⊥). let word = get_or-set_other ws (n / 64) (k / 64) more 0 e in grind (arith, nat_tests))
    (cases_eq (k / 64) (n / 64))
  where
    more : ℕ
    more = bit_or (get_or ws (n / 64) 0) ((1 * 2 ^ (n % 64)) % 18446744073709551616)

-- ---- how many

-- the members in the first k words
row_count_upto : (ws : List ℕ) → length ws ≡ 4 → ((i : ℕ) → get_or ws i 0 < 2 ^ 64) → (k : ℕ) → k ≤ 4 → sum_by ones (take k ws) ≡ size (k * 64) (in_row ws)
row_count_upto ws len fits zero h = sym (size_none (in_row ws))
row_count_upto ws len fits (suc k) h =
    let before = row_count_upto ws len fits k (omega arith) in
    let word = size_of_bits 64 (get_or ws k 0) (fits k) ∙ size_alike 64 _ _ (λ j l. sym (row_at ws k j (omega arith) l)) in
    let all = size_add (k * 64) 64 (in_row ws) in
    let next : suc k * 64 ≡ k * 64 + 64 = omega arith in
    rw (next, take-suc ws k 0 (omega arith)) (sum_by_push ones (take k ws) (get_or ws k 0) ∙ omega arith)

pub row_count : (ws : List ℕ) → length ws ≡ 4 → ((i : ℕ) → get_or ws i 0 < 2 ^ 64) → sum_by ones ws ≡ size 256 (in_row ws)
row_count ws len fits = ap (sum_by ones) (sym (take_all 4 ws (omega arith))) ∙ row_count_upto ws len fits 4 (omega arith)

pub row_count_fits : (ws : List ℕ) → length ws ≡ 4 → ((i : ℕ) → get_or ws i 0 < 2 ^ 64) → sum_by ones ws < 2 ^ 16
row_count_fits ws len fits = let is = row_count ws len fits in let most = size_le 256 (in_row ws) in omega arith

-- ---- the next member

-- the first member in the words from s on, where the words between s and i are 0 and that at i is not
pub row_next : (ws : List ℕ) (s i : ℕ) → i < 4 → ((q : ℕ) → s ≤ q → q < i → get_or ws q 0 ≡ 0) → 0 < get_or ws i 0 → get_or ws i 0 < 2 ^ 64
    → (in_row ws (i * 64 + trailing_zeros w64 (get_or ws i 0)) ≡ true) × ((n : ℕ) → s * 64 ≤ n → n < i * 64 + trailing_zeros w64 (get_or ws i 0) → in_row ws n ≡ false)
row_next ws s i l zeros full fits =
    let lowest = bit_at-trailing_zeros w64 (get_or ws i 0) full fits in (
      row_at ws i _ l lowest.0 ∙ ap (λ b. eqb b 1) lowest.1,
      λ n a b. ⊎_elim
          (λ (x : n < i * 64). row_zero ws n (omega arith) (zeros (n / 64) (omega arith) (omega arith)))
          (λ (x : i * 64 ≤ n).
          let at : i * 64 + (n - i * 64) ≡ n = omega arith in
          ap (in_row ws) (sym at) ∙ row_at ws i (n - i * 64) l (omega (arith, lowest.0)) ∙ ap (λ b. eqb b 1) (lowest.2 (n - i * 64) (omega arith)))
          (cases_lt n (i * 64)),
    )

-- where the search for the next member begins: from's word is w, at place s
pub record Start (ws : List ℕ) (from s w : ℕ) : Type 0 where
  pub below : from < 256
  pub place : s ≡ from / 64
  pub word : w ≡ get_or ws s 0

pub start_at : {ws : List ℕ} {from s w : ℕ} → length ws ≡ 4 → s ≡ from / 64 → true ≡ ltb s (length ws) → w ≡ get_or ws s w → Start ws from s w
start_at {ws = ws} {s = s} {w = w} len place found is =
    let within = ltb-true s (length ws) (sym found) in
    record { below = omega arith; place = place; word = get_or_read ws s w within is 0 }

-- bit j of what is left of from's word, once the bits below from are shifted out
left : {ws : List ℕ} {from s w : ℕ} → Start ws from s w → (j : ℕ) → from % 64 + j < 64 → in_row ws (from + j) ≡ eqb (bit_at (w / 2 ^ (from % 64)) j) 1
left {ws = ws} {from = from} {s = s} {w = w} b j h =
    let at : from + j ≡ s * 64 + (from % 64 + j) = omega (arith, b.place) in
    ap (in_row ws) at
    ∙ row_at ws s (from % 64 + j) (omega (arith, b.place, b.below)) h
    ∙ ap (λ (x : ℕ). eqb (x % 2) 1) (sym (shr-shr (get_or ws s 0) (from % 64) j))
    ∙ ap (λ (x : ℕ). eqb (bit_at (x / 2 ^ (from % 64)) j) 1) (sym b.word)

-- the next member is in from's word, if anything is left of that
pub next_in_word : {ws : List ℕ} {from s w : ℕ} → Start ws from s w → get_or ws s 0 < 2 ^ 64 → 0 < w / 2 ^ (from % 64)
    → NextFrom (in_row ws) from (Some (from + trailing_zeros w64 (w / 2 ^ (from % 64))))
next_in_word {ws = ws} {from = from} {w = w} b fits full =
    let small : w / 2 ^ (from % 64) < 2 ^ 64 = omega (arith, lib.Pow.shr_le w (from % 64), b.word) in
    let lowest = bit_at-trailing_zeros w64 (w / 2 ^ (from % 64)) full small in
    let within : from % 64 + trailing_zeros w64 (w / 2 ^ (from % 64)) < 64 = ⊎_elim
    (λ (x : from % 64 + trailing_zeros w64 (w / 2 ^ (from % 64)) < 64). x)
    (λ (x : 64 ≤ from % 64 + trailing_zeros w64 (w / 2 ^ (from % 64))).
    let high = bit_at_above w 64 (from % 64 + trailing_zeros w64 (w / 2 ^ (from % 64))) (omega (arith, b.word)) x in
    let same = ap (λ (x : ℕ). x % 2) (shr-shr w (from % 64) (trailing_zeros w64 (w / 2 ^ (from % 64)))) in
    absurd (omega (arith, lowest.1, same, high)))
    (cases_lt _ 64) in (
      omega arith,
      left b _ within ∙ ap (λ (x : ℕ). eqb x 1) lowest.1,
      λ n a h. let at : from + (n - from) ≡ n = omega arith in
          ap (in_row ws) (sym at) ∙ left b (n - from) (omega (arith, within)) ∙ ap (λ (x : ℕ). eqb x 1) (lowest.2 (n - from) (omega arith)),
    )

none_left : {ws : List ℕ} {from s w : ℕ} → Start ws from s w → w / 2 ^ (from % 64) ≡ 0 → (n : ℕ) → from ≤ n → n < (s + 1) * 64 → in_row ws n ≡ false
none_left {ws = ws} {from = from} {w = w} b z n a h =
    let at : from + (n - from) ≡ n = omega arith in
    ap (in_row ws) (sym at)
    ∙ left b (n - from) (omega (arith, b.place))
    ∙ ap (λ (x : ℕ). eqb (bit_at x (n - from)) 1) z
    ∙ ap (λ (x : ℕ). eqb x 1) (bit_at-zero (n - from))

-- the words from s on
words_from : (ws : List ℕ) (s : ℕ) → length ws ≡ 4 → mid_of s (4 - s) ws ≡ drop s ws
words_from ws s len = ap (λ n. mid_of s (n - s) ws) (sym len) ∙ take_rest ws s

is_zero : (ws : List ℕ) (s q : ℕ) → s ≤ q → not (eqb (get_or (drop s ws) (q - s) 0) 0) ≡ false → get_or ws q 0 ≡ 0
is_zero ws s q a e = let at : s + (q - s) ≡ q = omega arith in ap (λ i. get_or ws i 0) (sym at) ∙ sym (get_or-drop s ws (q - s) 0) ∙ eqb-true _ _ (not-false _ e)

none_passes : (p : ℕ → Bool) (xs : List ℕ) → position p xs ≡ None → (k d : ℕ) → k < length xs → p (get_or xs k d) ≡ false
none_passes p xs none k d l = fails_before_first p xs k d (⊎_elim
    (λ (x : position_or_len p xs < length xs). let found = lt-ltb _ _ x in let no = rw found at none in cc)
    (λ (x : length xs ≤ position_or_len p xs). omega arith)
    (cases_lt (position_or_len p xs) (length xs)))

-- the next member is in the first word that is not 0 past from's word, of which nothing is left
pub next_in_later_word : {ws : List ℕ} {from s w : ℕ} → Start ws from s w → (k : ℕ) → length ws ≡ 4 → w / 2 ^ (from % 64) ≡ 0
    → position (λ w. not (eqb w 0)) (mid_of (s + 1) (4 - (s + 1)) ws) ≡ Some k → get_or ws (s + 1 + k) 0 < 2 ^ 64
    → NextFrom (in_row ws) from (Some ((s + 1 + k) * 64 + trailing_zeros w64 (get_or ws (s + 1 + k) 0)))
next_in_later_word {ws = ws} {from = from} {s = s} b k len z found fits =
    let first = position-Some _ (drop (s + 1) ws) k 0 (ap (position _) (sym (words_from ws (s + 1) len)) ∙ found) in
    let within : s + 1 + k < 4 = omega (arith, first.0, length-drop (s + 1) ws) in
    let full : 0 < get_or ws (s + 1 + k) 0 = not_zero _ (ap (λ (x : ℕ). not (eqb x 0)) (sym (get_or-drop (s + 1) ws k 0)) ∙ first.1) in
    let next = row_next ws (s + 1) (s + 1 + k) within (λ q a l. is_zero ws (s + 1) q a (first.2 (q - (s + 1)) (omega arith))) full fits in (
      omega (arith, b.place),
      next.0,
      λ n a h. ⊎_elim (λ (x : n < (s + 1) * 64). none_left b z n a x) (λ (x : (s + 1) * 64 ≤ n). next.1 n x h) (cases_lt n ((s + 1) * 64)),
    )
  where
    not_zero : (x : ℕ) → not (eqb x 0) ≡ true → 0 < x
    not_zero x e = grind (arith, nat_tests)

-- there is none, if nothing is left of from's word and the words past it are 0
pub next_in_no_word : {ws : List ℕ} {from s w : ℕ} → Start ws from s w → length ws ≡ 4 → w / 2 ^ (from % 64) ≡ 0
    → position (λ w. not (eqb w 0)) (mid_of (s + 1) (4 - (s + 1)) ws) ≡ None → (n : ℕ) → from ≤ n → in_row ws n ≡ false
next_in_no_word {ws = ws} {s = s} b len z none n a = ⊎_elim
    (λ (x : n < 256). ⊎_elim
    (λ (y : n < (s + 1) * 64). none_left b z n a y)
    (λ (y : (s + 1) * 64 ≤ n).
    row_zero ws n x (is_zero ws (s + 1) (n / 64) (omega arith) (none_passes _ (drop (s + 1) ws) (ap (position _) (sym (words_from ws (s + 1) len)) ∙ none) (n / 64 - (s + 1)) 0 (omega (arith, length-drop (s + 1) ws)))))
    (cases_lt n ((s + 1) * 64)))
    (λ (x : 256 ≤ n). row_out ws n x)
    (cases_lt n 256)
