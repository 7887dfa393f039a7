-- What is true of lists of ascending numbers, and of the records that list them. Assumes nothing.
use Rattle.std.proofs.Common.{◌≡◌, ℕ, zero, suc, ◌+◌, ◌-◌, ◌<◌, ◌≤◌, Bool, true, false, ◌||◌, ltb, eqb, List, [], ◌∷◌, ◌++◌, length, get_or, set, replicate, take, Some, refl, subst, sym, ap, ap₂, ◌∙◌, ⊎_elim, add-one, add-zero, arith}
use Rattle.std.specs.Prelude.{IsTrue, ◌↔◌, nat_eq}
use lib.Pointwise.{pointwise}
use Rattle.std.specs.Cmp.Lexicographic.{told_text}
use Rattle.std.specs.List.{IsAllAdjacentAnswer}
use Rattle.std.specs.List.Sorted.{IsPartitionedBy, IsPartitionPoint}
use Rattle.std.proofs.lemmas.List.Sorted.{IsPartitionedBy-ltb}
use Rattle.std.proofs.lemmas.List.{get_or-take, get_or_read, length-take-le, length-append, take_more_set}
use Rattle.std.proofs.lemmas.List.Folds.{list_any_at, list_any_none}
use Rattle.std.proofs.lemmas.Bool.{false≢true, ltb-true, ltb-false, le-leb, leb-true, eq-eqb, ne_eqb, cases_eq, cases_lt, false_from_ne_true, and_parts, and_from, or_left}
use Rattle.std.proofs.lemmas.Bool.Decides.{nat_tests}
use Rattle.sets.specs.Members.{one, size, SameMembers, NextFrom}
use Rattle.sets.proofs.Sizes.{size_alike}
use Rattle.sets.specs.declared.list_record.ListRecord.{ListRecord}
use Rattle.sets.specs.Ascending.{ascend_from, among}
use Rattle.sets.specs.ListRecords.{listed, passes, members, Ascends}
use Rattle.sets.specs.ListRecordsLemmas.{ascend_parts, ascend_cons, among_between, ascend_push}

not_among : (x n : ℕ) (xs : List ℕ) → ascend_from (x + 1) xs ≡ true → n ≤ x → among xs n ≡ false
not_among x n xs a h = false_from_ne_true _ (λ e. let b = among_between (x + 1) xs n a e in omega arith)

length_ascending : (least : ℕ) (xs : List ℕ) → ascend_from least xs ≡ true → least ≤ 64 → least + length xs ≤ 64
length_ascending least [] a h = omega arith
length_ascending least (x ∷ xs) a h = let p = ascend_parts least x xs a in let rest = length_ascending (x + 1) xs p.2 (omega arith) in omega arith

-- ---- how many

size_empty : (w : ℕ) → size w (λ _. false) ≡ 0
unfolding size
size_empty zero = refl
size_empty (suc w) = let h = size_empty w in omega arith

pub size_more : (w m : ℕ) (p q : ℕ → Bool) → m < w → p m ≡ false → ((n : ℕ) → q n ≡ (eqb m n || p n)) → size w q ≡ size w p + 1
unfolding size
size_more zero m p q l h e = absurd (let z : ⊥ = omega arith in z)
size_more (suc v) m p q l h e = ⊎_elim
    (λ (x : m ≡ v).
    let rest = size_alike v q p (λ k b. e k ∙ ap (λ (t : Bool). t || p k) (ne_eqb m k (λ (y : m ≡ k). omega arith))) in
    let top : one (q v) ≡ 1 = ap one (e v ∙ ap (λ (t : Bool). t || p v) (eq-eqb m v x)) in
    let was : one (p v) ≡ 0 = ap one (ap p (sym x) ∙ h) in
    omega arith)
    (λ (x : m ≡ v → ⊥).
    let rest = size_more v m p q (omega arith) h e in
    let top : one (q v) ≡ one (p v) = ap one (e v ∙ ap (λ (t : Bool). t || p v) (ne_eqb m v x)) in
    omega arith)
    (cases_eq m v)

size_ascending : (least : ℕ) (xs : List ℕ) → ascend_from least xs ≡ true → size 64 (among xs) ≡ length xs
size_ascending least [] a = size_empty 64
size_ascending least (x ∷ xs) a =
    let p = ascend_parts least x xs a in
    let rest = size_ascending (x + 1) xs p.2 in
    let more = size_more 64 x (among xs) (among (x ∷ xs)) p.1 (not_among x x xs p.2 (omega arith)) (λ n. refl) in
    omega arith

ascend_take : (least k : ℕ) (xs : List ℕ) → ascend_from least xs ≡ true → ascend_from least (take k xs) ≡ true
ascend_take least zero xs a = refl
ascend_take least (suc k) [] a = refl
ascend_take least (suc k) (x ∷ xs) a = let p = ascend_parts least x xs a in ascend_cons least x (take k xs) p.0 p.1 (ascend_take (x + 1) k xs p.2)

-- the first k of them are k numbers
pub count_list : (xs : List ℕ) → ascend_from 0 xs ≡ true → (k : ℕ) → k ≤ length xs → size 64 (among (take k xs)) ≡ k
count_list xs a k h = size_ascending 0 (take k xs) (ascend_take 0 k xs a) ∙ length-take-le k xs h

-- ---- lists with the same members

first_among : (x : ℕ) (xs : List ℕ) → among (x ∷ xs) x ≡ true
first_among x xs = or_left (eqb x x) (among xs x) (eq-eqb x x refl)

least_first : (least x n : ℕ) (xs : List ℕ) → ascend_from least (x ∷ xs) ≡ true → among (x ∷ xs) n ≡ true → x ≤ n
least_first least x n xs a h = let p = ascend_parts least x xs a in (among_between x (x ∷ xs) n (ascend_cons x x xs (omega arith) p.1 p.2) h).0

tails_same : (x y n : ℕ) (xs ys : List ℕ) → ascend_from (x + 1) xs ≡ true → ascend_from (y + 1) ys ≡ true → x ≡ y → among (x ∷ xs) n ≡ among (y ∷ ys) n → among xs n ≡ among ys n
tails_same x y n xs ys a b e h = let left = not_among x n xs a in let right = not_among y n ys b in grind (arith, nat_tests)

same_ascending : (l m : ℕ) (xs ys : List ℕ) → ascend_from l xs ≡ true → ascend_from m ys ≡ true → SameMembers (among xs) (among ys) → xs ≡ ys
same_ascending l m [] [] a b h = refl
same_ascending l m [] (y ∷ ys) a b h = absurd (false≢true (h y ∙ first_among y ys))
same_ascending l m (x ∷ xs) [] a b h = absurd (false≢true (sym (h x) ∙ first_among x xs))
same_ascending l m (x ∷ xs) (y ∷ ys) a b h =
    let p = ascend_parts l x xs a in
    let q = ascend_parts m y ys b in
    let up = least_first m y x ys b (sym (h x) ∙ first_among x xs) in
    let down = least_first l x y xs a (h y ∙ first_among y ys) in
    let first : x ≡ y = omega arith in
    ap₂ (λ (z : ℕ) (zs : List ℕ). z ∷ zs) first (same_ascending (x + 1) (y + 1) xs ys p.2 q.2 (λ n. tails_same x y n xs ys p.2 q.2 first (h n)))

-- ---- by place

at_least : (least : ℕ) (xs : List ℕ) → ascend_from least xs ≡ true → (i d : ℕ) → i < length xs → (least ≤ get_or xs i d) × (get_or xs i d < 64)
at_least least xs a i d h = among_between least xs (get_or xs i d) a (list_any_at (λ x. eqb x (get_or xs i d)) xs i d h (eq-eqb _ _ refl))

rises : (least : ℕ) (xs : List ℕ) → ascend_from least xs ≡ true → (i j d : ℕ) → i < j → j < length xs → get_or xs i d < get_or xs j d
rises least [] a i j d l h = absurd (let z : ⊥ = omega arith in z)
rises least (x ∷ xs) a zero zero d l h = absurd (let z : ⊥ = omega arith in z)
rises least (x ∷ xs) a (suc i) zero d l h = absurd (let z : ⊥ = omega arith in z)
rises least (x ∷ xs) a zero (suc j) d l h = let first = at_least (x + 1) xs (ascend_parts least x xs a).2 j d (omega arith) in omega arith
rises least (x ∷ xs) a (suc i) (suc j) d l h = rises (x + 1) xs (ascend_parts least x xs a).2 i j d (omega arith) (omega arith)

-- each step up is by one at least: so with i = 0, item d is at least d
pub climb : (least : ℕ) (xs : List ℕ) → ascend_from least xs ≡ true → (i d : ℕ) → i + d < length xs → get_or xs i 0 + d ≤ get_or xs (i + d) 0
climb least xs a i zero h = rw (add-zero i) (omega arith)
climb least xs a i (suc d) h =
    let before = climb least xs a i d (omega arith) in
    let step = rises least xs a (i + d) (i + suc d) 0 (omega arith) h in
    omega arith

rises_over : (least : ℕ) (xs : List ℕ) → ((i : ℕ) → i < length xs → get_or xs i 0 < 64) → ((i : ℕ) → suc i < length xs → get_or xs i 0 < get_or xs (suc i) 0)
    → (0 < length xs → least ≤ get_or xs 0 0) → ascend_from least xs ≡ true
rises_over least [] small up low = refl
rises_over least (x ∷ xs) small up low =
    ascend_cons least x xs (low (omega arith)) (small 0 (omega arith))
    (rises_over (x + 1) xs (λ i h. small (suc i) (omega arith)) (λ i h. up (suc i) (omega arith)) (λ h. let next = up 0 (omega arith) in omega arith))

-- ---- records

module _ (r : ListRecord) (h : IsTrue (passes r)) where
  len_fits : r.len ≤ 64
  len_fits = leb-true _ _ (and_parts _ _ h).0

  pub ascending : ascend_from 0 (listed r) ≡ true
  ascending = (and_parts _ _ h).1

  members_are : (n : ℕ) → members r n ≡ among (listed r) n
  members_are n = rw h

pub zeros : (n i : ℕ) → get_or {A = ℕ} (replicate n 0) i 0 ≡ 0
zeros zero i = refl
zeros (suc n) zero = refl
zeros (suc n) (suc i) = zeros n i

-- ---- one more at the end

pub push_fits : (xs : List ℕ) (n : ℕ) → ascend_from 0 xs ≡ true → n < 64 → ((k : ℕ) → among xs k ≡ true → k < n) → length xs < 64
push_fits xs n a small above =
    let all = length_ascending 0 (xs ++ n ∷ []) (ascend_push 0 xs n a (omega arith) small above) (omega arith) in
    omega (arith, length-append xs (n ∷ []))

module _ (r : ListRecord) (n : ℕ) (h : IsTrue (passes r)) (whole : length r.items ≡ 64) (small : n < 64) (above : (k : ℕ) → members r k ≡ true → k < n) where
  pushed : ascend_from 0 (listed r ++ n ∷ []) ≡ true
  pushed = ascend_push 0 (listed r) n (ascending r h) (omega arith) small (λ k e. above k (members_are r h k ∙ e))

  pub push_room : r.len < 64
  push_room =
      let fits = push_fits (listed r) n (ascending r h) small (λ k e. above k (members_are r h k ∙ e)) in
      omega (arith, length-take-le r.len r.items (omega (arith, len_fits r h)))

  pub push_passes : IsTrue (passes record { len = r.len + 1; items = set r.items r.len n })
  push_passes = and_from _ _ (le-leb _ _ (omega (arith, push_room))) (ap (ascend_from 0) (take_more_set r.items r.len n (omega (arith, push_room))) ∙ pushed)

-- ---- the number of members, and records with the same

pub size_members : (r : ListRecord) → IsTrue (passes r) → length r.items ≡ 64 → size 64 (members r) ≡ r.len
size_members r h whole =
    size_alike 64 (members r) (among (listed r)) (λ k l. members_are r h k)
    ∙ size_ascending 0 (listed r) (ascending r h)
    ∙ length-take-le r.len r.items (omega (arith, len_fits r h))

pub same_records : (r s : ListRecord) (b : Bool) → IsTrue (passes r) → IsTrue (passes s) → b ≡ pointwise nat_eq (listed r) (listed s) → IsTrue b ↔ SameMembers (members r) (members s)
same_records r s true g h is = ((λ _ k. members_are r g k ∙ ap (λ (xs : List ℕ). among xs k) (told_text (listed r) (listed s) true is) ∙ sym (members_are s h k)), (λ _. refl))
same_records r s false g h is = (
  (λ e. absurd (false≢true e)),
  (λ same. absurd (told_text (listed r) (listed s) false is
      (same_ascending 0 0 (listed r) (listed s) (ascending r g) (ascending s h) (λ k. sym (members_are r g k) ∙ same k ∙ members_are s h k)))),
)

-- ---- the next member

not_listed : (xs : List ℕ) (n : ℕ) → ((k d : ℕ) → k < length xs → get_or xs k d ≡ n → ⊥) → among xs n ≡ false
not_listed xs n h = list_any_none (λ x. eqb x n) xs (λ k d l. ne_eqb _ _ (h k d l))

pub parted : (r : ListRecord) (t : ℕ) → IsTrue (passes r) → IsPartitionedBy (λ y. ltb y t) (listed r)
parted r t h = IsPartitionedBy-ltb (λ x. x) (listed r) t (λ i j d a l. ⊎_elim
    (λ (e : i ≡ j). let same = ap (λ (k : ℕ). get_or (listed r) k d) e in omega arith)
    (λ (e : i ≡ j → ⊥). let up = rises 0 (listed r) (ascending r h) i j d (omega arith) l in omega arith)
    (cases_eq i j))

abbrev Parts : ListRecord → ℕ → ℕ → Type 0
Parts r t i = IsPartitionPoint (λ y. ltb y t ≡ true) (λ y. ltb y t ≡ false) (listed r) i

pub next_none : (r : ListRecord) (t i : ℕ) → IsTrue (passes r) → Parts r t i → length (listed r) ≤ i → (n : ℕ) → t ≤ n → members r n ≡ false
next_none r t i h part end n a = members_are r h n ∙ not_listed (listed r) n (λ k d l e. let low = ltb-true _ _ (part.0 k d (omega arith) (omega arith)) in omega arith)

pub next_some : (r : ListRecord) (t i x : ℕ) → IsTrue (passes r) → Parts r t i → i < length (listed r) → x ≡ get_or (listed r) i x → NextFrom (members r) t (Some x)
next_some r t i x h part l is = (
  (let high = ltb-false _ _ (part.1 i x (omega arith) l) in omega arith),
  members_are r h x ∙ list_any_at (λ y. eqb y x) (listed r) i x l (eq-eqb _ _ (sym is)),
  λ n a b. members_are r h n ∙ not_listed (listed r) n (λ k d m e. ⊎_elim
      (λ (z : k < i). let low = ltb-true _ _ (part.0 k d (omega arith) z) in omega arith)
      (λ (z : i ≤ k). let first = get_or_read (listed r) i x l is d in ⊎_elim
      (λ (y : i ≡ k). let same = ap (λ (j : ℕ). get_or (listed r) j d) y in omega arith)
      (λ (y : i ≡ k → ⊥). let up = rises 0 (listed r) (ascending r h) i k d (omega arith) m in omega arith)
      (cases_eq i k))
      (cases_lt k i)),
)

-- ---- the check

-- numbers that rise are no greater than the last
below_last : (xs : List ℕ) → ((i : ℕ) → i + 1 < length xs → get_or xs i 0 < get_or xs (i + 1) 0) → (d i : ℕ) → i + d + 1 ≡ length xs → get_or xs i 0 ≤ get_or xs (i + d) 0
below_last xs up zero i e = rw (add-zero i) (omega arith)
below_last xs up (suc d) i e =
    let next = up i (omega arith) in
    let rest = below_last xs up d (i + 1) (omega arith) in
    let same : i + 1 + d ≡ i + suc d = omega arith in
    let there = ap (λ (j : ℕ). get_or xs j 0) same in
    omega (arith, next, rest, there)

-- the check of a list by its last number, if it has one, and its neighbours
pub ascends_by : (xs : List ℕ) (r : Bool) → ((last : ℕ) → last + 1 ≡ length xs → get_or xs last 0 < 64) → IsAllAdjacentAnswer (λ x y b. b ≡ ltb x y) xs r → r ≡ ascend_from 0 xs
ascends_by xs true small up =
    let rise : (i : ℕ) → i + 1 < length xs → get_or xs i 0 < get_or xs (i + 1) 0 = λ i l. ltb-true _ _ (sym (up i 0 (omega arith))) in
    sym (rises_over 0 xs
    (λ i l.
    let last : (d : ℕ) → i + d + 1 ≡ length xs → get_or xs i 0 < 64 = λ d e. omega (arith, below_last xs rise d i e, small (i + d) e) in
    last (length xs - (i + 1)) (omega arith))
    (λ i l. let next = rise i (omega arith) in let there = ap (λ (j : ℕ). get_or xs j 0) (add-one i) in omega (arith, next, there))
    (λ _. omega arith))
ascends_by xs false small falls = sym (false_from_ne_true _ (λ e.
    let up = rises 0 xs e falls.0 (falls.0 + 1) 0 (omega arith) falls.1 in
    let not_up = ltb-false _ _ (sym (falls.2 0)) in
    omega arith))

pub not_small : (xs : List ℕ) (k : ℕ) → k < length xs → 64 ≤ get_or xs k 0 → false ≡ ascend_from 0 xs
not_small xs k l h = sym (false_from_ne_true _ (λ e. let at = at_least 0 xs e k 0 l in omega arith))

-- the check of a record says that its items ascend
passes_ascends : (r : ListRecord) → length r.items ≡ 64 → IsTrue (passes r) ↔ Ascends r
passes_ascends r whole = (
  (λ h.
      let a = ascending r h in
      let fits = len_fits r h in
      let long = length-take-le r.len r.items (omega arith) in
      let at : (i : ℕ) → i < r.len → get_or (listed r) i 0 ≡ get_or r.items i 0 = λ i l. get_or-take r.len r.items i 0 l in (
        fits,
        (λ i l. let b = at_least 0 (listed r) a i 0 (omega arith) in let e = at i l in omega arith),
        (λ i l. let b = rises 0 (listed r) a i (i + 1) 0 (omega arith) (omega arith) in let e = at i (omega arith) in let f = at (i + 1) l in omega arith),
      )),
  (λ h.
      let long = length-take-le r.len r.items (omega (arith, h.0)) in
      let at : (i : ℕ) → i < r.len → get_or (listed r) i 0 ≡ get_or r.items i 0 = λ i l. get_or-take r.len r.items i 0 l in
      and_from _ _ (le-leb _ _ h.0) (rises_over 0 (listed r)
      (λ i l. let b = h.1 i (omega arith) in let e = at i (omega arith) in omega arith)
      (λ i l. let b = h.2 i (omega arith) in let e = at i (omega arith) in let f = at (suc i) (omega arith) in let g = ap (λ (k : ℕ). get_or r.items k 0) (add-one i) in omega arith)
      (λ _. omega arith))),
)

pub check_ascends : (r : ListRecord) (b : Bool) → length r.items ≡ 64 → b ≡ passes r → IsTrue b ↔ Ascends r
check_ascends r b whole is = subst (λ (x : Bool). IsTrue x ↔ Ascends r) (sym is) (passes_ascends r whole)
