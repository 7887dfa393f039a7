-- The report of two listed tables, computed.
use Rattle.std.proofs.Common.{◌≡◌, ℕ, zero, suc, ◌<◌, ◌≤◌, Bool, true, false, cond, not, ◌&&◌, ◌||◌, eqb, ltb, ◌⊎◌, List, [], ◌∷◌, ◌++◌, length, get_or, Some, None, Option, sym, refl, ap, ◌∙◌, subst, inl, inr, true≢false, arith}
use mathlib.Core.Bool.{false≢true, beq}
use Rattle.std.proofs.lemmas.Bool.{and_parts, and_from, or_cases, ltb-true, lt-ltb, eqb-true, eq-eqb, both_ways, not-true}
use Rattle.rules.specs.Paths.{Exit, Holds, Event}
use Rattle.rules.specs.Table.{Table, Sound}
use Rattle.rules.specs.Alteration.{Leaves, Named, KeptRow, KeepsNumbers, SameStep}
use Rattle.rules.specs.Counts.{Among, NoRepeat, Counts}
use Rattle.rules.specs.Report.{Tally, Reported, CountedRows}
use Rattle.three_stages.specs.Example.{has_stage, has_arc, book_of, tally_of}
use Rattle.rules.proofs.Booleans.{both}
use Rattle.std.proofs.lemmas.Option.{none-some, same_Some}
use Rattle.rules.proofs.RowCounts.{rows_count_sets}
use Rattle.three_stages.proofs.FiniteTables.{Arcs, true_or, imp, imp_true, all_below, all_below_at, some_arc, some_arc_at, at_some_arc}
use Rattle.three_stages.proofs.ListedTables.{table_of, listed_exit, lacks, no_two}

-- counting what a test picks

abbrev pub picked : {A : Type 0} → (A → Bool) → List A → List A
picked p [] = []
picked p (x ∷ xs) = cond (p x) (x ∷ picked p xs) (picked p xs)

picked_among : {A : Type 0} (p : A → Bool) (xs : List A) (x : A) → Among x (picked p xs) → Among x xs × (p x ≡ true)
picked_among p [] x m = absurd m
picked_among p (y ∷ xs) x m = go (λ n. picked_among p xs x n) (p y) refl m
  where
    go : (Among x (picked p xs) → Among x xs × (p x ≡ true)) → (b : Bool) → p y ≡ b → Among x (cond b (y ∷ picked p xs) (picked p xs)) →
        Among x (y ∷ xs) × (p x ≡ true)
    go ih true h (inl e) = (inl e, ap p e ∙ h)
    go ih true h (inr n) = let a = ih n in (inr a.0, a.1)
    go ih false h n = let a = ih n in (inr a.0, a.1)

among_picked : {A : Type 0} (p : A → Bool) (xs : List A) (x : A) → Among x xs → p x ≡ true → Among x (picked p xs)
among_picked p [] x m h = absurd m
among_picked p (y ∷ xs) x m h = go (λ n. among_picked p xs x n h) (p y) refl m
  where
    go : (Among x xs → Among x (picked p xs)) → (b : Bool) → p y ≡ b → Among x (y ∷ xs) → Among x (cond b (y ∷ picked p xs) (picked p xs))
    go ih true k (inl e) = inl e
    go ih true k (inr n) = inr (ih n)
    go ih false k (inl e) = absurd (both_ways (p y) k (sym (ap p e) ∙ h))
    go ih false k (inr n) = ih n

picked_no_repeat : {A : Type 0} (p : A → Bool) (xs : List A) → NoRepeat xs → NoRepeat (picked p xs)
picked_no_repeat p [] n = tt
picked_no_repeat p (x ∷ xs) n = go (picked_no_repeat p xs n.1) (p x)
  where
    go : NoRepeat (picked p xs) → (b : Bool) → NoRepeat (cond b (x ∷ picked p xs) (picked p xs))
    go ih true = (λ m. n.0 (picked_among p xs x m).0, ih)
    go ih false = ih

pub counted : {A : Type 0} (P : A → Type 0) (p : A → Bool) (xs : List A) → NoRepeat xs → ((x : A) → P x → Among x xs × (p x ≡ true)) →
    ((x : A) → Among x xs → p x ≡ true → P x) → Counts A P (length (picked p xs))
counted P p xs n there here = record {
  list = picked p xs;
  no_repeat = picked_no_repeat p xs n;
  exactly = λ x. (λ m. let a = picked_among p xs x m in here x a.0 a.1, λ h. let a = there x h in among_picked p xs x a.0 a.1);
  count = refl;
}

abbrev pub below : ℕ → List ℕ
below zero = []
below (suc n) = n ∷ below n

pub below_among : (n r : ℕ) → r < n → Among r (below n)
below_among zero r h = absurd (omega arith)
below_among (suc n) r h = go (λ l. below_among n r l) (eqb r n) refl
  where
    go : (r < n → Among r (below n)) → (b : Bool) → eqb r n ≡ b → Among r (below (suc n))
    go ih true e = inl (eqb-true r n e)
    go ih false e = let z = borrow.Author.Tests.eqb-false r n e in inr (ih (omega arith))

pub among_below : (n r : ℕ) → Among r (below n) → r < n
among_below zero r m = absurd m
among_below (suc n) r (inl e) = omega arith
among_below (suc n) r (inr m) = let h = among_below n r m in omega arith

pub below_no_repeat : (n : ℕ) → NoRepeat (below n)
below_no_repeat zero = tt
below_no_repeat (suc n) = (λ m. let h = among_below n n m in omega arith, below_no_repeat n)

abbrev pub across : ℕ → ℕ → List (ℕ × ℕ)
across r zero = []
across r (suc k) = (r, suc k) ∷ across r k

abbrev pub pairs : ℕ → ℕ → List (ℕ × ℕ)
pairs zero E = []
pairs (suc n) E = across n E ++ pairs n E

in_across : (r k : ℕ) (x : ℕ × ℕ) → Among x (across r k) → (x.0 ≡ r) × (0 < x.1) × (x.1 ≤ k)
in_across r zero x m = absurd m
in_across r (suc k) x (inl e) = let z : x.1 ≡ suc k = ap (λ (p : ℕ × ℕ). p.1) e in (ap (λ (p : ℕ × ℕ). p.0) e, omega arith, omega arith)
in_across r (suc k) x (inr m) = let h = in_across r k x m in let l = h.2 in (h.0, h.1, omega arith)

across_in : (r k e : ℕ) → 0 < e → e ≤ k → Among (r, e) (across r k)
across_in r zero e a b = absurd (omega arith)
across_in r (suc k) e a b = go (λ l. across_in r k e a l) (eqb e (suc k)) refl
  where
    go : (e ≤ k → Among (r, e) (across r k)) → (b : Bool) → eqb e (suc k) ≡ b → Among (r, e) (across r (suc k))
    go ih true h = inl (ap {B = ℕ × ℕ} (λ x. (r, x)) (eqb-true e (suc k) h))
    go ih false h = let z = borrow.Author.Tests.eqb-false e (suc k) h in inr (ih (omega arith))

append_in : {A : Type 0} (xs ys : List A) (x : A) → Among x xs ⊎ Among x ys → Among x (xs ++ ys)
append_in [] ys x (inl m) = absurd m
append_in [] ys x (inr m) = m
append_in (y ∷ xs) ys x (inl (inl e)) = inl e
append_in (y ∷ xs) ys x (inl (inr m)) = inr (append_in xs ys x (inl m))
append_in (y ∷ xs) ys x (inr m) = inr (append_in xs ys x (inr m))

in_append : {A : Type 0} (xs ys : List A) (x : A) → Among x (xs ++ ys) → Among x xs ⊎ Among x ys
in_append [] ys x m = inr m
in_append (y ∷ xs) ys x (inl e) = inl (inl e)
in_append (y ∷ xs) ys x (inr m) = go (in_append xs ys x m)
  where
    go : Among x xs ⊎ Among x ys → Among x (y ∷ xs) ⊎ Among x ys
    go (inl n) = inl (inr n)
    go (inr n) = inr n

append_no_repeat : {A : Type 0} (xs ys : List A) → NoRepeat xs → NoRepeat ys → ((x : A) → Among x xs → Among x ys → ⊥) → NoRepeat (xs ++ ys)
append_no_repeat [] ys a b h = b
append_no_repeat (x ∷ xs) ys a b h = (λ m. go (in_append xs ys x m), append_no_repeat xs ys a.1 b (λ y m n. h y (inr m) n))
  where
    go : Among x xs ⊎ Among x ys → ⊥
    go (inl m) = a.0 m
    go (inr m) = h x (inl refl) m

across_no_repeat : (r k : ℕ) → NoRepeat (across r k)
across_no_repeat r zero = tt
across_no_repeat r (suc k) = (λ m. let h = (in_across r k (r, suc k) m).2 in omega arith, across_no_repeat r k)

pub in_pairs : (n E : ℕ) (x : ℕ × ℕ) → Among x (pairs n E) → (x.0 < n) × (0 < x.1) × (x.1 ≤ E)
in_pairs zero E x m = absurd m
in_pairs (suc n) E x m = go (λ k. in_pairs n E x k) (in_append (across n E) (pairs n E) x m)
  where
    go : (Among x (pairs n E) → (x.0 < n) × (0 < x.1) × (x.1 ≤ E)) → Among x (across n E) ⊎ Among x (pairs n E) → (x.0 < suc n) × (0 < x.1) × (x.1 ≤ E)
    go ih (inl k) = let a = in_across n E x k in let z = a.0 in (omega arith, a.1, a.2)
    go ih (inr k) = let a = ih k in let z = a.0 in (omega arith, a.1, a.2)

pub pairs_in : (n E r e : ℕ) → r < n → 0 < e → e ≤ E → Among (r, e) (pairs n E)
pairs_in zero E r e h a b = absurd (omega arith)
pairs_in (suc n) E r e h a b = append_in (across n E) (pairs n E) (r, e) (go (λ l. pairs_in n E r e l a b) (eqb r n) refl)
  where
    go : (r < n → Among (r, e) (pairs n E)) → (b : Bool) → eqb r n ≡ b → Among (r, e) (across n E) ⊎ Among (r, e) (pairs n E)
    go ih true z = inl (subst (λ (x : ℕ). Among (r, e) (across x E)) (eqb-true r n z) (across_in r E e a b))
    go ih false z = let y = borrow.Author.Tests.eqb-false r n z in inr (ih (omega arith))

pub pairs_no_repeat : (n E : ℕ) → NoRepeat (pairs n E)
pairs_no_repeat zero E = tt
pairs_no_repeat (suc n) E = append_no_repeat (across n E) (pairs n E) (across_no_repeat n E) (pairs_no_repeat n E)
    (λ x m k. let a = (in_across n E x m).0 in let b = (in_pairs n E x k).0 in omega arith)

-- the tests of two listed tables

abbrev pub same_b : List ℕ → List ℕ → Bool
same_b S T = not (lacks S T || lacks T S)

lacks_false : (S T : List ℕ) → lacks S T ≡ false → (n : ℕ) → has_stage S n ≡ true → has_stage T n ≡ true
lacks_false [] T h n k = absurd (false≢true k)
lacks_false (x ∷ S) T h n k = go (λ a b. lacks_false S T a n b) (has_stage T x) refl (or_cases (eqb x n) (has_stage S n) k) h
  where
    go : (lacks S T ≡ false → has_stage S n ≡ true → has_stage T n ≡ true) → (b : Bool) → has_stage T x ≡ b → (eqb x n ≡ true) ⊎ (has_stage S n ≡ true) →
        (not b || lacks S T) ≡ false → has_stage T n ≡ true
    go ih true e (inl z) l = ap (has_stage T) (sym (eqb-true x n z)) ∙ e
    go ih true e (inr z) l = ih l z
    go ih false e z l = absurd (true≢false l)

or_false : (a b : Bool) → (a || b) ≡ false → (a ≡ false) × (b ≡ false)
or_false true b h = absurd (true≢false h)
or_false false b h = (refl, h)

pub same_true : (S T : List ℕ) → same_b S T ≡ true → (n : ℕ) → has_stage S n ≡ has_stage T n
same_true S T h n = let a = or_false (lacks S T) (lacks T S) (not-true _ h) in both _ _ (lacks_false S T a.0 n, lacks_false T S a.1 n)

pub true_same : (S T : List ℕ) → ((n : ℕ) → has_stage S n ≡ has_stage T n) → same_b S T ≡ true
true_same S T s = go (lacks S T || lacks T S) refl
  where
    go : (b : Bool) → (lacks S T || lacks T S) ≡ b → not b ≡ true
    go true h = absurd (no_two S T h s)
    go false h = refl

has_append : (a b : Arcs) (m e n : ℕ) → (has_arc a m e n ≡ true) ⊎ (has_arc b m e n ≡ true) → has_arc (a ++ b) m e n ≡ true
has_append [] b m e n (inl h) = absurd (false≢true h)
has_append [] b m e n (inr h) = h
has_append (x ∷ a) b m e n h = true_or _ (has_arc (a ++ b) m e n) (go (λ k. has_append a b m e n k) h)
  where
    go : ((has_arc a m e n ≡ true) ⊎ (has_arc b m e n ≡ true) → has_arc (a ++ b) m e n ≡ true) → (has_arc (x ∷ a) m e n ≡ true) ⊎ (has_arc b m e n ≡ true) →
        ((eqb x.0 m && (eqb x.1 e && eqb x.2 n)) ≡ true) ⊎ (has_arc (a ++ b) m e n ≡ true)
    go ih (inl k) = go' ih (or_cases (eqb x.0 m && (eqb x.1 e && eqb x.2 n)) (has_arc a m e n) k)
      where
        go' : ((has_arc a m e n ≡ true) ⊎ (has_arc b m e n ≡ true) → has_arc (a ++ b) m e n ≡ true) →
            ((eqb x.0 m && (eqb x.1 e && eqb x.2 n)) ≡ true) ⊎ (has_arc a m e n ≡ true) →
            ((eqb x.0 m && (eqb x.1 e && eqb x.2 n)) ≡ true) ⊎ (has_arc (a ++ b) m e n ≡ true)
        go' ih (inl l) = inl l
        go' ih (inr l) = inr (ih (inl l))
    go ih (inr k) = inr (ih (inr k))

abbrev pub leaves_b : Arcs → Arcs → List ℕ → ℕ → Bool
leaves_b a b X e = some_arc (λ m l n. eqb l e && (has_stage X m && not (beq (has_arc a m l n) (has_arc b m l n)))) (a ++ b)

beq_false : (x y : Bool) → beq x y ≡ false → x ≡ y → ⊥
beq_false true true h e = true≢false h
beq_false true false h e = true≢false e
beq_false false true h e = false≢true e
beq_false false false h e = true≢false h

false_beq : (x y : Bool) → (x ≡ y → ⊥) → (not (beq x y) ≡ true) × ((x ≡ true) ⊎ (y ≡ true))
false_beq true true h = absurd (h refl)
false_beq true false h = (refl, inl refl)
false_beq false true h = (refl, inr refl)
false_beq false false h = absurd (h refl)

abbrev pub exit_list : List (List ℕ) → Option ℕ → List ℕ
exit_list rows None = []
exit_list rows (Some q) = get_or rows q []

module _ (E : ℕ) (stages stages' : List ℕ) (a b : Arcs) where
  leaves_true : (X : List ℕ) (e : ℕ) → leaves_b a b X e ≡ true → Leaves (book_of E stages a) (book_of E stages' b) (λ m. has_stage X m ≡ true) e
  leaves_true X e h = let x = some_arc_at (λ m l n. eqb l e && (has_stage X m && not (beq (has_arc a m l n) (has_arc b m l n)))) (a ++ b) h in
      let u = and_parts (eqb x.1 e) _ x.4 in
      let v = and_parts (has_stage X x.0) _ u.1 in
      let z = eqb-true x.1 e u.0 in
      (x.0, x.2, v.0, subst (λ (l : ℕ). has_arc a x.0 l x.2 ≡ has_arc b x.0 l x.2 → ⊥) z (beq_false _ _ (not-true _ v.1)))

  true_leaves : (X : List ℕ) (e : ℕ) → Leaves (book_of E stages a) (book_of E stages' b) (λ m. has_stage X m ≡ true) e → leaves_b a b X e ≡ true
  true_leaves X e x = let z = false_beq _ _ x.3 in
      at_some_arc (λ m l n. eqb l e && (has_stage X m && not (beq (has_arc a m l n) (has_arc b m l n)))) (a ++ b) x.0 e x.1
      (has_append a b x.0 e x.1 z.1) (and_from (eqb e e) _ (eq-eqb e e refl) (and_from (has_stage X x.0) _ x.2 z.0))

module _ (E : ℕ) (stages stages' : List ℕ) (a b : Arcs) (rows rows' : List (List ℕ)) (exits exits' : List (List (Option ℕ))) (dists dists' : List ℕ)
    (before : Sound (book_of E stages a) (table_of E rows exits dists)) (after : Sound (book_of E stages' b) (table_of E rows' exits' dists')) where
  abbrev t : Table
  t = table_of E rows exits dists

  abbrev u : Table
  u = table_of E rows' exits' dists'

  abbrev kept_b : ℕ → Bool
  kept_b r = (ltb r (length rows) && ltb r (length rows')) && same_b (get_or rows r []) (get_or rows' r [])

  kept_true : (r : ℕ) → kept_b r ≡ true → KeptRow t u r
  kept_true r h = let x = and_parts (ltb r (length rows) && ltb r (length rows')) (same_b (get_or rows r []) (get_or rows' r [])) h in
      let y = and_parts (ltb r (length rows)) (ltb r (length rows')) x.0 in
      record { before = y.0; after = y.1; same = same_true (get_or rows r []) (get_or rows' r []) x.1 }

  true_kept : (r : ℕ) → KeptRow t u r → kept_b r ≡ true
  true_kept r k = and_from (ltb r (length rows) && ltb r (length rows')) (same_b (get_or rows r []) (get_or rows' r []))
      (and_from (ltb r (length rows)) (ltb r (length rows')) k.before k.after) (true_same (get_or rows r []) (get_or rows' r []) k.same)

  -- the exit before, as a list
  exit_list_holds : (r e : ℕ) → ltb r (length rows) ≡ true → Event (book_of E stages a) e →
      Holds (has_stage (exit_list rows (listed_exit E exits r e))) (Exit (book_of E stages a) (has_stage (get_or rows r [])) e)
  exit_list_holds r e h k = go (listed_exit E exits r e) refl
    where
      go : (o : Option ℕ) → listed_exit E exits r e ≡ o → Holds (has_stage (exit_list rows o)) (Exit (book_of E stages a) (has_stage (get_or rows r [])) e)
      go None l n = (λ x. absurd (false≢true x), λ x. absurd (before.rows.no_exit r e h k l n x))
      go (Some q) l n = (before.rows.exit_row r e q h k l).1 n

  abbrev named_b : ℕ → ℕ → Bool
  named_b r e = leaves_b a b (get_or rows r []) e || leaves_b a b (exit_list rows (listed_exit E exits r e)) 0

  named_true : (r e : ℕ) → ltb r (length rows) ≡ true → Event (book_of E stages a) e → named_b r e ≡ true →
      Named (book_of E stages a) (book_of E stages' b) (t.set r) e
  named_true r e h k l = go (or_cases (leaves_b a b (get_or rows r []) e) _ l)
    where
      go : (leaves_b a b (get_or rows r []) e ≡ true) ⊎ (leaves_b a b (exit_list rows (listed_exit E exits r e)) 0 ≡ true) →
          Named (book_of E stages a) (book_of E stages' b) (t.set r) e
      go (inl z) = inl (leaves_true E stages stages' a b (get_or rows r []) e z)
      go (inr z) = let x = leaves_true E stages stages' a b (exit_list rows (listed_exit E exits r e)) 0 z in
          inr (x.0, x.1, (exit_list_holds r e h k x.0).0 x.2, x.3)

  true_named : (r e : ℕ) → ltb r (length rows) ≡ true → Event (book_of E stages a) e → Named (book_of E stages a) (book_of E stages' b) (t.set r) e →
      named_b r e ≡ true
  true_named r e h k (inl x) = true_or (leaves_b a b (get_or rows r []) e) _ (inl (true_leaves E stages stages' a b (get_or rows r []) e x))
  true_named r e h k (inr x) = true_or (leaves_b a b (get_or rows r []) e) _
      (inr (true_leaves E stages stages' a b (exit_list rows (listed_exit E exits r e)) 0 (x.0, x.1, (exit_list_holds r e h k x.0).1 x.2, x.3)))

  abbrev answers_b : Option ℕ → Option ℕ → Bool
  answers_b None None = true
  answers_b None (Some q) = false
  answers_b (Some p) None = false
  answers_b (Some p) (Some q) = eqb p q && kept_b p

  answers_true : (o o' : Option ℕ) → answers_b o o' ≡ true → (o ≡ o') × ((q : ℕ) → o ≡ Some q → KeptRow t u q)
  answers_true None None h = (refl, λ q e. absurd (none-some _ e))
  answers_true None (Some q) h = absurd (false≢true h)
  answers_true (Some p) None h = absurd (false≢true h)
  answers_true (Some p) (Some q) h = let x = and_parts (eqb p q) (kept_b p) h in
      (ap {B = Option ℕ} Some (eqb-true p q x.0), λ r e. subst (KeptRow t u) (same_Some _ _ e) (kept_true p x.1))

  true_answers : (o o' : Option ℕ) → o ≡ o' → ((q : ℕ) → o ≡ Some q → KeptRow t u q) → answers_b o o' ≡ true
  true_answers None None e h = refl
  true_answers None (Some q) e h = absurd (none-some _ e)
  true_answers (Some p) None e h = absurd (none-some _ (sym e))
  true_answers (Some p) (Some q) e h = and_from (eqb p q) (kept_b p) (eq-eqb p q (same_Some _ _ e)) (true_kept p (h p refl))

  abbrev turned_b : ℕ → ℕ → Bool
  turned_b r e = not (answers_b (listed_exit E exits r e) (listed_exit E exits' r e))

  not_kept : (r : ℕ) → (KeptRow t u r → ⊥) → not (kept_b r) ≡ true
  not_kept r h = go (kept_b r) refl
    where
      go : (c : Bool) → kept_b r ≡ c → not c ≡ true
      go true e = absurd (h (kept_true r e))
      go false e = refl

  not_step : (r e : ℕ) → (SameStep t u r e → ⊥) → turned_b r e ≡ true
  not_step r e h = go (answers_b (listed_exit E exits r e) (listed_exit E exits' r e)) refl
    where
      go : (c : Bool) → answers_b (listed_exit E exits r e) (listed_exit E exits' r e) ≡ c → not c ≡ true
      go true k = absurd (h (answers_true (listed_exit E exits r e) (listed_exit E exits' r e) k))
      go false k = refl

  abbrev tally : Tally
  tally = tally_of
      (length (picked kept_b (below (length rows))))
      (length (picked (λ r. not (kept_b r)) (below (length rows'))))
      (length (picked (λ r. not (kept_b r)) (below (length rows))))
      (length (picked (λ (p : ℕ × ℕ). kept_b p.0 && named_b p.0 p.1) (pairs (length rows) E)))
      (length (picked (λ (p : ℕ × ℕ). kept_b p.0 && turned_b p.0 p.1) (pairs (length rows) E)))

  listed_counts : CountedRows (book_of E stages a) (book_of E stages' b) t u tally
  listed_counts = record {
    kept_rows = counted (KeptRow t u) kept_b (below (length rows)) (below_no_repeat (length rows))
        (λ r k. (below_among (length rows) r (ltb-true r _ k.before), true_kept r k)) (λ r m h. kept_true r h);
    born_rows = counted (λ r. (u.used r ≡ true) × (KeptRow t u r → ⊥)) (λ r. not (kept_b r)) (below (length rows')) (below_no_repeat (length rows'))
        (λ r k. (below_among (length rows') r (ltb-true r _ k.0), not_kept r k.1))
        (λ r m h. (lt-ltb r _ (among_below (length rows') r m), λ k. both_ways (kept_b r) (not-true _ h) (true_kept r k)));
    retired_rows = counted (λ r. (t.used r ≡ true) × (KeptRow t u r → ⊥)) (λ r. not (kept_b r)) (below (length rows)) (below_no_repeat (length rows))
        (λ r k. (below_among (length rows) r (ltb-true r _ k.0), not_kept r k.1))
        (λ r m h. (lt-ltb r _ (among_below (length rows) r m), λ k. both_ways (kept_b r) (not-true _ h) (true_kept r k)));
    named_steps = counted (λ (p : ℕ × ℕ). KeptRow t u p.0 × Event (book_of E stages a) p.1 × Named (book_of E stages a) (book_of E stages' b)
        (t.set p.0) p.1)
        (λ (p : ℕ × ℕ). kept_b p.0 && named_b p.0 p.1) (pairs (length rows) E) (pairs_no_repeat (length rows) E)
        (λ p k. (
          pairs_in (length rows) E p.0 p.1 (ltb-true _ _ k.0.before) k.1.0 k.1.1,
          and_from (kept_b p.0) _ (true_kept p.0 k.0) (true_named p.0 p.1 k.0.before k.1 k.2),
        ))
        (λ p m h. let x = and_parts (kept_b p.0) _ h in let k = kept_true p.0 x.0 in let y = in_pairs (length rows) E p m in
        (k, (y.1, y.2), named_true p.0 p.1 k.before (y.1, y.2) x.1));
    turned_steps = counted (λ (p : ℕ × ℕ). KeptRow t u p.0 × Event (book_of E stages a) p.1 × (SameStep t u p.0 p.1 → ⊥))
        (λ (p : ℕ × ℕ). kept_b p.0 && turned_b p.0 p.1) (pairs (length rows) E) (pairs_no_repeat (length rows) E)
        (λ p k. (
          pairs_in (length rows) E p.0 p.1 (ltb-true _ _ k.0.before) k.1.0 k.1.1,
          and_from (kept_b p.0) _ (true_kept p.0 k.0) (not_step p.0 p.1 k.2),
        ))
        (λ p m h. let x = and_parts (kept_b p.0) _ h in let y = in_pairs (length rows) E p m in (
          kept_true p.0 x.0,
          (y.1, y.2),
          λ s. both_ways (answers_b (listed_exit E exits p.0 p.1) (listed_exit E exits' p.0 p.1)) (not-true _ x.1)
              (true_answers _ _ s.0 s.1),
        ));
  }

  keeps : all_below (length rows) (λ r. all_below (length rows') (λ q. imp (same_b (get_or rows r []) (get_or rows' q [])) (eqb r q))) ≡ true → KeepsNumbers t u
  keeps h r q x y s = eqb-true r q (imp_true (same_b (get_or rows r []) (get_or rows' q [])) (eqb r q)
      (all_below_at (length rows') (λ q. imp (same_b (get_or rows r []) (get_or rows' q [])) (eqb r q))
      (all_below_at (length rows) (λ r. all_below (length rows') (λ q. imp (same_b (get_or rows r []) (get_or rows' q [])) (eqb r q))) h r (ltb-true r _ x)) q
      (ltb-true q _ y))
      (true_same (get_or rows r []) (get_or rows' q []) s))

  pub listed_report : all_below (length rows) (λ r. all_below (length rows') (λ q. imp (same_b (get_or rows r []) (get_or rows' q [])) (eqb r q))) ≡ true →
      (c : Tally) → tally ≡ c → Reported (book_of E stages a) (book_of E stages' b) c
  listed_report h c e = subst (Reported (book_of E stages a) (book_of E stages' b)) e
      (rows_count_sets (book_of E stages a) (book_of E stages' b) t u before after refl (keeps h) tally listed_counts)
