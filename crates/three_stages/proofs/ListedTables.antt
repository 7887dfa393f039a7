-- A listed table that passes the tests is right, its distances are, and its rows stand in turn.
use Rattle.std.proofs.Common.{◌≡◌, ℕ, zero, suc, ◌<◌, ◌≤◌, Bool, true, false, cond, not, ◌&&◌, ◌||◌, eqb, ltb, leb, ◌⊎◌, List, [], ◌∷◌, length, get_or, Some, None, Option, sym, refl, ap, ◌∙◌, subst, inl, inr, arith}
use mathlib.Core.Path.{subst⁻¹}
use mathlib.Core.Bool.{false≢true}
use Rattle.std.proofs.lemmas.Bool.{and_parts, and_from, or_cases, ltb-true, lt-ltb, leb-true, eqb-true, eq-eqb, both_ways, not-true}
use Rattle.rules.specs.Paths.{Exit, Holds, Empty, Inhabited, Event}
use Rattle.rules.specs.Table.{Table, Rows, Layered}
use Rattle.rules.specs.Turn.{Earlier, InTurn}
use Rattle.three_stages.specs.Example.{has_stage, book_of}
use Rattle.std.proofs.lemmas.Option.{none-some, same_Some}
use Rattle.rules.proofs.ImageReading.{pred_of}
use Rattle.three_stages.proofs.FiniteTables.{Arcs, true_or, all_below, all_below_at, start_b, exit_b, none_b, start_holds, exit_holds, none_holds}

abbrev pub listed_exit : ℕ → List (List (Option ℕ)) → ℕ → ℕ → Option ℕ
listed_exit E exits r e = cond (leb e E) (get_or (None ∷ get_or exits r []) e None) None

abbrev pub table_of : ℕ → List (List ℕ) → List (List (Option ℕ)) → List ℕ → Table
table_of E rows exits dists = record {
  used = λ r. ltb r (length rows);
  set = λ r. has_stage (get_or rows r []);
  exit = listed_exit E exits;
  start = 0;
  dist = λ r. get_or dists r 0;
}

cond_same : {A : Type 0} (b : Bool) (x : A) → cond b x x ≡ x
cond_same true x = refl
cond_same false x = refl

abbrev pub filled : List ℕ → Bool
filled [] = false
filled (x ∷ xs) = true

-- some stage of S is not in T
abbrev pub lacks : List ℕ → List ℕ → Bool
lacks [] T = false
lacks (x ∷ S) T = not (has_stage T x) || lacks S T

abbrev pub answer_b : Arcs → List (List ℕ) → List ℕ → ℕ → Option ℕ → Bool
answer_b arcs rows S e None = none_b arcs S e
answer_b arcs rows S e (Some q) = ltb q (length rows) && exit_b arcs S e (get_or rows q [])

pub has_here : (x : ℕ) (T : List ℕ) → has_stage (x ∷ T) x ≡ true
has_here x T = true_or (eqb x x) (has_stage T x) (inl (eq-eqb x x refl))

pub lacks_true : (S T : List ℕ) → lacks S T ≡ true → (n : ℕ) × (has_stage S n ≡ true) × (has_stage T n ≡ false)
lacks_true [] T h = absurd (false≢true h)
lacks_true (x ∷ S) T h = go (λ k. lacks_true S T k) (or_cases (not (has_stage T x)) (lacks S T) h)
  where
    go : (lacks S T ≡ true → (n : ℕ) × (has_stage S n ≡ true) × (has_stage T n ≡ false)) → (not (has_stage T x) ≡ true) ⊎ (lacks S T ≡ true) →
        (n : ℕ) × (has_stage (x ∷ S) n ≡ true) × (has_stage T n ≡ false)
    go ih (inl k) = (x, has_here x S, not-true (has_stage T x) k)
    go ih (inr k) = let a = ih k in (a.0, true_or (eqb x a.0) (has_stage S a.0) (inr a.1), a.2)

pub no_two : (S T : List ℕ) → (lacks S T || lacks T S) ≡ true → ((n : ℕ) → has_stage S n ≡ has_stage T n) → ⊥
no_two S T h s = go (or_cases (lacks S T) (lacks T S) h)
  where
    go : (lacks S T ≡ true) ⊎ (lacks T S ≡ true) → ⊥
    go (inl k) = let a = lacks_true S T k in both_ways (has_stage T a.0) a.2 (sym (s a.0) ∙ a.1)
    go (inr k) = let a = lacks_true T S k in both_ways (has_stage S a.0) a.2 (s a.0 ∙ a.1)

abbrev pub is_some : Option ℕ → ℕ → Bool
is_some None r = false
is_some (Some q) r = eqb q r

pub is_some_true : (o : Option ℕ) (r : ℕ) → is_some o r ≡ true → o ≡ Some r
is_some_true None r h = absurd (false≢true h)
is_some_true (Some q) r h = ap {B = Option ℕ} Some (eqb-true q r h)

abbrev pub near_b : (ℕ → ℕ) → ℕ → Option ℕ → Bool
near_b dist d None = true
near_b dist d (Some r) = leb (dist r) (suc d)

abbrev pub earlier_b : ℕ → ℕ → ℕ → ℕ → Bool
earlier_b i e j f = ltb i j || (eqb i j && ltb e f)

pub earlier_true : (i e j f : ℕ) → earlier_b i e j f ≡ true → Earlier i e j f
earlier_true i e j f h = go (or_cases (ltb i j) (eqb i j && ltb e f) h)
  where
    go : (ltb i j ≡ true) ⊎ ((eqb i j && ltb e f) ≡ true) → Earlier i e j f
    go (inl k) = inl (ltb-true i j k)
    go (inr k) = let a = and_parts (eqb i j) (ltb e f) k in inr (eqb-true i j a.0, ltb-true e f a.1)

pub true_earlier : (i e j f : ℕ) → Earlier i e j f → earlier_b i e j f ≡ true
true_earlier i e j f (inl h) = true_or (ltb i j) (eqb i j && ltb e f) (inl (lt-ltb i j h))
true_earlier i e j f (inr h) = true_or (ltb i j) (eqb i j && ltb e f) (inr (and_from (eqb i j) (ltb e f) (eq-eqb i j h.0) (lt-ltb e f h.1)))

abbrev pub first_b : (ℕ → ℕ) → (ℕ → ℕ) → ℕ → ℕ → Option ℕ → Bool
first_b from by i e None = true
first_b from by i e (Some r) = eqb r 0 || not (earlier_b i e (from r) (by r))

-- the tests of a listed table
pub record Tested (E : ℕ) (arcs : Arcs) (rows : List (List ℕ)) (exits : List (List (Option ℕ))) (dists froms bys : List ℕ) : Type 0 where
  pub some_row : ltb 0 (length rows) ≡ true
  pub start : start_b arcs (get_or rows 0 []) ≡ true
  pub fill : all_below (length rows) (λ r. filled (get_or rows r [])) ≡ true
  pub answers : all_below (length rows) (λ r. all_below E (λ k. answer_b arcs rows (get_or rows r []) (suc k) (listed_exit E exits r (suc k)))) ≡ true
  pub differ : all_below (length rows) (λ i. all_below (length rows)
      (λ j. eqb i j || (lacks (get_or rows i []) (get_or rows j []) || lacks (get_or rows j []) (get_or rows i [])))) ≡ true
  pub zero_at : eqb (get_or dists 0 0) 0 ≡ true
  pub beyond : all_below (length rows) (λ r. eqb r 0 || (ltb (get_or froms r 0) (length rows) && ((ltb 0 (get_or bys r 0) && leb (get_or bys r 0) E)
      && (is_some (listed_exit E exits (get_or froms r 0) (get_or bys r 0)) r && eqb (get_or dists r 0) (suc (get_or dists (get_or froms r 0) 0)))))) ≡ true
  pub nears : all_below (length rows) (λ q. all_below E (λ k. near_b (λ r. get_or dists r 0) (get_or dists q 0) (listed_exit E exits q (suc k)))) ≡ true

pub record TurnedTest (E : ℕ) (rows : List (List ℕ)) (exits : List (List (Option ℕ))) (froms bys : List ℕ) : Type 0 where
  pub back : all_below (length rows) (λ r. eqb r 0 || ltb (get_or froms r 0) r) ≡ true
  pub first : all_below (length rows) (λ i. all_below E (λ k. first_b (λ r. get_or froms r 0) (λ r. get_or bys r 0) i (suc k)
      (listed_exit E exits i (suc k)))) ≡ true
  pub turn : all_below (length rows) (λ r. eqb r 0 || (not (ltb (suc r) (length rows)) || earlier_b (get_or froms r 0) (get_or bys r 0) (get_or froms (suc r) 0)
      (get_or bys (suc r) 0))) ≡ true

module _ (E : ℕ) (stages : List ℕ) (arcs : Arcs) (rows : List (List ℕ)) (exits : List (List (Option ℕ))) (dists froms bys : List ℕ)
    (tested : Tested E arcs rows exits dists froms bys) where
  answer : (r e : ℕ) → ltb r (length rows) ≡ true → Event (book_of E stages arcs) e → answer_b arcs rows (get_or rows r []) e (listed_exit E exits r e) ≡ true
  answer r e u k = let p = pred_of e k.0 in let l = p.1 in
      subst⁻¹ (λ (x : ℕ). answer_b arcs rows (get_or rows r []) x (listed_exit E exits r x) ≡ true) l
      (all_below_at E (λ k. answer_b arcs rows (get_or rows r []) (suc k) (listed_exit E exits r (suc k)))
      (all_below_at (length rows) (λ r. all_below E (λ k. answer_b arcs rows (get_or rows r []) (suc k) (listed_exit E exits r (suc k)))) tested.answers r
      (ltb-true r _ u))
      p.0 (let m = k.1 in omega arith))

  some_stage : (T : List ℕ) → filled T ≡ true → Inhabited (λ n. has_stage T n ≡ true)
  some_stage [] h = absurd (false≢true h)
  some_stage (x ∷ T) h = (x, has_here x T)

  exit_some : (r e q : ℕ) (o : Option ℕ) → answer_b arcs rows (get_or rows r []) e o ≡ true → o ≡ Some q →
      (ltb q (length rows) ≡ true) × Holds (has_stage (get_or rows q [])) (Exit (book_of E stages arcs) (has_stage (get_or rows r [])) e)
  exit_some r e q None h k = absurd (none-some _ k)
  exit_some r e q (Some p) h k = let a = and_parts (ltb p (length rows)) (exit_b arcs (get_or rows r []) e (get_or rows p [])) h in
      subst (λ (x : ℕ). (ltb x (length rows) ≡ true) × Holds (has_stage (get_or rows x [])) (Exit (book_of E stages arcs) (has_stage (get_or rows r [])) e))
      (same_Some _ _ k)
      (a.0, exit_holds (book_of E stages arcs) arcs refl (get_or rows r []) e (get_or rows p []) a.1)

  exit_none : (r e : ℕ) (o : Option ℕ) → answer_b arcs rows (get_or rows r []) e o ≡ true → o ≡ None →
      Empty (Exit (book_of E stages arcs) (has_stage (get_or rows r [])) e)
  exit_none r e None h k = none_holds (book_of E stages arcs) arcs refl (get_or rows r []) e h
  exit_none r e (Some p) h k = absurd (none-some _ (sym k))

  outside : (r e : ℕ) → (Event (book_of E stages arcs) e → ⊥) → listed_exit E exits r e ≡ None
  outside r zero n = cond_same (leb 0 E) None
  outside r (suc e) n = go (leb (suc e) E) refl
    where
      go : (b : Bool) → leb (suc e) E ≡ b → listed_exit E exits r (suc e) ≡ None
      go true h = absurd (n (omega arith, leb-true (suc e) E h))
      go false h = rw h

  two_rows : (i j : ℕ) → (eqb i j ≡ true) ⊎ ((lacks (get_or rows i []) (get_or rows j []) || lacks (get_or rows j []) (get_or rows i [])) ≡ true) →
      ((n : ℕ) → has_stage (get_or rows i []) n ≡ has_stage (get_or rows j []) n) → i ≡ j
  two_rows i j (inl h) s = eqb-true i j h
  two_rows i j (inr h) s = absurd (no_two (get_or rows i []) (get_or rows j []) h s)

  pub listed_rows : Rows (book_of E stages arcs) (table_of E rows exits dists)
  listed_rows = record {
    start_used = tested.some_row;
    start_set = start_holds (book_of E stages arcs) arcs refl (get_or rows 0 []) tested.start;
    inhabited = λ r u. some_stage (get_or rows r []) (all_below_at (length rows) (λ r. filled (get_or rows r [])) tested.fill r (ltb-true r _ u));
    exit_row = λ r e q u k h. exit_some r e q (listed_exit E exits r e) (answer r e u k) h;
    no_exit = λ r e u k h. exit_none r e (listed_exit E exits r e) (answer r e u k) h;
    no_event = λ r e u n. outside r e n;
    apart = λ i j u v s. two_rows i j (or_cases (eqb i j) _
        (all_below_at (length rows) (λ j. eqb i j || (lacks (get_or rows i []) (get_or rows j []) || lacks (get_or rows j []) (get_or rows i [])))
        (all_below_at (length rows) (λ i. all_below (length rows)
        (λ j. eqb i j || (lacks (get_or rows i []) (get_or rows j []) || lacks (get_or rows j []) (get_or rows i [])))) tested.differ i (ltb-true i _ u))
        j (ltb-true j _ v))) s;
  }

  -- the row before, the event, and the distances
  pub beyond_at : (r : ℕ) → ltb r (length rows) ≡ true → (r ≡ 0) ⊎ ((ltb (get_or froms r 0) (length rows) ≡ true) × Event (book_of E stages arcs) (get_or bys r 0)
      × (listed_exit E exits (get_or froms r 0) (get_or bys r 0) ≡ Some r) × (get_or dists r 0 ≡ suc (get_or dists (get_or froms r 0) 0)))
  beyond_at r u = go (or_cases (eqb r 0) _ (all_below_at (length rows)
      (λ r. eqb r 0 || (ltb (get_or froms r 0) (length rows) && ((ltb 0 (get_or bys r 0) && leb (get_or bys r 0) E)
      && (is_some (listed_exit E exits (get_or froms r 0) (get_or bys r 0)) r && eqb (get_or dists r 0) (suc (get_or dists (get_or froms r 0) 0)))))) tested.beyond r
      (ltb-true r _ u)))
    where
      go : (eqb r 0 ≡ true) ⊎ ((ltb (get_or froms r 0) (length rows) && ((ltb 0 (get_or bys r 0) && leb (get_or bys r 0) E)
          && (is_some (listed_exit E exits (get_or froms r 0) (get_or bys r 0)) r && eqb (get_or dists r 0) (suc (get_or dists (get_or froms r 0) 0))))) ≡ true) →
          (r ≡ 0) ⊎ ((ltb (get_or froms r 0) (length rows) ≡ true) × Event (book_of E stages arcs) (get_or bys r 0)
          × (listed_exit E exits (get_or froms r 0) (get_or bys r 0) ≡ Some r) × (get_or dists r 0 ≡ suc (get_or dists (get_or froms r 0) 0)))
      go (inl h) = inl (eqb-true r 0 h)
      go (inr h) =
          let a = and_parts (ltb (get_or froms r 0) (length rows)) _ h in
          let b = and_parts (ltb 0 (get_or bys r 0) && leb (get_or bys r 0) E) _ a.1 in
          let c = and_parts (ltb 0 (get_or bys r 0)) (leb (get_or bys r 0) E) b.0 in
          let d = and_parts (is_some (listed_exit E exits (get_or froms r 0) (get_or bys r 0)) r) (eqb (get_or dists r 0) (suc (get_or dists (get_or froms r 0) 0)))
          b.1 in
          inr (a.0, (ltb-true _ _ c.0, leb-true _ _ c.1), is_some_true _ r d.0, eqb-true _ _ d.1)

  near_at : (q e r : ℕ) (o : Option ℕ) → near_b (λ r. get_or dists r 0) (get_or dists q 0) o ≡ true → o ≡ Some r → get_or dists r 0 ≤ suc (get_or dists q 0)
  near_at q e r None h k = absurd (none-some _ k)
  near_at q e r (Some p) h k = subst (λ (x : ℕ). get_or dists x 0 ≤ suc (get_or dists q 0)) (same_Some _ _ k) (leb-true _ _ h)

  near_of : (q e : ℕ) → ltb q (length rows) ≡ true → Event (book_of E stages arcs) e →
      near_b (λ r. get_or dists r 0) (get_or dists q 0) (listed_exit E exits q e) ≡ true
  near_of q e u k = let p = pred_of e k.0 in let l = p.1 in
      subst⁻¹ (λ (x : ℕ). near_b (λ r. get_or dists r 0) (get_or dists q 0) (listed_exit E exits q x) ≡ true) l
      (all_below_at E (λ k. near_b (λ r. get_or dists r 0) (get_or dists q 0) (listed_exit E exits q (suc k)))
      (all_below_at (length rows) (λ q. all_below E (λ k. near_b (λ r. get_or dists r 0) (get_or dists q 0) (listed_exit E exits q (suc k)))) tested.nears q
      (ltb-true q _ u))
      p.0 (let m = k.1 in omega arith))

  pub listed_layers : Layered (book_of E stages arcs) (table_of E rows exits dists)
  listed_layers = record {
    rows = listed_rows;
    start_at = eqb-true (get_or dists 0 0) 0 tested.zero_at;
    one_beyond = λ r u. go r (beyond_at r u);
    no_farther = λ q e r u k h. near_at q e r (listed_exit E exits q e) (near_of q e u k) h;
  }
    where
      go : (r : ℕ) → (r ≡ 0) ⊎ ((ltb (get_or froms r 0) (length rows) ≡ true) × Event (book_of E stages arcs) (get_or bys r 0)
          × (listed_exit E exits (get_or froms r 0) (get_or bys r 0) ≡ Some r) × (get_or dists r 0 ≡ suc (get_or dists (get_or froms r 0) 0))) →
          (r ≡ 0) ⊎ ((q : ℕ) × (e : ℕ) × (ltb q (length rows) ≡ true) × Event (book_of E stages arcs) e × (listed_exit E exits q e ≡ Some r) ×
          (get_or dists r 0 ≡ suc (get_or dists q 0)))
      go r (inl h) = inl h
      go r (inr h) = inr (get_or froms r 0, get_or bys r 0, h.0, h.1, h.2, h.3)

  module _ (test : TurnedTest E rows exits froms bys) where
    positive : (r : ℕ) {A : Type 0} → 0 < r → (r ≡ 0) ⊎ A → A
    positive r h (inl e) = absurd (omega arith)
    positive r h (inr a) = a

    positive_b : (r : ℕ) (b : Bool) → 0 < r → (eqb r 0 || b) ≡ true → b ≡ true
    positive_b r b h k = go (or_cases (eqb r 0) b k)
      where
        go : (eqb r 0 ≡ true) ⊎ (b ≡ true) → b ≡ true
        go (inl e) = let z = eqb-true r 0 e in absurd (omega arith)
        go (inr l) = l

    first_at : (r i e : ℕ) → 0 < r → (o : Option ℕ) → first_b (λ r. get_or froms r 0) (λ r. get_or bys r 0) i e o ≡ true → o ≡ Some r →
        Earlier i e (get_or froms r 0) (get_or bys r 0) → ⊥
    first_at r i e p None h k l = none-some _ k
    first_at r i e p (Some q) h k l = let q≡r : q ≡ r = same_Some _ _ k in
        both_ways (earlier_b i e (get_or froms q 0) (get_or bys q 0)) (not-true _ (positive_b q _ (omega arith) h))
        (subst⁻¹ (λ (x : ℕ). earlier_b i e (get_or froms x 0) (get_or bys x 0) ≡ true) q≡r (true_earlier i e _ _ l))

    turn_at : (r : ℕ) → 0 < r → suc r < length rows → Earlier (get_or froms r 0) (get_or bys r 0) (get_or froms (suc r) 0) (get_or bys (suc r) 0)
    turn_at r p h = earlier_true _ _ _ _ (go (or_cases _ (earlier_b (get_or froms r 0) (get_or bys r 0) (get_or froms (suc r) 0) (get_or bys (suc r) 0))
        (positive_b r _ p
        (all_below_at (length rows) (λ r. eqb r 0 || (not (ltb (suc r) (length rows)) || earlier_b (get_or froms r 0) (get_or bys r 0) (get_or froms (suc r) 0)
        (get_or bys (suc r) 0))) test.turn r (omega arith)))))
      where
        go : (not (ltb (suc r) (length rows)) ≡ true) ⊎ (earlier_b (get_or froms r 0) (get_or bys r 0) (get_or froms (suc r) 0) (get_or bys (suc r) 0) ≡ true) →
            earlier_b (get_or froms r 0) (get_or bys r 0) (get_or froms (suc r) 0) (get_or bys (suc r) 0) ≡ true
        go (inl k) = absurd (both_ways (ltb (suc r) (length rows)) (not-true _ k) (lt-ltb (suc r) (length rows) h))
        go (inr k) = k

    pub listed_turn : InTurn (book_of E stages arcs) (table_of E rows exits dists) (length rows) (λ r. get_or froms r 0) (λ r. get_or bys r 0)
    listed_turn = record {
      rows = listed_rows;
      start = refl;
      places = λ r. (ltb-true r (length rows), lt-ltb r (length rows));
      met = λ r p h. let b = positive r p (beyond_at r (lt-ltb r _ h)) in
          (ltb-true _ _ (positive_b r _ p (all_below_at (length rows) (λ r. eqb r 0 || ltb (get_or froms r 0) r) test.back r h)), b.1, b.2);
      first = λ r i e p h l k x. let a = pred_of e k.0 in first_at r i e p (listed_exit E exits i e)
          (subst⁻¹ (λ (y : ℕ). first_b (λ r. get_or froms r 0) (λ r. get_or bys r 0) i y (listed_exit E exits i y) ≡ true) a.1
          (all_below_at E (λ k. first_b (λ r. get_or froms r 0) (λ r. get_or bys r 0) i (suc k) (listed_exit E exits i (suc k)))
          (all_below_at (length rows) (λ i. all_below E (λ k. first_b (λ r. get_or froms r 0) (λ r. get_or bys r 0) i (suc k) (listed_exit E exits i (suc k))))
          test.first i l)
          a.0 (let m = k.1 in let z = a.1 in omega arith))) x;
      turn = turn_at;
    }
