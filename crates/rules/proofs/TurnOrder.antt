-- Rows that stand in turn stand in the order of their first lists.
use Rattle.std.proofs.Common.{◌≡◌, ℕ, zero, suc, ◌<◌, ◌≤◌, ◌⊎◌, List, [], ◌∷◌, ◌++◌, length, get_or, Some, None, Option, sym, refl, ap, ◌∙◌, subst, inl, inr, arith}
use lib.ListN.{get_or-append}
use Rattle.rules.specs.Rules.{Rules}
use Rattle.rules.specs.Paths.{R, Holds, Event, Word}
use Rattle.rules.specs.Table.{Table, onward, leads}
use Rattle.rules.specs.Order.{Before, Rising, First}
use Rattle.rules.specs.Counts.{Among}
use Rattle.rules.specs.Turn.{Earlier, InTurn, InOrder}
use Rattle.std.proofs.lemmas.Option.{none-some, same_Some}
use Rattle.rules.proofs.Leads.{Finds, leads_finds, leads_some, leads_to, onward_word, onward_none}
use Rattle.rules.proofs.FirstLists.{three, before_irrefl, before_trans, before_snoc, before_last, length_snoc}

-- the first list to row r, made from those to the rows before it
abbrev next : (from by : ℕ → ℕ) → ℕ → List (List ℕ) → List ℕ
next from by zero l = []
next from by (suc k) l = get_or l (from (suc k)) [] ++ (by (suc k) ∷ [])

abbrev upto : (from by : ℕ → ℕ) → ℕ → List (List ℕ)
upto from by zero = []
upto from by (suc k) = upto from by k ++ (next from by k (upto from by k) ∷ [])

abbrev word_of : (from by : ℕ → ℕ) → ℕ → List ℕ
word_of from by r = next from by r (upto from by r)

length_upto : (from by : ℕ → ℕ) (k : ℕ) → length (upto from by k) ≡ k
length_upto from by zero = refl
length_upto from by (suc k) = length_snoc (upto from by k) _ ∙ ap suc (length_upto from by k)

get_or_end : {A : Type 0} (l : List A) (x d : A) → get_or (l ++ (x ∷ [])) (length l) d ≡ x
get_or_end [] x d = refl
get_or_end (y ∷ l) x d = get_or_end l x d

upto_word : (from by : ℕ → ℕ) (k r : ℕ) → r < k → get_or (upto from by k) r [] ≡ word_of from by r
upto_word from by zero r h = absurd (omega arith)
upto_word from by (suc k) r h = go (λ h. upto_word from by k r h) (three r k)
  where
    go : (r < k → get_or (upto from by k) r [] ≡ word_of from by r) → (r < k) ⊎ ((r ≡ k) ⊎ (k < r)) → get_or (upto from by (suc k)) r [] ≡ word_of from by r
    go ih (inl l) = get_or-append (upto from by k) _ [] r (omega (arith, length_upto from by k)) ∙ ih l
    go ih (inr (inl e)) = subst (λ (x : ℕ). get_or (upto from by (suc k)) x [] ≡ word_of from by x) (sym e)
        (ap (λ (x : ℕ). get_or (upto from by (suc k)) x []) (sym (length_upto from by k)) ∙ get_or_end (upto from by k) _ [])
    go ih (inr (inr g)) = absurd (omega arith)

among_end : {A : Type 0} (l : List A) (x : A) → Among x (l ++ (x ∷ []))
among_end [] x = inl refl
among_end (y ∷ l) x = inr (among_end l x)

among_front : {A : Type 0} (l : List A) (x y : A) → Among y l → Among y (l ++ (x ∷ []))
among_front [] x y m = absurd m
among_front (z ∷ l) x y (inl e) = inl e
among_front (z ∷ l) x y (inr m) = inr (among_front l x y m)

among_cases : {A : Type 0} (l : List A) (x y : A) → Among y (l ++ (x ∷ [])) → Among y l ⊎ (y ≡ x)
among_cases [] x y (inl e) = inr e
among_cases [] x y (inr m) = absurd m
among_cases (z ∷ l) x y (inl e) = inl (inl e)
among_cases (z ∷ l) x y (inr m) = go (among_cases l x y m)
  where
    go : Among y l ⊎ (y ≡ x) → Among y (z ∷ l) ⊎ (y ≡ x)
    go (inl k) = inl (inr k)
    go (inr e) = inr e

rising_end : (l : List (List ℕ)) (x : List ℕ) → Rising l → ((y : List ℕ) → Among y l → Before y x) → Rising (l ++ (x ∷ []))
rising_end [] x r h = (λ w m. absurd m, tt)
rising_end (v ∷ l) x r h = (λ w m. go w (among_cases l x w m), rising_end l x r.1 (λ y m. h y (inr m)))
  where
    go : (w : List ℕ) → Among w l ⊎ (w ≡ x) → Before v w
    go w (inl m) = r.0 w m
    go w (inr e) = subst (Before v) (sym e) (h v (inl refl))

among_upto : (from by : ℕ → ℕ) (k : ℕ) (w : List ℕ) → Among w (upto from by k) → (r : ℕ) × (r < k) × (w ≡ word_of from by r)
among_upto from by zero w m = absurd m
among_upto from by (suc k) w m = go (λ n. among_upto from by k w n) (among_cases (upto from by k) _ w m)
  where
    go : (Among w (upto from by k) → (r : ℕ) × (r < k) × (w ≡ word_of from by r)) →
        Among w (upto from by k) ⊎ (w ≡ word_of from by k) → (r : ℕ) × (r < suc k) × (w ≡ word_of from by r)
    go ih (inl n) = let h = ih n in (h.0, (let l = h.1 in omega arith), h.2)
    go ih (inr e) = (k, omega arith, e)

upto_among : (from by : ℕ → ℕ) (k r : ℕ) → r < k → Among (word_of from by r) (upto from by k)
upto_among from by zero r h = absurd (omega arith)
upto_among from by (suc k) r h = go (λ l. upto_among from by k r l) (three r k)
  where
    go : (r < k → Among (word_of from by r) (upto from by k)) → (r < k) ⊎ ((r ≡ k) ⊎ (k < r)) → Among (word_of from by r) (upto from by (suc k))
    go ih (inl l) = among_front (upto from by k) _ _ (ih l)
    go ih (inr (inl e)) = subst (λ (x : ℕ). Among (word_of from by x) (upto from by (suc k))) (sym e) (among_end (upto from by k) _)
    go ih (inr (inr g)) = absurd (omega arith)

earlier_trans : (i e j f k g : ℕ) → Earlier i e j f → Earlier j f k g → Earlier i e k g
earlier_trans i e j f k g (inl h) (inl l) = inl (omega arith)
earlier_trans i e j f k g (inl h) (inr l) = let z = l.0 in inl (omega arith)
earlier_trans i e j f k g (inr h) (inl l) = let z = h.0 in inl (omega arith)
earlier_trans i e j f k g (inr h) (inr l) = inr (h.0 ∙ l.0, (let a = h.1 in let b = l.1 in omega arith))

pub onward_end : (t : Table) (w : List ℕ) (e : ℕ) (o : Option ℕ) → onward t (w ++ (e ∷ [])) o ≡ onward t (e ∷ []) (onward t w o)
onward_end t [] e o = refl
onward_end t (f ∷ w) e None = sym (ap (onward t (e ∷ [])) (onward_none t (f ∷ w)))
onward_end t (f ∷ w) e (Some r) = onward_end t w e (t.exit r f)

ends : (v : List ℕ) → (v ≡ []) ⊎ ((u : List ℕ) × (e : ℕ) × (v ≡ u ++ (e ∷ [])))
ends [] = inl refl
ends (a ∷ v) = go (ends v)
  where
    go : (v ≡ []) ⊎ ((u : List ℕ) × (e : ℕ) × (v ≡ u ++ (e ∷ []))) → ((a ∷ v) ≡ []) ⊎ ((u : List ℕ) × (e : ℕ) × ((a ∷ v) ≡ u ++ (e ∷ [])))
    go (inl h) = inr ([], a, ap {B = List ℕ} (λ x. a ∷ x) h)
    go (inr h) = inr (a ∷ h.0, h.1, ap {B = List ℕ} (λ x. a ∷ x) h.2)

pub word_snoc : (rules : Rules) (u : List ℕ) (e : ℕ) → Word rules u → Event rules e → Word rules (u ++ (e ∷ []))
word_snoc rules [] e h k = (k, tt)
word_snoc rules (f ∷ u) e h k = (h.0, word_snoc rules u e h.1 k)

word_end : (rules : Rules) (u : List ℕ) (e : ℕ) → Word rules (u ++ (e ∷ [])) → Event rules e
word_end rules [] e h = h.0
word_end rules (f ∷ u) e h = word_end rules u e h.1

module _ (rules : Rules) (t : Table) (N : ℕ) (from by : ℕ → ℕ) (in_turn : InTurn rules t N from by) where
  word_at : (r : ℕ) → 0 < r → r < N → word_of from by r ≡ word_of from by (from r) ++ (by r ∷ [])
  word_at zero h k = absurd (omega arith)
  word_at (suc r) h k = ap (λ (x : List ℕ). x ++ (by (suc r) ∷ [])) (upto_word from by (suc r) (from (suc r)) (in_turn.met (suc r) h k).0)

  later : (s r : ℕ) → 0 < r → r < s → s < N → Earlier (from r) (by r) (from s) (by s)
  later zero r h k l = absurd (omega arith)
  later (suc s) r h k l = go (λ m. later s r h m (omega arith)) (three r s)
    where
      go : (r < s → Earlier (from r) (by r) (from s) (by s)) → (r < s) ⊎ ((r ≡ s) ⊎ (s < r)) → Earlier (from r) (by r) (from (suc s)) (by (suc s))
      go ih (inl m) = earlier_trans _ _ _ _ _ _ (ih m) (in_turn.turn s (omega arith) l)
      go ih (inr (inl e)) = subst (λ (x : ℕ). Earlier (from x) (by x) (from (suc s)) (by (suc s))) (sym e) (in_turn.turn s (omega arith) l)
      go ih (inr (inr g)) = absurd (omega arith)

  mono : (k r s : ℕ) → s < k → r < s → s < N → Before (word_of from by r) (word_of from by s)
  mono zero r s a b c = absurd (omega arith)
  mono (suc k) zero s a b c = inl (rw (word_at s b c, length_snoc) (omega arith))
  mono (suc k) (suc r) s a b c = go (λ x y l m n. mono k x y l m n) (later s (suc r) (omega arith) b c)
    where
      shorter : (from s < s)
      shorter = (in_turn.met s (omega arith) c).0

      go : ((x y : ℕ) → y < k → x < y → y < N → Before (word_of from by x) (word_of from by y)) →
          Earlier (from (suc r)) (by (suc r)) (from s) (by s) → Before (word_of from by (suc r)) (word_of from by s)
      go ih (inl h) = rw (word_at (suc r) (omega arith) (omega arith), word_at s (omega arith) c)
          (before_snoc _ _ _ _ (ih (from (suc r)) (from s) (omega (arith, shorter)) h (omega (arith, shorter))))
      go ih (inr h) = rw (word_at (suc r) (omega arith) (omega arith), word_at s (omega arith) c, h.0)
          (before_last (word_of from by (from s)) _ _ h.1)

  leads_word : (k r : ℕ) → r < k → r < N → leads t (word_of from by r) ≡ Some r
  leads_word zero r h l = absurd (omega arith)
  leads_word (suc k) zero h l = ap {B = Option ℕ} Some in_turn.start
  leads_word (suc k) (suc r) h l = let m = in_turn.met (suc r) (omega arith) l in let s = m.0 in
      ap (leads t) (word_at (suc r) (omega arith) l) ∙ onward_end t (word_of from by (from (suc r))) (by (suc r)) (Some t.start)
      ∙ ap (onward t (by (suc r) ∷ [])) (leads_word k (from (suc r)) (omega arith) (omega arith)) ∙ m.2

  -- of a list that leads to row r by a last event e from row i
  last_step : (u : List ℕ) (e i r : ℕ) → i < N → r < N → Event rules e → t.exit i e ≡ Some r →
      (word_of from by i ≡ u) ⊎ Before (word_of from by i) u → (word_of from by r ≡ u ++ (e ∷ [])) ⊎ Before (word_of from by r) (u ++ (e ∷ []))
  last_step u e i zero a b c h d = inr (inl (rw length_snoc (omega arith)))
  last_step u e i (suc r) a b c h d = rw (word_at (suc r) (omega arith) b) (rows (three i (from (suc r))) d)
    where
      f : ℕ
      f = from (suc r)

      g : ℕ
      g = by (suc r)

      late : Earlier i e f g → ⊥
      late = in_turn.first (suc r) i e (omega arith) b a c h

      same : i ≡ f → (e < g) ⊎ ((e ≡ g) ⊎ (g < e)) → (word_of from by i ≡ u) ⊎ Before (word_of from by i) u →
          (word_of from by f ++ (g ∷ []) ≡ u ++ (e ∷ [])) ⊎ Before (word_of from by f ++ (g ∷ [])) (u ++ (e ∷ []))
      same z (inl l) d = absurd (late (inr (z, l)))
      same z (inr (inl l)) (inl d) = inl (rw (← z, l, d))
      same z (inr (inr l)) (inl d) = inr (rw (← z, d) (before_last u g e l))
      same z (inr l) (inr d) = inr (rw (← z) (before_snoc (word_of from by i) u g e d))

      rows : (i < f) ⊎ ((i ≡ f) ⊎ (f < i)) → (word_of from by i ≡ u) ⊎ Before (word_of from by i) u →
          (word_of from by f ++ (g ∷ []) ≡ u ++ (e ∷ [])) ⊎ Before (word_of from by f ++ (g ∷ [])) (u ++ (e ∷ []))
      rows (inl l) d = absurd (late (inl l))
      rows (inr (inl z)) d = same z (three e g) d
      rows (inr (inr l)) (inl d) = inr (before_snoc _ u g e (subst (Before (word_of from by f)) d (mono N f i a l a)))
      rows (inr (inr l)) (inr d) = inr (before_snoc _ u g e (before_trans _ _ u (mono N f i a l a) d))

  least : (k : ℕ) (v : List ℕ) (r : ℕ) → length v < k → leads t v ≡ Some r → (word_of from by r ≡ v) ⊎ Before (word_of from by r) v
  least zero v r h l = absurd (omega arith)
  least (suc k) v r h l = go (λ u i m n. least k u i m n) (ends v)
    where
      Least : ℕ → List ℕ → Type 0
      Least r v = (word_of from by r ≡ v) ⊎ Before (word_of from by r) v

      place : (u : List ℕ) (i : ℕ) → leads t u ≡ Some i → i < N
      place u i m = (in_turn.places i).0 (leads_some rules t in_turn.rows u i
          (onward_word rules t in_turn.rows u t.start i in_turn.rows.start_used m) m).0

      at : ((u : List ℕ) (i : ℕ) → length u < k → leads t u ≡ Some i → Least i u) →
          (u : List ℕ) (e : ℕ) → v ≡ u ++ (e ∷ []) → (o : Option ℕ) → leads t u ≡ o → onward t (e ∷ []) o ≡ Some r → Least r (u ++ (e ∷ []))
      at ih u e z None m n = absurd (none-some _ n)
      at ih u e z (Some i) m n = last_step u e i r (place u i m) (place v r l)
          (word_end rules u e (subst (Word rules) z (onward_word rules t in_turn.rows v t.start r in_turn.rows.start_used l))) n
          (ih u i (omega (arith, ap length z, length_snoc u e)) m)

      go : ((u : List ℕ) (i : ℕ) → length u < k → leads t u ≡ Some i → Least i u) →
          (v ≡ []) ⊎ ((u : List ℕ) × (e : ℕ) × (v ≡ u ++ (e ∷ []))) → Least r v
      go ih (inl z) = inl (ap (word_of from by) (sym (same_Some _ _ (sym (in_turn_start) ∙ sym (ap (leads t) z) ∙ l))) ∙ sym z)
        where
          in_turn_start : Some t.start ≡ Some 0
          in_turn_start = ap {B = Option ℕ} Some in_turn.start
      go ih (inr z) = subst (Least r) (sym z.2) (at ih z.0 z.1 z.2 (leads t z.0) refl
          (sym (onward_end t z.0 z.1 (Some t.start)) ∙ sym (ap (leads t) z.2) ∙ l))

  word_rows : (r : ℕ) → r < N → Word rules (word_of from by r) × Holds (t.set r) (R rules (word_of from by r))
  word_rows r h = let l = leads_word N r h h in
      let k = onward_word rules t in_turn.rows (word_of from by r) t.start r in_turn.rows.start_used l in
      (k, (leads_some rules t in_turn.rows (word_of from by r) r k l).1)

  word_first : (r : ℕ) → r < N → First rules (word_of from by r)
  word_first r h = let k = word_rows r h in let i = in_turn.rows.inhabited r ((in_turn.places r).1 h) in record {
    word = k.0;
    inhabited = (i.0, (k.1 i.0).0 i.1);
    none_before = λ v w b s. none v b (least (suc (length v)) v r (omega arith)
        (leads_to rules t in_turn.rows v r ((in_turn.places r).1 h) w (λ n. (λ x. (s n).1 ((k.1 n).0 x), λ x. (k.1 n).1 ((s n).0 x)))));
  }
    where
      none : (v : List ℕ) → Before v (word_of from by r) → (word_of from by r ≡ v) ⊎ Before (word_of from by r) v → ⊥
      none v b (inl e) = before_irrefl v (subst (Before v) e b)
      none v b (inr c) = before_irrefl v (before_trans v _ v b c)

  first_among : (w : List ℕ) → First rules w → Among w (upto from by N)
  first_among w f = go (leads t w) refl (leads_finds rules t in_turn.rows w f.word)
    where
      at : (r : ℕ) → r < N → Holds (t.set r) (R rules w) → (word_of from by r ≡ w) ⊎ Before (word_of from by r) w → Among w (upto from by N)
      at r h g (inl e) = subst (λ (x : List ℕ). Among x (upto from by N)) e (upto_among from by N r h)
      at r h g (inr b) = let k = word_rows r h in
          absurd (f.none_before (word_of from by r) k.0 b (λ n. (λ p. (g n).0 ((k.1 n).1 p), λ p. (k.1 n).0 ((g n).1 p))))

      go : (o : Option ℕ) → leads t w ≡ o → Finds t (R rules w) o → Among w (upto from by N)
      go None l g = absurd (g f.inhabited.0 f.inhabited.1)
      go (Some r) l g = at r ((in_turn.places r).0 g.0) g.1 (least (suc (length w)) w r (omega arith) l)

  upto_rising : (k : ℕ) → k ≤ N → Rising (upto from by k)
  upto_rising zero h = tt
  upto_rising (suc k) h = rising_end (upto from by k) _ (upto_rising k (omega arith))
      (λ y m. let a = among_upto from by k y m in subst (λ (x : List ℕ). Before x (word_of from by k)) (sym a.2) (mono N a.0 k h a.1 h))

pub turn_is_order : (rules : Rules) (t : Table) (N : ℕ) (from by : ℕ → ℕ) → InTurn rules t N from by → (ws : List (List ℕ)) × InOrder rules t N ws
turn_is_order rules t N from by in_turn = (
  upto from by N,
  record {
    rows = in_turn.rows;
    start = in_turn.start;
    places = in_turn.places;
    enumerates = record {
      rising = upto_rising rules t N from by in_turn N (omega arith);
      exactly = λ w. (
        λ m. let a = among_upto from by N w m in subst (First rules) (sym a.2) (word_first rules t N from by in_turn a.0 a.1),
        first_among rules t N from by in_turn w,
      );
    };
    count = length_upto from by N;
    leads_there = λ r h. ap (leads t) (upto_word from by N r h) ∙ leads_word rules t N from by in_turn N r h h;
  },
)
