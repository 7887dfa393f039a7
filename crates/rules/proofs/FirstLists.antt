-- Lists of events by length and first difference: a strict total order; ascending lists with the same members are one list.
use Rattle.std.proofs.Common.{◌≡◌, ℕ, suc, ◌<◌, ◌⊎◌, ◌↔◌, List, [], ◌∷◌, ◌++◌, length, sym, refl, ap, ◌∙◌, subst, ap₂, inl, inr, arith, length-append}
use native.Mathlib.Decide.{dec_lt}
use Rattle.rules.specs.Rules.{Rules, Alike}
use Rattle.rules.specs.Paths.{Path, R, Same, Word}
use Rattle.rules.specs.Order.{DiffersBelow, Before, Rising, First, Enumeration, TellsSame}
use Rattle.rules.specs.Counts.{Among}

pub three : (a b : ℕ) → (a < b) ⊎ ((a ≡ b) ⊎ (b < a))
three a b = go (dec_lt a b) (dec_lt b a)
  where
    go : Dec (a < b) → Dec (b < a) → (a < b) ⊎ ((a ≡ b) ⊎ (b < a))
    go (yes h) d = inl h
    go (no h) (yes k) = inr (inr k)
    go (no h) (no k) = inr (inl (omega arith))

differs_irrefl : (v : List ℕ) → DiffersBelow v v → ⊥
differs_irrefl [] h = h
differs_irrefl (a ∷ v) (inl h) = omega arith
differs_irrefl (a ∷ v) (inr h) = differs_irrefl v h.1

differs_trans : (u v w : List ℕ) → DiffersBelow u v → DiffersBelow v w → DiffersBelow u w
differs_trans [] v w h k = absurd h
differs_trans (a ∷ u) [] w h k = absurd h
differs_trans (a ∷ u) (b ∷ v) [] h k = absurd k
differs_trans (a ∷ u) (b ∷ v) (c ∷ w) (inl h) (inl k) = inl (omega arith)
differs_trans (a ∷ u) (b ∷ v) (c ∷ w) (inl h) (inr k) = let e = k.0 in inl (omega arith)
differs_trans (a ∷ u) (b ∷ v) (c ∷ w) (inr h) (inl k) = let e = h.0 in inl (omega arith)
differs_trans (a ∷ u) (b ∷ v) (c ∷ w) (inr h) (inr k) = inr (h.0 ∙ k.0, differs_trans u v w h.1 k.1)

differs_three : (v w : List ℕ) → length v ≡ length w → DiffersBelow v w ⊎ ((v ≡ w) ⊎ DiffersBelow w v)
differs_three [] [] h = inr (inl refl)
differs_three [] (b ∷ w) h = absurd (omega arith)
differs_three (a ∷ v) [] h = absurd (omega arith)
differs_three (a ∷ v) (b ∷ w) h = go (three a b) (differs_three v w (omega arith))
  where
    go : (a < b) ⊎ ((a ≡ b) ⊎ (b < a)) → DiffersBelow v w ⊎ ((v ≡ w) ⊎ DiffersBelow w v) →
        DiffersBelow (a ∷ v) (b ∷ w) ⊎ (((a ∷ v) ≡ (b ∷ w)) ⊎ DiffersBelow (b ∷ w) (a ∷ v))
    go (inl l) d = inl (inl l)
    go (inr (inr g)) d = inr (inr (inl g))
    go (inr (inl e)) (inl d) = inl (inr (e, d))
    go (inr (inl e)) (inr (inl d)) = inr (inl (ap₂ {C = List ℕ} ◌∷◌ e d))
    go (inr (inl e)) (inr (inr d)) = inr (inr (inr (sym e, d)))

pub before_irrefl : (v : List ℕ) → Before v v → ⊥
before_irrefl v (inl h) = omega arith
before_irrefl v (inr h) = differs_irrefl v h.1

pub before_trans : (u v w : List ℕ) → Before u v → Before v w → Before u w
before_trans u v w (inl h) (inl k) = inl (omega arith)
before_trans u v w (inl h) (inr k) = let e = k.0 in inl (omega arith)
before_trans u v w (inr h) (inl k) = let e = h.0 in inl (omega arith)
before_trans u v w (inr h) (inr k) = inr (h.0 ∙ k.0, differs_trans u v w h.1 k.1)

pub before_three : (v w : List ℕ) → Before v w ⊎ ((v ≡ w) ⊎ Before w v)
before_three v w = go (three (length v) (length w))
  where
    go' : length v ≡ length w → DiffersBelow v w ⊎ ((v ≡ w) ⊎ DiffersBelow w v) → Before v w ⊎ ((v ≡ w) ⊎ Before w v)
    go' e (inl d) = inl (inr (e, d))
    go' e (inr (inl d)) = inr (inl d)
    go' e (inr (inr d)) = inr (inr (inr (sym e, d)))

    go : (length v < length w) ⊎ ((length v ≡ length w) ⊎ (length w < length v)) → Before v w ⊎ ((v ≡ w) ⊎ Before w v)
    go (inl h) = inl (inl h)
    go (inr (inl e)) = go' e (differs_three v w e)
    go (inr (inr h)) = inr (inr (inl h))

-- one more event at the end of each
differs_snoc : (v w : List ℕ) (a b : ℕ) → DiffersBelow v w → DiffersBelow (v ++ (a ∷ [])) (w ++ (b ∷ []))
differs_snoc [] w a b h = absurd h
differs_snoc (x ∷ v) [] a b h = absurd h
differs_snoc (x ∷ v) (y ∷ w) a b (inl h) = inl h
differs_snoc (x ∷ v) (y ∷ w) a b (inr h) = inr (h.0, differs_snoc v w a b h.1)

differs_last : (v : List ℕ) (a b : ℕ) → a < b → DiffersBelow (v ++ (a ∷ [])) (v ++ (b ∷ []))
differs_last [] a b h = inl h
differs_last (x ∷ v) a b h = inr (refl, differs_last v a b h)

pub length_snoc : {A : Type 0} (v : List A) (a : A) → length (v ++ (a ∷ [])) ≡ suc (length v)
length_snoc v a = length-append v (a ∷ []) ∙ omega arith

pub before_snoc : (v w : List ℕ) (a b : ℕ) → Before v w → Before (v ++ (a ∷ [])) (w ++ (b ∷ []))
before_snoc v w a b (inl h) = inl (omega (arith, length_snoc v a, length_snoc w b))
before_snoc v w a b (inr h) = inr (length_snoc v a ∙ ap suc h.0 ∙ sym (length_snoc w b), differs_snoc v w a b h.1)

pub before_last : (v : List ℕ) (a b : ℕ) → a < b → Before (v ++ (a ∷ [])) (v ++ (b ∷ []))
before_last v a b h = inr (length_snoc v a ∙ sym (length_snoc v b), differs_last v a b h)

pub rising_one : (vs ws : List (List ℕ)) → Rising vs → Rising ws → ((w : List ℕ) → Among w vs ↔ Among w ws) → vs ≡ ws
rising_one [] [] r s h = refl
rising_one [] (w ∷ ws) r s h = absurd ((h w).1 (inl refl))
rising_one (v ∷ vs) [] r s h = absurd ((h v).0 (inl refl))
rising_one (v ∷ vs) (w ∷ ws) r s h = let e = heads ((h v).0 (inl refl)) ((h w).1 (inl refl)) in
    ap₂ {C = List (List ℕ)} ◌∷◌ e (rising_one vs ws r.1 s.1 (λ x. (λ m. forth e x m ((h x).0 (inr m)), λ m. back e x m ((h x).1 (inr m)))))
  where
    heads : Among v (w ∷ ws) → Among w (v ∷ vs) → v ≡ w
    heads (inl e) k = e
    heads (inr m) (inl e) = sym e
    heads (inr m) (inr k) = absurd (before_irrefl v (before_trans v w v (r.0 w k) (s.0 v m)))

    forth : v ≡ w → (x : List ℕ) → Among x vs → Among x (w ∷ ws) → Among x ws
    forth e x m (inl d) = absurd (before_irrefl v (subst (Before v) (d ∙ sym e) (r.0 x m)))
    forth e x m (inr k) = k

    back : v ≡ w → (x : List ℕ) → Among x ws → Among x (v ∷ vs) → Among x vs
    back e x m (inl d) = absurd (before_irrefl w (subst (Before w) (d ∙ e) (s.0 x m)))
    back e x m (inr k) = k

-- books with the same arcs have the same paths
alike_path : {a b : Rules} → ((m e n : ℕ) → a.arc m e n ≡ b.arc m e n) → {s t : ℕ} {w : List ℕ} → Path a s w t → Path b s w t
alike_path l Path.stay = Path.stay
alike_path l (Path.silent h p) = Path.silent (sym (l _ _ _) ∙ h) (alike_path l p)
alike_path l (Path.event k h p) = Path.event k (sym (l _ _ _) ∙ h) (alike_path l p)

pub alike_tells_same : (a b : Rules) → Alike a b → TellsSame a b
alike_tells_same a b l = record {
  events = l.events;
  live = l.live;
  mark = l.mark;
  reach = λ w n. (alike_path l.arc, alike_path (λ m e n. sym (l.arc m e n)));
}

pub tells_back : {a b : Rules} → TellsSame a b → TellsSame b a
tells_back l = record {
  events = sym l.events;
  live = λ n. sym (l.live n);
  mark = λ n h. sym (l.mark n (l.live n ∙ h));
  reach = λ w n. ((l.reach w n).1, (l.reach w n).0);
}

pub tells_word : {a b : Rules} → TellsSame a b → (w : List ℕ) → Word a w → Word b w
tells_word l [] k = tt
tells_word l (e ∷ w) k = ((k.0.0, rw l.events at k.0.1), tells_word l w k.1)

pub tells_first : {a b : Rules} → TellsSame a b → {w : List ℕ} → First a w → First b w
tells_first l {w} f = let m = tells_back l in record {
  word = tells_word l w f.word;
  inhabited = (f.inhabited.0, (l.reach w _).0 f.inhabited.1);
  none_before = λ v k h s. f.none_before v (tells_word m v k) h
      (λ n. (λ p. (l.reach w n).1 ((s n).0 ((l.reach v n).0 p)), λ p. (l.reach v n).1 ((s n).1 ((l.reach w n).0 p))));
}

pub one_enumeration : (a b : Rules) (vs ws : List (List ℕ)) → TellsSame a b → Enumeration a vs → Enumeration b ws → vs ≡ ws
one_enumeration a b vs ws l p q = rising_one vs ws p.rising q.rising
    (λ w. (λ m. (q.exactly w).1 (tells_first l ((p.exactly w).0 m)), λ m. (p.exactly w).1 (tells_first (tells_back l) ((q.exactly w).0 m))))

pub one_first : (rules : Rules) (v w : List ℕ) → First rules v → First rules w → Same (R rules v) (R rules w) → v ≡ w
one_first rules v w f g s = go (before_three v w)
  where
    go : Before v w ⊎ ((v ≡ w) ⊎ Before w v) → v ≡ w
    go (inl b) = absurd (g.none_before v f.word b s)
    go (inr (inl e)) = e
    go (inr (inr b)) = absurd (f.none_before w g.word b (λ n. ((s n).1, (s n).0)))
