-- Books and tables that are listed: what a listing must pass to be a right table in turn.
use Rattle.std.proofs.Common.{◌≡◌, ℕ, zero, suc, ◌<◌, Bool, true, false, not, ◌&&◌, ◌||◌, eqb, ltb, ◌⊎◌, List, [], ◌∷◌, sym, refl, ◌∙◌, subst, inl, inr, arith}
use mathlib.Core.Path.{subst⁻¹}
use mathlib.Core.Bool.{false≢true}
use Rattle.std.proofs.lemmas.Bool.{and_parts, and_from, or_cases, ltb-true, ltb-false, eqb-true, eq-eqb, both_ways, not-true}
use Rattle.rules.specs.Rules.{Rules}
use Rattle.rules.specs.Paths.{R, Exit, Holds, Empty, Closed}
use Rattle.rules.specs.Paths.Path.{stay, silent}
use Rattle.three_stages.specs.Example.{has_stage, has_arc}
use Rattle.rules.proofs.PathParts.{extend, closed_path}

pub true_or : (a b : Bool) → (a ≡ true) ⊎ (b ≡ true) → (a || b) ≡ true
true_or true true h = refl
true_or true false h = refl
true_or false true h = refl
true_or false false (inl h) = absurd (false≢true h)
true_or false false (inr h) = absurd (false≢true h)

abbrev pub imp : Bool → Bool → Bool
imp true b = b
imp false b = true

pub imp_true : (a b : Bool) → imp a b ≡ true → a ≡ true → b ≡ true
imp_true true b h k = h
imp_true false b h k = absurd (false≢true k)

abbrev pub all_below : ℕ → (ℕ → Bool) → Bool
all_below zero p = true
all_below (suc n) p = p n && all_below n p

pub all_below_at : (n : ℕ) (p : ℕ → Bool) → all_below n p ≡ true → (k : ℕ) → k < n → p k ≡ true
all_below_at zero p h k l = absurd (omega arith)
all_below_at (suc n) p h k l = go (λ m. all_below_at n p (and_parts (p n) (all_below n p) h).1 k m) (ltb k n) refl
  where
    go : (k < n → p k ≡ true) → (b : Bool) → ltb k n ≡ b → p k ≡ true
    go ih true e = ih (ltb-true k n e)
    go ih false e = let g = ltb-false k n e in let z : n ≡ k = omega arith in subst (λ (x : ℕ). p x ≡ true) z (and_parts (p n) (all_below n p) h).0

abbrev pub Arcs : Type 0
Arcs = List (ℕ × ℕ × ℕ)

abbrev pub every_arc : (ℕ → ℕ → ℕ → Bool) → Arcs → Bool
every_arc p [] = true
every_arc p (a ∷ more) = p a.0 a.1 a.2 && every_arc p more

abbrev pub some_arc : (ℕ → ℕ → ℕ → Bool) → Arcs → Bool
some_arc p [] = false
some_arc p (a ∷ more) = p a.0 a.1 a.2 || some_arc p more

-- a listed arc is this one, or is listed further on
arc_cases : (a : ℕ × ℕ × ℕ) (more : Arcs) (m e n : ℕ) → has_arc (a ∷ more) m e n ≡ true →
    ((a.0 ≡ m) × (a.1 ≡ e) × (a.2 ≡ n)) ⊎ (has_arc more m e n ≡ true)
arc_cases a more m e n h = go (or_cases (eqb a.0 m && (eqb a.1 e && eqb a.2 n)) (has_arc more m e n) h)
  where
    go : ((eqb a.0 m && (eqb a.1 e && eqb a.2 n)) ≡ true) ⊎ (has_arc more m e n ≡ true) →
        ((a.0 ≡ m) × (a.1 ≡ e) × (a.2 ≡ n)) ⊎ (has_arc more m e n ≡ true)
    go (inl k) = let x = and_parts (eqb a.0 m) (eqb a.1 e && eqb a.2 n) k in let y = and_parts (eqb a.1 e) (eqb a.2 n) x.1 in
        inl (eqb-true a.0 m x.0, eqb-true a.1 e y.0, eqb-true a.2 n y.1)
    go (inr k) = inr k

arc_here : (a : ℕ × ℕ × ℕ) (more : Arcs) → has_arc (a ∷ more) a.0 a.1 a.2 ≡ true
arc_here a more = true_or _ (has_arc more a.0 a.1 a.2) (inl (and_from (eqb a.0 a.0) _ (eq-eqb a.0 a.0 refl)
    (and_from (eqb a.1 a.1) (eqb a.2 a.2) (eq-eqb a.1 a.1 refl) (eq-eqb a.2 a.2 refl))))

moved_arc : (p : ℕ → ℕ → ℕ → Bool) {a b c m e n : ℕ} → (a ≡ m) × (b ≡ e) × (c ≡ n) → p a b c ≡ true → p m e n ≡ true
moved_arc p {a} {b} {c} {m} {e} {n} z h = let q : p a b c ≡ p m e n = λ i. p (z.0 i) (z.1 i) (z.2 i) in sym q ∙ h

pub every_arc_at : (p : ℕ → ℕ → ℕ → Bool) (arcs : Arcs) → every_arc p arcs ≡ true → (m e n : ℕ) → has_arc arcs m e n ≡ true → p m e n ≡ true
every_arc_at p [] h m e n k = absurd (false≢true k)
every_arc_at p (a ∷ more) h m e n k = go (λ l. every_arc_at p more both.1 m e n l) (arc_cases a more m e n k)
  where
    both : (p a.0 a.1 a.2 ≡ true) × (every_arc p more ≡ true)
    both = and_parts (p a.0 a.1 a.2) (every_arc p more) h

    go : (has_arc more m e n ≡ true → p m e n ≡ true) → ((a.0 ≡ m) × (a.1 ≡ e) × (a.2 ≡ n)) ⊎ (has_arc more m e n ≡ true) → p m e n ≡ true
    go ih (inl z) = moved_arc p z both.0
    go ih (inr l) = ih l

pub some_arc_at : (p : ℕ → ℕ → ℕ → Bool) (arcs : Arcs) → some_arc p arcs ≡ true → (m : ℕ) × (e : ℕ) × (n : ℕ) × (has_arc arcs m e n ≡ true) × (p m e n ≡ true)
some_arc_at p [] h = absurd (false≢true h)
some_arc_at p (a ∷ more) h = go (λ l. some_arc_at p more l) (or_cases (p a.0 a.1 a.2) (some_arc p more) h)
  where
    go : (some_arc p more ≡ true → (m : ℕ) × (e : ℕ) × (n : ℕ) × (has_arc more m e n ≡ true) × (p m e n ≡ true)) →
        (p a.0 a.1 a.2 ≡ true) ⊎ (some_arc p more ≡ true) → (m : ℕ) × (e : ℕ) × (n : ℕ) × (has_arc (a ∷ more) m e n ≡ true) × (p m e n ≡ true)
    go ih (inl k) = (a.0, a.1, a.2, arc_here a more, k)
    go ih (inr l) = let x = ih l in (x.0, x.1, x.2, true_or _ (has_arc more x.0 x.1 x.2) (inr x.3), x.4)

pub at_some_arc : (p : ℕ → ℕ → ℕ → Bool) (arcs : Arcs) (m e n : ℕ) → has_arc arcs m e n ≡ true → p m e n ≡ true → some_arc p arcs ≡ true
at_some_arc p [] m e n h k = absurd (false≢true h)
at_some_arc p (a ∷ more) m e n h k = true_or (p a.0 a.1 a.2) (some_arc p more) (go (λ l. at_some_arc p more m e n l k) (arc_cases a more m e n h))
  where
    go : (has_arc more m e n ≡ true → some_arc p more ≡ true) → ((a.0 ≡ m) × (a.1 ≡ e) × (a.2 ≡ n)) ⊎ (has_arc more m e n ≡ true) →
        (p a.0 a.1 a.2 ≡ true) ⊎ (some_arc p more ≡ true)
    go ih (inl z) = inl (moved_arc p (sym z.0, sym z.1, sym z.2) k)
    go ih (inr l) = inr (ih l)

-- each listed stage is a beginning, or a silent arc leads to it from one listed before
abbrev pub justify : Arcs → (ℕ → Bool) → List ℕ → List ℕ → Bool
justify arcs base done [] = true
justify arcs base done (n ∷ T) = (base n || some_arc (λ m l x. eqb x n && (eqb l 0 && has_stage done m)) arcs) && justify arcs base (n ∷ done) T

justified : (arcs : Arcs) (base : ℕ → Bool) (P : ℕ → Type 0) → ((n : ℕ) → base n ≡ true → P n) → ((m n : ℕ) → P m → has_arc arcs m 0 n ≡ true → P n) →
    (done T : List ℕ) → ((n : ℕ) → has_stage done n ≡ true → P n) → justify arcs base done T ≡ true → (n : ℕ) → has_stage T n ≡ true → P n
justified arcs base P b s done [] d h n k = absurd (false≢true k)
justified arcs base P b s done (x ∷ T) d h n k =
    go (λ l. justified arcs base P b s (x ∷ done) T (λ y z. seen y (or_cases (eqb x y) (has_stage done y) z)) parts.1 n l)
    (or_cases (eqb x n) (has_stage T n) k)
  where
    parts : ((base x || some_arc (λ m l y. eqb y x && (eqb l 0 && has_stage done m)) arcs) ≡ true) × (justify arcs base (x ∷ done) T ≡ true)
    parts = and_parts (base x || some_arc (λ m l y. eqb y x && (eqb l 0 && has_stage done m)) arcs) (justify arcs base (x ∷ done) T) h

    from_arc : some_arc (λ m l y. eqb y x && (eqb l 0 && has_stage done m)) arcs ≡ true → P x
    from_arc z = let a = some_arc_at (λ m l y. eqb y x && (eqb l 0 && has_stage done m)) arcs z in
        let u = and_parts (eqb a.2 x) (eqb a.1 0 && has_stage done a.0) a.4 in
        let v = and_parts (eqb a.1 0) (has_stage done a.0) u.1 in
        s a.0 x (d a.0 v.1) (moved_arc (has_arc arcs) (refl, eqb-true a.1 0 v.0, eqb-true a.2 x u.0) a.3)

    one : (base x ≡ true) ⊎ (some_arc (λ m l y. eqb y x && (eqb l 0 && has_stage done m)) arcs ≡ true) → P x
    one (inl z) = b x z
    one (inr z) = from_arc z

    here : P x
    here = one (or_cases (base x) _ parts.0)

    seen : (y : ℕ) → (eqb x y ≡ true) ⊎ (has_stage done y ≡ true) → P y
    seen y (inl z) = subst P (eqb-true x y z) here
    seen y (inr z) = d y z

    go : (has_stage T n ≡ true → P n) → (eqb x n ≡ true) ⊎ (has_stage T n ≡ true) → P n
    go ih (inl z) = subst P (eqb-true x n z) here
    go ih (inr l) = ih l

abbrev pub closed_b : Arcs → List ℕ → Bool
closed_b arcs T = every_arc (λ m l n. imp (eqb l 0 && has_stage T m) (has_stage T n)) arcs

abbrev pub start_b : Arcs → List ℕ → Bool
start_b arcs T = has_stage T 0 && (closed_b arcs T && justify arcs (λ n. eqb n 0) [] T)

abbrev pub leaving : List ℕ → ℕ → ℕ → ℕ → ℕ → Bool
leaving S e m l n = eqb l e && has_stage S m

abbrev pub exit_b : Arcs → List ℕ → ℕ → List ℕ → Bool
exit_b arcs S e T = every_arc (λ m l n. imp (leaving S e m l n) (has_stage T n)) arcs
    && (closed_b arcs T && justify arcs (λ n. some_arc (λ m l x. eqb x n && leaving S e m l x) arcs) [] T)

abbrev pub none_b : Arcs → List ℕ → ℕ → Bool
none_b arcs S e = every_arc (λ m l n. not (leaving S e m l n)) arcs

module _ (rules : Rules) (arcs : Arcs) (is : rules.arc ≡ has_arc arcs) where
  listed : (m e n : ℕ) → rules.arc m e n ≡ true → has_arc arcs m e n ≡ true
  listed m e n h = subst (λ f. f m e n ≡ true) is h

  stands : (m e n : ℕ) → has_arc arcs m e n ≡ true → rules.arc m e n ≡ true
  stands m e n h = subst⁻¹ (λ f. f m e n ≡ true) is h

  closed_holds : (T : List ℕ) → closed_b arcs T ≡ true → Closed rules (has_stage T)
  closed_holds T h m n t a = imp_true (eqb 0 0 && has_stage T m) (has_stage T n)
      (every_arc_at (λ m l n. imp (eqb l 0 && has_stage T m) (has_stage T n)) arcs h m 0 n (listed m 0 n a)) (and_from (eqb 0 0) (has_stage T m) refl t)

  pub start_holds : (T : List ℕ) → start_b arcs T ≡ true → Holds (has_stage T) (R rules [])
  start_holds T h n = (
    justified arcs (λ n. eqb n 0) (R rules []) (λ n k. subst (R rules []) (sym (eqb-true n 0 k)) stay)
        (λ m n p a. extend p (silent (stands m 0 n a) stay)) [] T (λ n k. absurd (false≢true k)) y.1 n,
    λ p. closed_path (closed_holds T y.0) p x.0,
  )
    where
      x : (has_stage T 0 ≡ true) × ((closed_b arcs T && justify arcs (λ n. eqb n 0) [] T) ≡ true)
      x = and_parts (has_stage T 0) (closed_b arcs T && justify arcs (λ n. eqb n 0) [] T) h

      y : (closed_b arcs T ≡ true) × (justify arcs (λ n. eqb n 0) [] T ≡ true)
      y = and_parts (closed_b arcs T) (justify arcs (λ n. eqb n 0) [] T) x.1

  pub exit_holds : (S : List ℕ) (e : ℕ) (T : List ℕ) → exit_b arcs S e T ≡ true → Holds (has_stage T) (Exit rules (has_stage S) e)
  exit_holds S e T h n = (
    justified arcs base (Exit rules (has_stage S) e) begin (λ m n p a. (p.0, p.1, p.2, p.3, extend p.4 (silent (stands m 0 n a) stay)))
        [] T (λ n k. absurd (false≢true k)) y.1 n,
    λ p. closed_path (closed_holds T y.0) p.4
        (imp_true (leaving S e p.0 e p.1) (has_stage T p.1)
        (every_arc_at (λ m l n. imp (leaving S e m l n) (has_stage T n)) arcs x.0 p.0 e p.1 (listed _ _ _ p.3))
        (and_from (eqb e e) (has_stage S p.0) (eq-eqb e e refl) p.2)),
  )
    where
      base : ℕ → Bool
      base n = some_arc (λ m l x. eqb x n && leaving S e m l x) arcs

      x : (every_arc (λ m l n. imp (leaving S e m l n) (has_stage T n)) arcs ≡ true) ×
          ((closed_b arcs T && justify arcs (λ n. some_arc (λ m l x. eqb x n && leaving S e m l x) arcs) [] T) ≡ true)
      x = and_parts (every_arc (λ m l n. imp (leaving S e m l n) (has_stage T n)) arcs)
          (closed_b arcs T && justify arcs (λ n. some_arc (λ m l x. eqb x n && leaving S e m l x) arcs) [] T) h

      y : (closed_b arcs T ≡ true) × (justify arcs (λ n. some_arc (λ m l x. eqb x n && leaving S e m l x) arcs) [] T ≡ true)
      y = and_parts (closed_b arcs T) (justify arcs (λ n. some_arc (λ m l x. eqb x n && leaving S e m l x) arcs) [] T) x.1

      begin : (n : ℕ) → base n ≡ true → Exit rules (has_stage S) e n
      begin n k = let a = some_arc_at (λ m l x. eqb x n && leaving S e m l x) arcs k in
          let u = and_parts (eqb a.2 n) (leaving S e a.0 a.1 a.2) a.4 in
          let v = and_parts (eqb a.1 e) (has_stage S a.0) u.1 in
          (a.0, n, v.1, stands _ _ _ (moved_arc (has_arc arcs) (refl, eqb-true a.1 e v.0, eqb-true a.2 n u.0) a.3), stay)

  pub none_holds : (S : List ℕ) (e : ℕ) → none_b arcs S e ≡ true → Empty (Exit rules (has_stage S) e)
  none_holds S e h n p = both_ways (leaving S e p.0 e p.1)
      (not-true _ (every_arc_at (λ m l n. not (leaving S e m l n)) arcs h p.0 e p.1 (listed _ _ _ p.3)))
      (and_from (eqb e e) (has_stage S p.0) (eq-eqb e e refl) p.2)
