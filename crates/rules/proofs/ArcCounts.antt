-- `standing` is the number of arcs, and how it grows from book to book.
use Rattle.std.proofs.Common.{◌≡◌, ℕ, suc, ◌<◌, ◌≤◌, Bool, true, false, cond, ◌⊎◌, List, [], ◌∷◌, length, sym, refl, ap, subst, inl, inr, arith}
use Rattle.std.proofs.lemmas.Bool.{false≢true}
use Rattle.rules.specs.Rules.{Rules, standing}
use Rattle.rules.specs.Counts.{Among, NoRepeat, Counts}
use Rattle.rules.proofs.Counting.{fewer}
use Rattle.rules.specs.Listing.{each_below}
use Rattle.rules.proofs.Below.{each_some, some_each, each_once, each_length, sum_zero}

abbrev pub Triple : Type 0
Triple = ℕ × ℕ × ℕ

-- an arc of the book, as a triple
abbrev pub Stands : Rules → Triple → Type 0
Stands b a = b.arc a.0 a.1 a.2 ≡ true

-- the two things true of every book that the count of its arcs rests on
pub record Joins (b : Rules) : Type 0 where
  pub low : (n : ℕ) → b.live n ≡ true → n < 256
  pub ends : (m e n : ℕ) → b.arc m e n ≡ true → (b.live m ≡ true) × (b.live n ≡ true) × (e ≤ b.events)

guard_among : (v : Bool) (xs : List Triple) (a : Triple) → Among a (cond v xs []) → (v ≡ true) × Among a xs
guard_among true xs a h = (refl, h)
guard_among false xs a h = absurd h

among_guard : (v : Bool) (xs : List Triple) (a : Triple) → v ≡ true → Among a xs → Among a (cond v xs [])
among_guard true xs a e h = h
among_guard false xs a e h = absurd (false≢true e)

guard_once : (v : Bool) (xs : List Triple) → NoRepeat xs → NoRepeat (cond v xs [])
guard_once true xs h = h
guard_once false xs h = tt

guard_length : (v : Bool) (xs : List Triple) (c : ℕ) → length xs ≡ c → length (cond v xs []) ≡ cond v c 0
guard_length true xs c h = h
guard_length false xs c h = refl

-- the arcs of a book, listed by the stage they leave, the stage they enter and their label
module _ (b : Rules) where
  abbrev one : ℕ → ℕ → ℕ → List Triple
  one m n e = cond (b.arc m e n) ((m, e, n) ∷ []) []

  abbrev by_to : ℕ → ℕ → List Triple
  by_to m n = cond (b.live n) (each_below (suc b.events) (one m n)) []

  abbrev by_from : ℕ → List Triple
  by_from m = cond (b.live m) (each_below 256 (by_to m)) []

  one_is : (m n e : ℕ) (a : Triple) → Among a (one m n e) → (b.arc m e n ≡ true) × (a ≡ (m, e, n))
  one_is m n e a h = let p = guard_among (b.arc m e n) ((m, e, n) ∷ []) a h in (p.0, last p.1)
    where
      last : Among a ((m, e, n) ∷ []) → a ≡ (m, e, n)
      last (inl x) = x
      last (inr x) = absurd x

  to_is : (m n : ℕ) (a : Triple) → Among a (by_to m n) → (e : ℕ) × (b.arc m e n ≡ true) × (a ≡ (m, e, n))
  to_is m n a h =
      let p = guard_among (b.live n) (each_below (suc b.events) (one m n)) a h in
      let q = each_some (suc b.events) (one m n) a p.1 in
      let o = one_is m n q.0 a q.2 in
      (q.0, o.0, o.1)

  from_is : (m : ℕ) (a : Triple) → Among a (by_from m) → (n : ℕ) × (e : ℕ) × (b.arc m e n ≡ true) × (a ≡ (m, e, n))
  from_is m a h =
      let p = guard_among (b.live m) (each_below 256 (by_to m)) a h in
      let q = each_some 256 (by_to m) a p.1 in
      let o = to_is m q.0 a q.2 in
      (q.0, o.0, o.1, o.2)

  one_once : (m n e : ℕ) → NoRepeat (one m n e)
  one_once m n e = guard_once (b.arc m e n) ((m, e, n) ∷ []) ((λ h. h), tt)

  to_once : (m n : ℕ) → NoRepeat (by_to m n)
  to_once m n = guard_once (b.live n) _
      (each_once (suc b.events) (one m n) (λ a. a.1) (λ e a h. ap (λ (t : Triple). t.1) (one_is m n e a h).1) (one_once m n))

  from_once : (m : ℕ) → NoRepeat (by_from m)
  from_once m = guard_once (b.live m) _ (each_once 256 (by_to m) (λ a. a.2) (λ n a h. ap (λ (t : Triple). t.2) (to_is m n a h).2) (to_once m))

  pub arcs_count : Joins b → Counts Triple (Stands b) (standing b)
  arcs_count g = record {
    list = each_below 256 by_from;
    no_repeat = each_once 256 by_from (λ a. a.0) (λ m a h. ap (λ (t : Triple). t.0) (from_is m a h).3) from_once;
    exactly = λ a. (there a, back a);
    count = each_length 256 by_from _ (λ m. guard_length (b.live m) _ _ (each_length 256 (by_to m) _ (λ n. guard_length (b.live n) _ _
        (each_length (suc b.events) (one m n) _ (λ e. guard_length (b.arc m e n) ((m, e, n) ∷ []) 1 refl)))));
  }
    where
      there : (a : Triple) → Among a (each_below 256 by_from) → Stands b a
      there a h =
          let p = each_some 256 by_from a h in
          let q = from_is p.0 a p.2 in
          subst (λ (t : Triple). b.arc t.0 t.1 t.2 ≡ true) (sym q.3) q.2

      back : (a : Triple) → Stands b a → Among a (each_below 256 by_from)
      back a h =
          let d = g.ends a.0 a.1 a.2 h in
          some_each 256 by_from a a.0 (g.low a.0 d.0)
          (among_guard (b.live a.0) _ a d.0
          (some_each 256 (by_to a.0) a a.2 (g.low a.2 d.1)
          (among_guard (b.live a.2) _ a d.1
          (some_each (suc b.events) (one a.0 a.2) a a.1 (omega (arith, d.2))
          (among_guard (b.arc a.0 a.1 a.2) _ a h (inl refl))))))

-- no more arcs than a list holds that has them all
pub arcs_listed : (b : Rules) → Joins b → (l : List Triple) → ((a : Triple) → Stands b a → Among a l) → standing b ≤ length l
arcs_listed b g l h = let c = arcs_count b g in
    subst (λ (x : ℕ). x ≤ length l) c.count (fewer c.list l c.no_repeat (λ a m. h a ((c.exactly a).0 m)))

-- no more arcs than in a book that has them all
pub arcs_kept : (a b : Rules) → Joins a → Joins b → ((m e n : ℕ) → b.arc m e n ≡ true → a.arc m e n ≡ true) → standing b ≤ standing a
arcs_kept a b f g h = let c = arcs_count a f in
    subst (λ (x : ℕ). standing b ≤ x) c.count (arcs_listed b g c.list (λ t s. (c.exactly t).1 (h t.0 t.1 t.2 s)))

-- at most one more than in a book that has all but one
pub arcs_added : (a b : Rules) → Joins a → Joins b → (one : Triple) →
    ((m e n : ℕ) → b.arc m e n ≡ true → (◌≡◌ {A = Triple} (m, e, n) one) ⊎ (a.arc m e n ≡ true)) → standing b ≤ suc (standing a)
arcs_added a b f g one h = let c = arcs_count a f in
    subst (λ (x : ℕ). standing b ≤ suc x) c.count (arcs_listed b g (one ∷ c.list) (λ t s. either t (h t.0 t.1 t.2 s)))
  where
    either : (t : Triple) → (t ≡ one) ⊎ Stands a t → Among t (one ∷ (arcs_count a f).list)
    either t (inl e) = inl e
    either t (inr s) = inr (((arcs_count a f).exactly t).1 s)

guard_zero : (v : Bool) (x : ℕ) → x ≡ 0 → cond {A = ℕ} v x 0 ≡ 0
guard_zero true x h = h
guard_zero false x h = refl

-- where no arc stands there are none
pub no_arcs : (b : Rules) → ((m e n : ℕ) → b.arc m e n ≡ false) → standing b ≡ 0
no_arcs b h = sum_zero 256 _ (λ m. guard_zero (b.live m) _ (sum_zero 256 _ (λ n. guard_zero (b.live n) _
    (sum_zero (suc b.events) _ (λ e. ap (λ (v : Bool). cond {A = ℕ} v 1 0) (h m e n))))))
