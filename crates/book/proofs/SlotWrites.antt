-- Slots one by one: what one write does to the arcs that stand, to their number and to what is true of all.
use Rattle.std.proofs.Common.{◌≡◌, ℕ, ◌+◌, ◌<◌, ◌≤◌, Bool, true, false, cond, not, ◌&&◌, ◌||◌, eqb, ltb, ◌⊎◌, List, [], ◌∷◌, Some, None, Option, is_some, count_by, position, length, get_or, set, sym, refl, ap, ◌∙◌, inl, inr, arith, get_or-set_same, get_or-set_other}
use Rattle.std.specs.List.{list_any, position_from}
use Rattle.std.proofs.lemmas.Bool.{false≢true, not-false, eqb-true, eq-eqb, ltb-false, lt-ltb, le-ltb, and_parts, and_from, or_parts, cases_eq, cases_lt}
use Rattle.std.proofs.lemmas.List.{set_past}
use Rattle.std.proofs.lemmas.List.Sums.{sum_by-cons, sum_by-set}
use Rattle.std.proofs.lemmas.List.Quantifiers.{position-Some}
use Rattle.std.proofs.lemmas.Iterator.Adapters.{position_from-zero}
use Rattle.rules.specs.declared.change.Arc.{Arc}
use Rattle.std.proofs.lemmas.Option.{none-some}
use Rattle.book.specs.Slots.{here, arcs_in, tally, Once, proper, Fit, same_slot}

pub bit_one : (v : Bool) → v ≡ true → cond {A = ℕ} v 1 0 ≡ 1
bit_one v h = ap (λ (w : Bool). cond {A = ℕ} w 1 0) h

pub bit_none : (v : Bool) → v ≡ false → cond {A = ℕ} v 1 0 ≡ 0
bit_none v h = ap (λ (w : Bool). cond {A = ℕ} w 1 0) h

pub same_arc : (a b c x y z : ℕ) → (eqb a x && (eqb b y && eqb c z)) ≡ true → (a ≡ x) × (b ≡ y) × (c ≡ z)
same_arc a b c x y z h =
    let p = and_parts (eqb a x) (eqb b y && eqb c z) h in
    let q = and_parts (eqb b y) (eqb c z) p.1 in
    (eqb-true a x p.0, eqb-true b y q.0, eqb-true c z q.1)

pub arc_same : (a b c x y z : ℕ) → a ≡ x → b ≡ y → c ≡ z → (eqb a x && (eqb b y && eqb c z)) ≡ true
arc_same a b c x y z p q r = and_from (eqb a x) (eqb b y && eqb c z) (eq-eqb a x p) (and_from (eqb b y) (eqb c z) (eq-eqb b y q) (eq-eqb c z r))

-- an element passes the test exactly if one or more do
pub any_count : {X : Type 0} (p : X → Bool) (xs : List X) → list_any p xs ≡ ltb 0 (count_by p xs)
any_count p [] = refl
any_count p (x ∷ xs) = go (p x) refl (any_count p xs)
  where
    go : (v : Bool) → p x ≡ v → list_any p xs ≡ ltb 0 (count_by p xs) → (v || list_any p xs) ≡ ltb 0 (count_by p (x ∷ xs))
    go true h r = sym (lt-ltb 0 (count_by p (x ∷ xs)) (omega (arith, sum_by-cons (λ y. cond (p y) 1 0) x xs, bit_one (p x) h)))
    go false h r = r ∙ ap (ltb 0) (omega (arith, sum_by-cons (λ y. cond (p y) 1 0) x xs, bit_none (p x) h))

none_counted : {X : Type 0} (p : X → Bool) (xs : List X) → list_any p xs ≡ false → count_by p xs ≡ 0
none_counted p xs h = omega (arith, ltb-false 0 (count_by p xs) (sym (any_count p xs) ∙ h))

-- an arc written into a free slot stands beside the others
pub set_adds : (ss : List (Option Arc)) (i : ℕ) (x : Arc) (a b c : ℕ) → i < length ss → get_or ss i None ≡ None →
    arcs_in (set ss i (Some x)) a b c ≡ cond (here a b c (Some x)) true (arcs_in ss a b c)
set_adds ss i x a b c lt h = any_count (here a b c) (set ss i (Some x)) ∙ go (here a b c (Some x)) refl
  where
    w : count_by (here a b c) (set ss i (Some x)) + cond (here a b c (get_or ss i None)) 1 0 ≡ count_by (here a b c) ss + cond (here a b c (Some x)) 1 0
    w = sum_by-set (λ s. cond (here a b c s) 1 0) ss i (Some x) None lt

    go : (v : Bool) → here a b c (Some x) ≡ v → ltb 0 (count_by (here a b c) (set ss i (Some x))) ≡ cond v true (arcs_in ss a b c)
    go true e = lt-ltb 0 _ (omega (arith, w, bit_one _ e, bit_none _ (ap (here a b c) h)))
    go false e = ap (ltb 0) (omega (arith, w, bit_none _ e, bit_none _ (ap (here a b c) h))) ∙ sym (any_count (here a b c) ss)

-- an arc that is taken out of its slot stands no more, and the others do
pub set_cuts : (ss : List (Option Arc)) (i : ℕ) (x : Arc) (a b c : ℕ) → i < length ss → get_or ss i None ≡ Some x → Once ss →
    arcs_in (set ss i None) a b c ≡ cond (here a b c (Some x)) false (arcs_in ss a b c)
set_cuts ss i x a b c lt h o = any_count (here a b c) (set ss i None) ∙ go (here a b c (Some x)) refl
  where
    w : count_by (here a b c) (set ss i None) + cond (here a b c (get_or ss i None)) 1 0 ≡ count_by (here a b c) ss + 0
    w = sum_by-set (λ s. cond (here a b c s) 1 0) ss i None None lt

    go : (v : Bool) → here a b c (Some x) ≡ v → ltb 0 (count_by (here a b c) (set ss i None)) ≡ cond v false (arcs_in ss a b c)
    go true e = le-ltb 0 _ (omega (arith, w, o a b c, bit_one _ (ap (here a b c) h ∙ e)))
    go false e = ap (ltb 0) (omega (arith, w, bit_none _ (ap (here a b c) h ∙ e))) ∙ sym (any_count (here a b c) ss)

pub tally_adds : (ss : List (Option Arc)) (i : ℕ) (x : Arc) → i < length ss → get_or ss i None ≡ None → tally (set ss i (Some x)) ≡ tally ss + 1
tally_adds ss i x lt h = omega (arith, sum_by-set (λ s. cond (is_some s) 1 0) ss i (Some x) None lt, bit_none _ (ap is_some h))

pub tally_cuts : (ss : List (Option Arc)) (i : ℕ) (x : Arc) → i < length ss → get_or ss i None ≡ Some x → tally (set ss i None) + 1 ≡ tally ss
tally_cuts ss i x lt h = omega (arith, sum_by-set (λ s. cond (is_some s) 1 0) ss i None None lt, bit_one _ (ap is_some h))

pub once_adds : (ss : List (Option Arc)) (i : ℕ) (x : Arc) → i < length ss → get_or ss i None ≡ None → arcs_in ss x.from x.label x.to ≡ false → Once ss →
    Once (set ss i (Some x))
once_adds ss i x lt h d o m e n = go (here m e n (Some x)) refl
  where
    w : count_by (here m e n) (set ss i (Some x)) + cond (here m e n (get_or ss i None)) 1 0 ≡ count_by (here m e n) ss + cond (here m e n (Some x)) 1 0
    w = sum_by-set (λ s. cond (here m e n s) 1 0) ss i (Some x) None lt

    none : (m ≡ x.from) × (e ≡ x.label) × (n ≡ x.to) → count_by (here m e n) ss ≡ 0
    none q = none_counted (here m e n) ss ((λ j. arcs_in ss (q.0 j) (q.1 j) (q.2 j)) ∙ d)

    go : (v : Bool) → here m e n (Some x) ≡ v → count_by (here m e n) (set ss i (Some x)) ≤ 1
    go true y = omega (arith, w, bit_one _ y, none (same_arc m e n x.from x.label x.to y))
    go false y = omega (arith, w, bit_none _ y, o m e n)

pub once_cuts : (ss : List (Option Arc)) (i : ℕ) → Once ss → Once (set ss i None)
once_cuts ss i o m e n = go (cases_lt i (length ss))
  where
    go : (i < length ss) ⊎ (length ss ≤ i) → count_by (here m e n) (set ss i None) ≤ 1
    go (inl lt) = omega (arith, sum_by-set (λ s. cond (here m e n s) 1 0) ss i None None lt, o m e n)
    go (inr past) = omega (arith, ap (count_by (here m e n)) (set_past ss i None past), o m e n)

pub fit_set : (live : ℕ → Bool) (E : ℕ) (ss : List (Option Arc)) (i : ℕ) (s : Option Arc) → Fit live E ss → proper live E s ≡ true → Fit live E (set ss i s)
fit_set live E ss i s f p k = go (cases_eq k i) (cases_lt i (length ss))
  where
    go : (k ≡ i) ⊎ (k ≡ i → ⊥) → (i < length ss) ⊎ (length ss ≤ i) → proper live E (get_or (set ss i s) k None) ≡ true
    go (inl e) (inl lt) = ap (λ (j : ℕ). proper live E (get_or (set ss i s) j None)) e ∙ ap (proper live E) (get_or-set_same ss i s None lt) ∙ p
    go (inl e) (inr past) = ap (λ (xs : List (Option Arc)). proper live E (get_or xs k None)) (set_past ss i s past) ∙ f k
    go (inr d) w = ap (proper live E) (get_or-set_other ss i k s None d) ∙ f k

-- where a slot's content is found, and what is so if it is not
same_is : (x s : Option Arc) → same_slot x s ≡ true → s ≡ x
same_is None None h = refl
same_is None (Some a) h = absurd (false≢true h)
same_is (Some x) None h = absurd (false≢true h)
same_is (Some x) (Some a) h =
    let q = same_arc x.from x.label x.to a.from a.label a.to h in
    λ i. Some (record { from = sym q.0 i; label = sym q.1 i; to = sym q.2 i })

pub place_at : (x : Option Arc) (ss : List (Option Arc)) (i : ℕ) → position (same_slot x) ss ≡ Some i → (i < length ss) × (get_or ss i None ≡ x)
place_at x ss i h = let a = position-Some (same_slot x) ss i None h in (a.0, same_is x (get_or ss i None) a.1)

none_from : {X : Type 0} (p : X → Bool) (i : ℕ) (xs : List X) → position_from p i xs ≡ None → list_any p xs ≡ false
none_from p i [] h = refl
none_from p i (x ∷ xs) h = go (p x) h (none_from p (i + 1) xs)
  where
    go : (v : Bool) → cond v (Some i) (position_from p (i + 1) xs) ≡ None → (position_from p (i + 1) xs ≡ None → list_any p xs ≡ false) →
        (v || list_any p xs) ≡ false
    go true e r = absurd (none-some _ (sym e))
    go false e r = r e

pub place_none : {X : Type 0} (p : X → Bool) (xs : List X) → position p xs ≡ None → list_any p xs ≡ false
place_none p xs h = none_from p 0 xs (sym (position_from-zero p xs) ∙ h)

pub all_stand : (ss : List (Option Arc)) → list_any (same_slot None) ss ≡ false → tally ss ≡ length ss
all_stand [] h = refl
all_stand (s ∷ ss) h =
    let p = or_parts (not (is_some s)) (list_any (same_slot None) ss) h in
    omega (arith, sum_by-cons (λ x. cond (is_some x) 1 0) s ss, bit_one _ (not-false (is_some s) p.0), all_stand ss p.1)
