-- The arcs of a book's slots, sorted, are its arcs in order.
use Rattle.std.proofs.Common.{◌≡◌, ℕ, zero, suc, ◌+◌, ◌<◌, ◌≤◌, Bool, true, false, cond, eqb, ltb, ◌⊎◌, List, [], ◌∷◌, Some, Option, Ordering, Less, Equal, Greater, count_by, get_or, is_lt, nat_cmp, sym, refl, ap, ◌∙◌, subst, inl, inr, arith}
use Rattle.std.specs.List.{filter_map}
use Rattle.std.specs.List.Sorted.{IsPermutation, IsSorted}
use Rattle.std.specs.Ordering.{ordering_then}
use Rattle.std.proofs.lemmas.Bool.{true≢false, eqb-true, eqb-false, ltb-true, ltb-false, lt-ltb, cases_lt}
use Rattle.std.proofs.lemmas.List.Sorted.{sum_by-IsPermutation}
use Rattle.rules.specs.declared.change.Arc.{Arc}
use Rattle.rules.specs.Rules.{Rules}
use Rattle.rules.specs.Counts.{Among}
use Rattle.book.specs.Slots.{here, arcs_in, Once}
use Rattle.book.proofs.SlotWrites.{any_count, bit_one}
use Rattle.book.proofs.ArcsOfSlots.{times, times_cons, times_slots, itself, among_times, times_among}
use Rattle.book_text.specs.Canonical.{ArcBefore, Ascending, ArcsInOrder}

-- the order of arcs
abbrev arc_cmp : Arc → Arc → Ordering
arc_cmp x y = ordering_then (nat_cmp x.from y.from) (ordering_then (nat_cmp x.label y.label) (nat_cmp x.to y.to))

level : (a b : ℕ) (o : Ordering) → is_lt (ordering_then (nat_cmp b a) o) ≡ false → (a < b) ⊎ ((a ≡ b) × (is_lt o ≡ false))
level a b o h = go (ltb b a) (eqb b a) refl refl h
  where
    go : (u v : Bool) → ltb b a ≡ u → eqb b a ≡ v → is_lt (ordering_then (cond u Less (cond v Equal Greater)) o) ≡ false →
        (a < b) ⊎ ((a ≡ b) × (is_lt o ≡ false))
    go true v p q r = absurd (true≢false r)
    go false true p q r = inr (sym (eqb-true b a q), r)
    go false false p q r = let d = eqb-false b a q in let l = ltb-false b a p in inl (omega arith)

last : (a b : ℕ) → is_lt (nat_cmp b a) ≡ false → a ≤ b
last a b h = go (ltb b a) refl h
  where
    go : (u : Bool) → ltb b a ≡ u → is_lt (cond u Less (cond (eqb b a) Equal Greater)) ≡ false → a ≤ b
    go true p r = absurd (true≢false r)
    go false p r = ltb-false b a p

in_order : (x y : Arc) → is_lt (arc_cmp y x) ≡ false → ArcBefore x y ⊎ (x ≡ y)
in_order x y h = by_from (level x.from y.from _ h)
  where
    by_to : x.from ≡ y.from → x.label ≡ y.label → x.to ≤ y.to → (x.to < y.to) ⊎ (y.to ≤ x.to) → ArcBefore x y ⊎ (x ≡ y)
    by_to e f le (inl l) = inl (inr (e, inr (f, l)))
    by_to e f le (inr l) = let g : x.to ≡ y.to = omega arith in inr (λ i. record { from = e i; label = f i; to = g i })

    by_label : x.from ≡ y.from → (x.label < y.label) ⊎ ((x.label ≡ y.label) × (is_lt (nat_cmp y.to x.to) ≡ false)) → ArcBefore x y ⊎ (x ≡ y)
    by_label e (inl l) = inl (inr (e, inl l))
    by_label e (inr r) = by_to e r.0 (last x.to y.to r.1) (cases_lt x.to y.to)

    by_from : (x.from < y.from) ⊎ ((x.from ≡ y.from) × (is_lt (ordering_then (nat_cmp y.label x.label) (nat_cmp y.to x.to)) ≡ false)) → ArcBefore x y ⊎ (x ≡ y)
    by_from (inl l) = inl (inl l)
    by_from (inr r) = by_label r.0 (level x.label y.label _ r.1)

before_trans : (x y z : Arc) → ArcBefore x y → ArcBefore y z → ArcBefore x z
before_trans x y z (inl l) (inl k) = inl (omega arith)
before_trans x y z (inl l) (inr (e, k)) = inl (omega arith)
before_trans x y z (inr (e, l)) (inl k) = inl (omega arith)
before_trans x y z (inr (e, inl l)) (inr (f, inl k)) = inr (omega arith, inl (omega arith))
before_trans x y z (inr (e, inl l)) (inr (f, inr (g, k))) = inr (omega arith, inl (omega arith))
before_trans x y z (inr (e, inr (h, l))) (inr (f, inl k)) = inr (omega arith, inl (omega arith))
before_trans x y z (inr (e, inr (h, l))) (inr (f, inr (g, k))) = inr (omega arith, inr (omega arith, omega arith))

ascends : (xs : List Arc) → IsSorted arc_cmp xs → ((m e n : ℕ) → times m e n xs ≤ 1) → Ascending xs
ascends [] up single = tt
ascends (x ∷ []) up single = ((λ y h. absurd h), tt)
ascends (x ∷ y ∷ ys) up single = rest (ascends (y ∷ ys) later (λ m e n. omega (arith, single m e n, times_cons m e n x (y ∷ ys))))
  where
    later : IsSorted arc_cmp (y ∷ ys)
    later k d le lt = let e : suc k + 1 ≡ suc (k + 1) = omega arith in
        subst (λ (j : ℕ). is_lt (arc_cmp (get_or (x ∷ y ∷ ys) j d) (get_or (y ∷ ys) k d)) ≡ false) e (up (suc k) d (omega arith) (omega arith))

    first : ArcBefore x y ⊎ (x ≡ y) → ArcBefore x y
    first (inl b) = b
    first (inr e) = absurd (omega (arith, single x.from x.label x.to, times_cons x.from x.label x.to x (y ∷ ys), bit_one _ (itself x), among_times x (y ∷ ys) (inl e)))

    before : ArcBefore x y
    before = first (in_order x y (up zero x (omega arith) (omega arith)))

    rest : Ascending (y ∷ ys) → Ascending (x ∷ y ∷ ys)
    rest a = (all, a)
      where
        all : (z : Arc) → Among z (y ∷ ys) → ArcBefore x z
        all z (inl e) = subst (ArcBefore x) (sym e) before
        all z (inr h) = before_trans x y z before (a.0 z h)

pub sorted_arcs : (b : Rules) (ss : List (Option Arc)) (xs ys : List Arc) → arcs_in ss ≡ b.arc → Once ss → xs ≡ filter_map (λ s. s) ss → IsPermutation xs ys → IsSorted arc_cmp ys →
    ArcsInOrder b ys
sorted_arcs b ss xs ys arcs o e mixed up = record { ascending = ascends ys up (λ m e n. omega (arith, o m e n, counted m e n)); exactly = λ x. (there x, back x) }
  where
    counted : (m e n : ℕ) → times m e n ys ≡ count_by (here m e n) ss
    counted m k n =
        sum_by-IsPermutation (λ a. cond (here m k n (Some a)) 1 0) xs ys mixed ∙ ap (times m k n) e ∙ times_slots m k n ss

    stands : (x : Arc) → b.arc x.from x.label x.to ≡ ltb 0 (times x.from x.label x.to ys)
    stands x =
        sym (ap (λ (f : ℕ → ℕ → ℕ → Bool). f x.from x.label x.to) arcs) ∙ any_count (here x.from x.label x.to) ss ∙ ap (ltb 0) (sym (counted x.from x.label x.to))

    there : (x : Arc) → Among x ys → b.arc x.from x.label x.to ≡ true
    there x h = stands x ∙ lt-ltb 0 _ (among_times x ys h)

    back : (x : Arc) → b.arc x.from x.label x.to ≡ true → Among x ys
    back x h = times_among x ys (ltb-true 0 _ (sym (stands x) ∙ h))
