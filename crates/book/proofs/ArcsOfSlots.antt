-- The arcs that stand in slots: as a list, and when each is proper.
use Rattle.std.proofs.Common.{◌≡◌, ℕ, zero, suc, ◌+◌, ◌<◌, ◌≤◌, Bool, true, false, cond, ◌||◌, eqb, leb, ◌⊎◌, List, [], ◌∷◌, Some, None, Option, is_some, count_by, length, get_or, sym, refl, ap, ◌∙◌, inl, inr, arith}
use Rattle.std.specs.List.{list_any, filter_map}
use Rattle.std.proofs.lemmas.Bool.{false≢true, ltb-true, lt-ltb, eqb-false, and_parts, and_from, or_cases, or_parts, cases_Bool}
use Rattle.std.proofs.lemmas.List.Sums.{sum_by-cons}
use Rattle.rules.specs.declared.change.Arc.{Arc}
use Rattle.rules.specs.Counts.{Among, NoRepeat, Counts}
use Rattle.book.specs.Slots.{here, touches, arcs_in, joined, tally, Once, proper, Fit}
use Rattle.book.proofs.SlotWrites.{any_count, bit_one, bit_none, same_arc, arc_same}

-- a slot at which a test passes that no free slot passes
pub found : (p : Option Arc → Bool) → p None ≡ false → (ss : List (Option Arc)) → list_any p ss ≡ true →
    (k : ℕ) × (a : Arc) × (k < length ss) × (get_or ss k None ≡ Some a) × (p (Some a) ≡ true)
found p free [] h = absurd (false≢true h)
found p free (None ∷ ss) h =
    let r = found p free ss (sym (ap (λ (v : Bool). v || list_any p ss) free) ∙ h) in (suc r.0, r.1, omega (arith, r.2), r.3, r.4)
found p free (Some a ∷ ss) h = go (or_cases (p (Some a)) (list_any p ss) h) (found p free ss)
  where
    go : (p (Some a) ≡ true) ⊎ (list_any p ss ≡ true) →
        (list_any p ss ≡ true → (k : ℕ) × (x : Arc) × (k < length ss) × (get_or ss k None ≡ Some x) × (p (Some x) ≡ true)) →
        (k : ℕ) × (x : Arc) × (k < suc (length ss)) × (get_or (Some a ∷ ss) k None ≡ Some x) × (p (Some x) ≡ true)
    go (inl t) r = (zero, a, omega arith, refl, t)
    go (inr t) r = let y = r t in (suc y.0, y.1, omega (arith, y.2), y.3, y.4)

-- of an arc that stands: its ends are live, and its label fits
pub record Proper (live : ℕ → Bool) (E : ℕ) (a : Arc) : Type 0 where
  pub from_live : live a.from ≡ true
  pub to_live : live a.to ≡ true
  pub label_low : leb a.label E ≡ true

pub proper_parts : (live : ℕ → Bool) (E : ℕ) (a : Arc) → proper live E (Some a) ≡ true → Proper live E a
proper_parts live E a h =
    let p = and_parts (live a.from) _ h in
    let q = and_parts (live a.to) (leb a.label E) p.1 in
    record { from_live = p.0; to_live = q.0; label_low = q.1 }

pub proper_from : (live : ℕ → Bool) (E : ℕ) (s : Option Arc) → ((a : Arc) → s ≡ Some a → Proper live E a) → proper live E s ≡ true
proper_from live E None f = refl
proper_from live E (Some a) f =
    let p = f a refl in
    and_from (live a.from) _ p.from_live (and_from (live a.to) (leb a.label E) p.to_live p.label_low)

-- more stages are live
pub fits_more : (live more : ℕ → Bool) (E : ℕ) (ss : List (Option Arc)) → ((k : ℕ) → live k ≡ true → more k ≡ true) → Fit live E ss → Fit more E ss
fits_more live more E ss g f k =
    proper_from more E (get_or ss k None) (λ a e.
    let p = proper_parts live E a (sym (ap (proper live E) e) ∙ f k) in
    record { from_live = g a.from p.from_live; to_live = g a.to p.to_live; label_low = p.label_low })

-- a stage without arcs is live no more
pub fits_fewer : (live fewer : ℕ → Bool) (n E : ℕ) (ss : List (Option Arc)) → joined ss n ≡ false → ((k : ℕ) → (k ≡ n → ⊥) → live k ≡ true → fewer k ≡ true) →
    Fit live E ss → Fit fewer E ss
fits_fewer live fewer n E ss j g f k =
    proper_from fewer E (get_or ss k None) (λ a e.
    let p = proper_parts live E a (sym (ap (proper live E) e) ∙ f k) in
    let t : (eqb n a.from || eqb n a.to) ≡ false = sym (ap (touches n) e) ∙ untouched ss n k j in
    let u = or_parts (eqb n a.from) (eqb n a.to) t in
    record {
      from_live = g a.from (λ q. eqb-false n a.from u.0 (sym q)) p.from_live;
      to_live = g a.to (λ q. eqb-false n a.to u.1 (sym q)) p.to_live;
      label_low = p.label_low;
    })
  where
    untouched : (ss : List (Option Arc)) (n k : ℕ) → joined ss n ≡ false → touches n (get_or ss k None) ≡ false
    untouched [] n k h = refl
    untouched (s ∷ ss) n zero h = (or_parts (touches n s) (joined ss n) h).0
    untouched (s ∷ ss) n (suc k) h = untouched ss n k (or_parts (touches n s) (joined ss n) h).1

pub itself : (x : Arc) → here x.from x.label x.to (Some x) ≡ true
itself x = arc_same x.from x.label x.to x.from x.label x.to refl refl refl

-- how often an arc stands in a list
abbrev pub times : ℕ → ℕ → ℕ → List Arc → ℕ
times m e n xs = count_by (λ a. here m e n (Some a)) xs

pub times_cons : (m e n : ℕ) (x : Arc) (xs : List Arc) → times m e n (x ∷ xs) ≡ cond {A = ℕ} (here m e n (Some x)) 1 0 + times m e n xs
times_cons m e n x xs = sum_by-cons (λ a. cond (here m e n (Some a)) 1 0) x xs

-- what stands in a list stands there at least once, and the other way round
pub among_times : (x : Arc) (xs : List Arc) → Among x xs → 1 ≤ times x.from x.label x.to xs
among_times x [] h = absurd h
among_times x (y ∷ ys) (inl e) =
    omega (arith, times_cons x.from x.label x.to y ys, bit_one _ (ap (λ (z : Arc). here x.from x.label x.to (Some z)) (sym e) ∙ itself x))
among_times x (y ∷ ys) (inr h) = omega (arith, times_cons x.from x.label x.to y ys, among_times x ys h)

pub times_among : (x : Arc) (xs : List Arc) → 1 ≤ times x.from x.label x.to xs → Among x xs
times_among x [] h = absurd (omega arith)
times_among x (y ∷ ys) h = go (cases_Bool (here x.from x.label x.to (Some y))) (times_among x ys)
  where
    go : (here x.from x.label x.to (Some y) ≡ true) ⊎ (here x.from x.label x.to (Some y) ≡ false) → (1 ≤ times x.from x.label x.to ys → Among x ys) → Among x (y ∷ ys)
    go (inl e) r = let q = same_arc x.from x.label x.to y.from y.label y.to e in inl (λ i. record { from = q.0 i; label = q.1 i; to = q.2 i })
    go (inr e) r = inr (r (omega (arith, h, times_cons x.from x.label x.to y ys, bit_none _ e)))

no_repeat : (xs : List Arc) → ((m e n : ℕ) → times m e n xs ≤ 1) → NoRepeat xs
no_repeat [] h = tt
no_repeat (x ∷ xs) h = (
  (λ k. omega (arith, h x.from x.label x.to, times_cons x.from x.label x.to x xs, bit_one _ (itself x), among_times x xs k)),
  no_repeat xs (λ m e n. omega (arith, h m e n, times_cons m e n x xs)),
)

-- the arcs in the slots, and how often one of them stands there
abbrev pub slot_arcs : List (Option Arc) → List Arc
slot_arcs ss = filter_map (λ s. s) ss

pub times_slots : (m e n : ℕ) (ss : List (Option Arc)) → times m e n (slot_arcs ss) ≡ count_by (here m e n) ss
times_slots m e n [] = refl
times_slots m e n (None ∷ ss) = omega (arith, sum_by-cons (λ s. cond (here m e n s) 1 0) None ss, times_slots m e n ss)
times_slots m e n (Some a ∷ ss) = omega (arith, sum_by-cons (λ s. cond (here m e n s) 1 0) (Some a) ss, times_cons m e n a (slot_arcs ss), times_slots m e n ss)

count_slots : (ss : List (Option Arc)) → length (slot_arcs ss) ≡ tally ss
count_slots [] = refl
count_slots (None ∷ ss) = omega (arith, sum_by-cons (λ s. cond (is_some s) 1 0) None ss, count_slots ss)
count_slots (Some a ∷ ss) = omega (arith, sum_by-cons (λ s. cond (is_some s) 1 0) (Some a) ss, count_slots ss)

pub slot_counts : (ss : List (Option Arc)) → Once ss → Counts Arc (λ a. arcs_in ss a.from a.label a.to ≡ true) (tally ss)
slot_counts ss o = record {
  list = slot_arcs ss;
  no_repeat = no_repeat (slot_arcs ss) (λ m e n. omega (arith, o m e n, times_slots m e n ss));
  exactly = λ a. (there a, back a);
  count = count_slots ss;
}
  where
    there : (a : Arc) → Among a (slot_arcs ss) → arcs_in ss a.from a.label a.to ≡ true
    there a h = any_count (here a.from a.label a.to) ss ∙ lt-ltb 0 _ (omega (arith, among_times a (slot_arcs ss) h, times_slots a.from a.label a.to ss))

    back : (a : Arc) → arcs_in ss a.from a.label a.to ≡ true → Among a (slot_arcs ss)
    back a h = times_among a (slot_arcs ss)
        (omega (arith, ltb-true 0 _ (sym (any_count (here a.from a.label a.to) ss) ∙ h), times_slots a.from a.label a.to ss))
