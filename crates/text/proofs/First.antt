-- The first of a text's parts, and the others.
use Rattle.std.proofs.Common.{◌≡◌, ℕ, suc, ◌+◌, ◌<◌, ◌≤◌, Bool, true, false, cond, eqb, ltb, not, List, Option, [], ◌∷◌, length, take, drop, sym, refl, ap, ◌∙◌, subst, arith, length-drop, Some, None, MatchOption, position}
use Rattle.std.specs.List.{position_or_len}
use Rattle.std.proofs.lemmas.Bool.{cond_both, ltb-true, ltb-false}
use Rattle.std.proofs.lemmas.List.{drop-drop, drop-take, drop_all, take_all}
use Rattle.text.specs.Split.{Told, part_length, parts, before, empty}

-- A part with this text at this place.
abbrev pub tell : ℕ → ℕ → List ℕ → Told
tell line at text = record { text = text; place = record { line = line; offset = at } }

-- The parts after the byte with which the rest begins, if there is one.
abbrev pub past : ℕ → ℕ → ℕ → ℕ → List ℕ → List Told
past by step line at [] = []
past by step line at (b ∷ bs) = parts by step (line + step) at bs

-- The first part is the first n bytes, and the others begin past the byte behind it.
abbrev pub Begins : ℕ → ℕ → ℕ → ℕ → List ℕ → ℕ → Type 0
Begins by step line at bs n = parts by step line at bs ≡ tell line at (take n bs) ∷ past by step line (at + suc n) (drop n bs)

one_more : (t : Bool) (by step line at b : ℕ) (bs : List ℕ) → Begins by step line (at + 1) bs (part_length by bs) → cond t (empty line at ∷ parts by step (line + step) (at + 1) bs) (before line at b (parts by step line (at + 1) bs)) ≡ tell line at (take (cond t 0 (suc (part_length by bs))) (b ∷ bs)) ∷ past by step line (at + suc (cond t 0 (suc (part_length by bs)))) (drop (cond t 0 (suc (part_length by bs))) (b ∷ bs))
one_more true by step line at b bs e = refl
one_more false by step line at b bs e =
    let n : at + 1 + suc (part_length by bs) ≡ at + suc (suc (part_length by bs)) = omega arith in
    ap (before line at b) e ∙ ap (λ i. tell line at (b ∷ take (part_length by bs) bs) ∷ past by step line i (drop (part_length by bs) bs)) n

pub first : (by step line at : ℕ) (bs : List ℕ) → Begins by step line at bs (part_length by bs)
first by step line at [] = refl
first by st line at (b ∷ bs) = one_more (eqb b by) by st line at b bs (first by st line (at + 1) bs)

-- How many bytes stand before the first `by`, as the library counts them.
counted : (by : ℕ) (bs : List ℕ) → position_or_len (λ b. eqb b by) bs ≡ part_length by bs
counted by [] = refl
counted by (b ∷ bs) = elim (eqb b by) as (λ t. cond (not t) (1 + position_or_len (λ b. eqb b by) bs) 0 ≡ cond t 0 (suc (part_length by bs)))
    [ true ↦ refl | false ↦ ap (λ n. 1 + n) (counted by bs) ∙ one_and (part_length by bs) ]
  where
    one_and : (n : ℕ) → 1 + n ≡ suc n
    one_and n = omega arith

-- Where the byte stands first is the length of the first part; and if it stands nowhere, all bytes belong to that.
abbrev pub Found : ℕ → List ℕ → Option ℕ → Type 0
Found by bs r = MatchOption r (length bs ≤ part_length by bs) (λ n. (n ≡ part_length by bs) × (n < length bs))

pub found : (by : ℕ) (bs : List ℕ) (r : Option ℕ) → r ≡ position (λ b. eqb b by) bs → Found by bs r
found by bs r e =
    let n = position_or_len (λ b. eqb b by) bs in
    let same = counted by bs in
    subst (Found by bs) (sym e)
    (cond_both (ltb n (length bs)) (Some n) None (Found by bs)
    (λ t. (same, ltb-true n (length bs) t))
    (λ f. let past = ltb-false n (length bs) f in omega arith))

past_some : (by step line at : ℕ) (bs : List ℕ) → 0 < length bs → past by step line at bs ≡ parts by step (line + step) at (drop 1 bs)
past_some by step line at [] h = absurd (omega arith)
past_some by step line at (b ∷ bs) h = refl

-- What `take_at` gives and leaves, where a byte `by` stands behind the part and where none does.
module _ (by step line at : ℕ) (bs : List ℕ) where
  pub next_then : (n : ℕ) → n ≡ part_length by (drop at bs) → n < length (drop at bs) →
      tell line at (drop at (take (at + n) bs)) ∷ parts by step (line + step) (at + n + 1) (drop (at + n + 1) bs) ≡ parts by step line at (drop at bs)
  next_then n is h =
      let rest = drop at bs in
      let behind : 0 < length (drop n rest) = omega (arith, length-drop n rest) in
      let on : drop (at + n + 1) bs ≡ drop 1 (drop n rest) = ap (λ i. drop i bs) (omega arith) ∙ sym (drop-drop (n + 1) at bs) ∙ sym (drop-drop 1 n rest) in
      let place : at + n + 1 ≡ at + suc n = omega arith in
      ap (λ t. tell line at t ∷ parts by step (line + step) (at + n + 1) (drop (at + n + 1) bs)) (drop-take at n bs)
      ∙ ap (λ l. tell line at (take n rest) ∷ parts by step (line + step) (at + n + 1) l) on
      ∙ ap (λ i. tell line at (take n rest) ∷ parts by step (line + step) i (drop 1 (drop n rest))) place
      ∙ ap (λ ps. tell line at (take n rest) ∷ ps) (sym (past_some by step line (at + suc n) (drop n rest) behind))
      ∙ ap (λ i. tell line at (take i rest) ∷ past by step line (at + suc i) (drop i rest)) is
      ∙ sym (first by step line at rest)

  pub next_else : length (drop at bs) ≤ part_length by (drop at bs) → tell line at (drop at bs) ∷ [] ≡ parts by step line at (drop at bs)
  next_else h =
      let rest = drop at bs in
      let n = part_length by rest in
      sym (first by step line at rest
      ∙ ap (λ t. tell line at t ∷ past by step line (at + suc n) (drop n rest)) (take_all n rest h)
      ∙ ap (λ l. tell line at rest ∷ past by step line (at + suc n) l) (drop_all n rest h))
