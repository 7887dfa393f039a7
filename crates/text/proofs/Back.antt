-- The parts of a text, joined by the byte between them, give it back, and none of them has that byte.
use Rattle.std.proofs.Common.{◌≡◌, ℕ, ◌+◌, ◌<◌, eqb, List, [], ◌∷◌, length, refl, ap, ◌∙◌, arith}
use Rattle.std.proofs.lemmas.Bool.{cond_both, eqb-true, eqb-false}
use Rattle.text.specs.Split.{Told, parts, before, empty, joined, Free, Whole}
use Rattle.text.proofs.First.{first}

some : (by step line at : ℕ) (bs : List ℕ) → 0 < length (parts by step line at bs)
some by step line at bs = omega (arith, ap length (first by step line at bs))

joined_more : (by : ℕ) (line at : ℕ) (ps : List Told) → 0 < length ps → joined by (empty line at ∷ ps) ≡ by ∷ joined by ps
joined_more by line at [] h = absurd (omega arith)
joined_more by line at (p ∷ ps) h = refl

joined_before : (by line at b : ℕ) (ps : List Told) → 0 < length ps → joined by (before line at b ps) ≡ b ∷ joined by ps
joined_before by line at b [] h = absurd (omega arith)
joined_before by line at b (p ∷ []) h = refl
joined_before by line at b (p ∷ q ∷ ps) h = refl

back : (by step line at : ℕ) (bs : List ℕ) → joined by (parts by step line at bs) ≡ bs
back by step line at [] = refl
back by step line at (b ∷ bs) =
    cond_both (eqb b by) (empty line at ∷ parts by step (line + step) (at + 1) bs) (before line at b (parts by step line (at + 1) bs))
    (λ ps. joined by ps ≡ b ∷ bs)
    (λ e. let same : by ≡ b = omega (arith, eqb-true b by e) in
    joined_more by line at (parts by step (line + step) (at + 1) bs) (some by step (line + step) (at + 1) bs) ∙ ap (λ l. by ∷ l) (back by step (line + step) (at + 1) bs) ∙ ap (λ x. x ∷ bs) same)
    (λ e. joined_before by line at b (parts by step line (at + 1) bs) (some by step line (at + 1) bs) ∙ ap (λ l. b ∷ l) (back by step line (at + 1) bs))

free_before : (by line at b : ℕ) (ps : List Told) → (b ≡ by → ⊥) → Free by ps → Free by (before line at b ps)
free_before by line at b [] n f = tt
free_before by line at b (p ∷ ps) n f = ((n, f.0), f.1)

free : (by step line at : ℕ) (bs : List ℕ) → Free by (parts by step line at bs)
free by step line at [] = (tt, tt)
free by step line at (b ∷ bs) =
    cond_both (eqb b by) (empty line at ∷ parts by step (line + step) (at + 1) bs) (before line at b (parts by step line (at + 1) bs))
    (λ ps. Free by ps)
    (λ e. (tt, free by step (line + step) (at + 1) bs))
    (λ e. free_before by line at b (parts by step line (at + 1) bs) (eqb-false b by e) (free by step line (at + 1) bs))

pub whole : (by step line at : ℕ) (bs : List ℕ) → Whole by bs (parts by step line at bs)
whole by step line at bs = record { some = some by step line at bs; back = back by step line at bs; free = free by step line at bs }
