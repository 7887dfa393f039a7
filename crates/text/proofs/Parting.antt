-- The parts of texts that are joined by the byte which parts them.
use Rattle.std.proofs.Common.{◌≡◌, ℕ, suc, ◌+◌, Bool, true, cond, not, eqb, List, [], ◌∷◌, ◌++◌, length, refl, ap, ◌∙◌, arith}
use Rattle.std.proofs.lemmas.Bool.{not-true, eq-eqb, and_parts, and_from}
use Rattle.text.specs.Split.{Told, parts, before, empty}
use Rattle.text.proofs.First.{tell}
use Rattle.text.proofs.Numerals.{lacks}

pub lacks_append : (by : ℕ) (xs ys : List ℕ) → lacks by xs ≡ true → lacks by ys ≡ true → lacks by (xs ++ ys) ≡ true
lacks_append by [] ys p q = q
lacks_append by (x ∷ xs) ys p q =
    let r = and_parts (not (eqb x by)) (lacks by xs) p in
    and_from (not (eqb x by)) (lacks by (xs ++ ys)) r.0 (lacks_append by xs ys r.1 q)

-- a text without the byte is one part
pub part_end : (by step line at : ℕ) (xs : List ℕ) → lacks by xs ≡ true → parts by step line at xs ≡ tell line at xs ∷ []
part_end by step line at [] h = refl
part_end by st line at (x ∷ xs) h =
    let p = and_parts (not (eqb x by)) (lacks by xs) h in
    ap (λ (t : Bool). cond t (empty line at ∷ parts by st (line + st) (at + 1) xs) (before line at x (parts by st line (at + 1) xs))) (not-true (eqb x by) p.0)
    ∙ ap (before line at x) (part_end by st line (at + 1) xs p.1)

-- a text up to the byte is the first part
pub part_more : (by step line at : ℕ) (xs ys : List ℕ) → lacks by xs ≡ true →
    parts by step line at (xs ++ (by ∷ ys)) ≡ tell line at xs ∷ parts by step (line + step) (at + (length xs + 1)) ys
part_more by st line at [] ys h =
    let e : at + 1 ≡ at + (0 + 1) = omega arith in
    ap (λ (t : Bool). cond t (empty line at ∷ parts by st (line + st) (at + 1) ys) (before line at by (parts by st line (at + 1) ys))) (eq-eqb by by refl)
    ∙ ap (λ (k : ℕ). tell line at [] ∷ parts by st (line + st) k ys) e
part_more by st line at (x ∷ xs) ys h =
    let p = and_parts (not (eqb x by)) (lacks by xs) h in
    let e : (at + 1) + (length xs + 1) ≡ at + (suc (length xs) + 1) = omega arith in
    ap (λ (t : Bool). cond t (empty line at ∷ parts by st (line + st) (at + 1) (xs ++ (by ∷ ys))) (before line at x (parts by st line (at + 1) (xs ++ (by ∷ ys)))))
    (not-true (eqb x by) p.0)
    ∙ ap (before line at x) (part_more by st line (at + 1) xs ys p.1)
    ∙ ap (λ (k : ℕ). tell line at (x ∷ xs) ∷ parts by st (line + st) k ys) e

-- the words of a line of two, three and four words
module _ (line at : ℕ) (k a : List ℕ) (hk : lacks 32 k ≡ true) (ha : lacks 32 a ≡ true) where
  pub two_words : parts 32 0 line at (k ++ (32 ∷ a)) ≡ tell line at k ∷ tell (line + 0) (at + (length k + 1)) a ∷ []
  two_words = part_more 32 0 line at k a hk ∙ ap (λ (ws : List Told). tell line at k ∷ ws) (part_end 32 0 (line + 0) (at + (length k + 1)) a ha)

pub three_words : (line at : ℕ) (k a b : List ℕ) → lacks 32 k ≡ true → lacks 32 a ≡ true → lacks 32 b ≡ true →
    parts 32 0 line at (k ++ (32 ∷ (a ++ (32 ∷ b)))) ≡ tell line at k ∷ tell (line + 0) (at + (length k + 1)) a
    ∷ tell ((line + 0) + 0) ((at + (length k + 1)) + (length a + 1)) b ∷ []
three_words line at k a b hk ha hb =
    part_more 32 0 line at k (a ++ (32 ∷ b)) hk
    ∙ ap (λ (ws : List Told). tell line at k ∷ ws) (two_words (line + 0) (at + (length k + 1)) a b ha hb)

pub four_words : (line at : ℕ) (k a b d : List ℕ) → lacks 32 k ≡ true → lacks 32 a ≡ true → lacks 32 b ≡ true → lacks 32 d ≡ true →
    parts 32 0 line at (k ++ (32 ∷ (a ++ (32 ∷ (b ++ (32 ∷ d)))))) ≡ tell line at k ∷ tell (line + 0) (at + (length k + 1)) a
    ∷ tell ((line + 0) + 0) ((at + (length k + 1)) + (length a + 1)) b
    ∷ tell (((line + 0) + 0) + 0) (((at + (length k + 1)) + (length a + 1)) + (length b + 1)) d ∷ []
four_words line at k a b d hk ha hb hd =
    part_more 32 0 line at k (a ++ (32 ∷ (b ++ (32 ∷ d)))) hk
    ∙ ap (λ (ws : List Told). tell line at k ∷ ws) (three_words (line + 0) (at + (length k + 1)) a b d ha hb hd)
