-- A text is cut at its first line `end`.
use Rattle.std.proofs.Common.{◌≡◌, ℕ, zero, suc, ◌+◌, ◌-◌, ◌<◌, ◌≤◌, Bool, true, false, cond, eqb, List, [], ◌∷◌, ◌++◌, map, length, take, drop, Some, None, codes, Option, IfSome, option_map, sym, refl, ap, ◌∙◌, subst, append_assoc, append-nil, arith, length-drop}
use Rattle.std.specs.List.{find}
use Rattle.std.specs.Str.{bytes_eq}
use Rattle.std.proofs.lemmas.Bool.{eqb-true}
use Rattle.std.proofs.lemmas.List.{length-take-le, take_all, drop_all}
use Rattle.text.specs.declared.parts.Part.{Part}
use Rattle.text.specs.Split.{Told, told, part_length, parts, before, lines}
use Rattle.text.proofs.First.{tell, past, first}
use Rattle.season_text.specs.Seasons.{line_texts, sheets_from, others, sheets_of, end_at, sheets_in}

abbrev texts : List Told → List (List ℕ)
texts ps = map (λ p. p.text) ps

-- the byte b in front of the first
abbrev pushed : ℕ → List (List ℕ) → List (List ℕ)
pushed b [] = []
pushed b (l ∷ ls) = (b ∷ l) ∷ ls

texts_before : (line at b : ℕ) (ps : List Told) → texts (before line at b ps) ≡ pushed b (texts ps)
texts_before line at b [] = refl
texts_before line at b (p ∷ ps) = refl

-- the texts of lines do not depend on where they stand
shift : (line at other there : ℕ) (bs : List ℕ) → texts (parts 10 1 line at bs) ≡ texts (parts 10 1 other there bs)
shift line at other there [] = refl
shift line at other there (b ∷ bs) = go (eqb b 10) (shift (line + 1) (at + 1) (other + 1) (there + 1) bs) (shift line (at + 1) other (there + 1) bs)
  where
    go : (v : Bool) → texts (parts 10 1 (line + 1) (at + 1) bs) ≡ texts (parts 10 1 (other + 1) (there + 1) bs) →
        texts (parts 10 1 line (at + 1) bs) ≡ texts (parts 10 1 other (there + 1) bs) →
        texts (cond v (tell line at [] ∷ parts 10 1 (line + 1) (at + 1) bs) (before line at b (parts 10 1 line (at + 1) bs)))
        ≡ texts (cond v (tell other there [] ∷ parts 10 1 (other + 1) (there + 1) bs) (before other there b (parts 10 1 other (there + 1) bs)))
    go true p q = ap (λ (ls : List (List ℕ)). [] ∷ ls) p
    go false p q =
        texts_before line at b (parts 10 1 line (at + 1) bs) ∙ ap (pushed b) q ∙ sym (texts_before other there b (parts 10 1 other (there + 1) bs))

-- what stands behind a part: nothing, or the byte that ends it and the rest
pub data Behind (by : ℕ) (bs : List ℕ) (n : ℕ) : Type 0 where
  nothing : drop n bs ≡ [] → Behind by bs n
  more : (rest : List ℕ) → drop n bs ≡ by ∷ rest → Behind by bs n

pub behind : (by : ℕ) (bs : List ℕ) → Behind by bs (part_length by bs)
behind by [] = nothing refl
behind by (b ∷ bs) = go (eqb b by) refl (behind by bs)
  where
    go : (v : Bool) → eqb b by ≡ v → Behind by bs (part_length by bs) → Behind by (b ∷ bs) (cond v 0 (suc (part_length by bs)))
    go true e r = more bs (ap (λ (x : ℕ). x ∷ bs) (eqb-true b by e))
    go false e (nothing h) = nothing h
    go false e (more rest h) = more rest h

none_some : (b : ℕ) (rest : List ℕ) → ◌≡◌ {A = List ℕ} [] (b ∷ rest) → ⊥
none_some b rest h = let z : ◌≡◌ {A = ℕ} 0 (suc (length rest)) = ap length h in omega arith

take_on : (n m j b : ℕ) (bs rest : List ℕ) → m ≡ suc (n + j) → drop n bs ≡ b ∷ rest → take m bs ≡ take n bs ++ (b ∷ take j rest)
take_on zero m j b bs rest q e = let k : m ≡ suc j = omega arith in ap (λ (i : ℕ). take i bs) k ∙ ap (take (suc j)) e
take_on (suc n) zero j b bs rest q e = absurd (omega arith)
take_on (suc n) (suc m) j b [] rest q e = absurd (none_some b rest e)
take_on (suc n) (suc m) j b (x ∷ bs) rest q e = ap (λ (xs : List ℕ). x ∷ xs) (take_on n m j b bs rest (omega arith) e)

drop_on : (n m j b : ℕ) (bs rest : List ℕ) → m ≡ suc (n + j) → drop n bs ≡ b ∷ rest → drop m bs ≡ drop j rest
drop_on zero m j b bs rest q e = let k : m ≡ suc j = omega arith in ap (λ (i : ℕ). drop i bs) k ∙ ap (drop (suc j)) e
drop_on (suc n) zero j b bs rest q e = absurd (omega arith)
drop_on (suc n) (suc m) j b [] rest q e = absurd (none_some b rest e)
drop_on (suc n) (suc m) j b (x ∷ bs) rest q e = drop_on n m j b bs rest (omega arith) e

-- a text that begins at `at`, with these sheets, is cut at k
pub record Cut (read bs : List ℕ) (at : ℕ) (sheets : List (List ℕ)) (k : ℕ) : Type 0 where
  pub from : at ≤ k
  pub within : k - at ≤ length bs
  pub are : sheets ≡ (read ++ take (k - at) bs) ∷ sheets_from [] (others (line_texts (drop (k - at) bs)))

abbrev CutAt : List ℕ → List ℕ → ℕ → List (List ℕ) → Option ℕ → Type 0
CutAt read bs at sheets None = sheets ≡ []
CutAt read bs at sheets (Some k) = Cut read bs at sheets k

-- a text with a line in front of it
widen : (read bs rest : List ℕ) (at n : ℕ) (sheets : List (List ℕ)) (o : Option ℕ) → drop n bs ≡ 10 ∷ rest →
    CutAt (read ++ (take n bs ++ (10 ∷ []))) rest (at + suc n) sheets o → CutAt read bs at sheets o
widen read bs rest at n sheets None e h = h
widen read bs rest at n sheets (Some k) e h =
    let le = h.from in
    let m : k - at ≡ suc (n + (k - (at + suc n))) = omega arith in
    let long = ap length e in
    let joined : (read ++ (take n bs ++ (10 ∷ []))) ++ take (k - (at + suc n)) rest ≡ read ++ take (k - at) bs =
    append_assoc read (take n bs ++ (10 ∷ [])) (take (k - (at + suc n)) rest)
    ∙ ap (λ (x : List ℕ). read ++ x) (append_assoc (take n bs) (10 ∷ []) (take (k - (at + suc n)) rest) ∙ sym (take_on n (k - at) (k - (at + suc n)) 10 bs rest m e)) in
    let left : drop (k - at) bs ≡ drop (k - (at + suc n)) rest = drop_on n (k - at) (k - (at + suc n)) 10 bs rest m e in
    record {
      from = omega arith;
      within = omega (arith, h.within, long, length-drop n bs);
      are = h.are ∙ (λ i. joined i ∷ sheets_from [] (others (line_texts (sym left i))));
    }

-- the parts of a text, of which the first has n bytes, and the sheets that they make, if that one is no line `end` or is
abbrev sheets_by : Bool → List ℕ → List ℕ → List Told → List (List ℕ)
sheets_by v read l ps = cond v (read ∷ sheets_from [] (texts ps)) (sheets_from (read ++ (l ++ (10 ∷ []))) (texts ps))

first_end : (read bs : List ℕ) (line at : ℕ) (l : List ℕ) (ps : List Told) → parts 10 1 line at bs ≡ tell line at l ∷ ps →
    Cut read bs at (read ∷ sheets_from [] (texts ps)) at
first_end read bs line at l ps e =
    let z : at - at ≡ 0 = omega arith in
    let same : others (line_texts bs) ≡ texts ps = ap others (shift 1 0 line at bs ∙ ap texts e) in
    record {
      from = omega arith;
      within = omega arith;
      are = (λ i. sym (append-nil read) i ∷ sheets_from [] (sym same i))
          ∙ ap (λ (k : ℕ). (read ++ take k bs) ∷ sheets_from [] (others (line_texts (drop k bs)))) (sym z);
    }

first_other : (fuel : ℕ) (read bs : List ℕ) (line at n : ℕ) → length bs < suc fuel → Behind 10 bs n →
    ((rest : List ℕ) → length rest < fuel → CutAt (read ++ (take n bs ++ (10 ∷ []))) rest (at + suc n)
    (sheets_from (read ++ (take n bs ++ (10 ∷ []))) (texts (parts 10 1 (line + 1) (at + suc n) rest))) (end_at (parts 10 1 (line + 1) (at + suc n) rest))) →
    CutAt read bs at (sheets_from (read ++ (take n bs ++ (10 ∷ []))) (texts (past 10 1 line (at + suc n) (drop n bs))))
    (end_at (past 10 1 line (at + suc n) (drop n bs)))
first_other fuel read bs line at n lt (nothing h) again =
    subst (λ (d : List ℕ). CutAt read bs at (sheets_from (read ++ (take n bs ++ (10 ∷ []))) (texts (past 10 1 line (at + suc n) d))) (end_at (past 10 1 line (at + suc n) d))) (sym h) refl
first_other fuel read bs line at n lt (more rest h) again =
    subst (λ (d : List ℕ). CutAt read bs at (sheets_from (read ++ (take n bs ++ (10 ∷ []))) (texts (past 10 1 line (at + suc n) d))) (end_at (past 10 1 line (at + suc n) d))) (sym h)
    (widen read bs rest at n _ _ h (again rest (omega (arith, ap length h, length-drop n bs, lt))))

pub cut : (fuel : ℕ) (read bs : List ℕ) (line at : ℕ) → length bs < fuel →
    CutAt read bs at (sheets_from read (texts (parts 10 1 line at bs))) (end_at (parts 10 1 line at bs))
cut zero read bs line at lt = absurd (omega arith)
cut (suc fuel) read bs line at lt =
    subst (λ (ps : List Told). CutAt read bs at (sheets_from read (texts ps)) (end_at ps)) (sym (first 10 1 line at bs))
    (go (bytes_eq (take (part_length 10 bs) bs) (codes "end"))
    (first_end read bs line at (take (part_length 10 bs) bs) (past 10 1 line (at + suc (part_length 10 bs)) (drop (part_length 10 bs) bs)) (first 10 1 line at bs))
    (first_other fuel read bs line at (part_length 10 bs) lt (behind 10 bs)
    (λ rest l. cut fuel (read ++ (take (part_length 10 bs) bs ++ (10 ∷ []))) rest (line + 1) (at + suc (part_length 10 bs)) l)))
  where
    go : (v : Bool) → Cut read bs at (read ∷ sheets_from [] (texts (past 10 1 line (at + suc (part_length 10 bs)) (drop (part_length 10 bs) bs)))) at →
        CutAt read bs at (sheets_from (read ++ (take (part_length 10 bs) bs ++ (10 ∷ []))) (texts (past 10 1 line (at + suc (part_length 10 bs)) (drop (part_length 10 bs) bs))))
        (end_at (past 10 1 line (at + suc (part_length 10 bs)) (drop (part_length 10 bs) bs))) →
        CutAt read bs at (sheets_by v read (take (part_length 10 bs) bs) (past 10 1 line (at + suc (part_length 10 bs)) (drop (part_length 10 bs) bs)))
        (cond v (Some at) (end_at (past 10 1 line (at + suc (part_length 10 bs)) (drop (part_length 10 bs) bs))))
    go true p q = p
    go false p q = q

pub cut_none : (bs : List ℕ) → None ≡ end_at (lines bs) → sheets_in bs ≡ []
cut_none bs e = subst (CutAt [] bs 0 (sheets_in bs)) (sym e) (cut (suc (length bs)) [] bs 1 0 (omega arith))

cut_here : (bs : List ℕ) (k : ℕ) → Some k ≡ end_at (lines bs) → Cut [] bs 0 (sheets_in bs) k
cut_here bs k e = subst (CutAt [] bs 0 (sheets_in bs)) (sym e) (cut (suc (length bs)) [] bs 1 0 (omega arith))

pub cut_within : (bs : List ℕ) (o : Option ℕ) → o ≡ end_at (lines bs) → IfSome o (λ k. k ≤ length bs)
cut_within bs None e = tt
cut_within bs (Some k) e = omega (arith, (cut_here bs k e).within)

pub cut_some : (bs : List ℕ) (k : ℕ) → Some k ≡ end_at (lines bs) → sheets_in bs ≡ take k bs ∷ sheets_of (drop k bs)
cut_some bs k e = let z : k - 0 ≡ k = omega arith in (cut_here bs k e).are ∙ ap (λ (j : ℕ). take j bs ∷ sheets_of (drop j bs)) z

-- the first line `end` is the first that is found
pub end_found : (ls : List Told) (o : Option Part) → option_map told o ≡ find (λ l. bytes_eq l.text (codes "end")) ls → option_map (λ l. l.place.offset) o ≡ end_at ls
end_found ls o e = elim o as (λ o. option_map (λ l. l.place.offset) o ≡ option_map (λ l. l.place.offset) (option_map told o)) [ None ↦ refl | Some l ↦ refl ] ∙ ap (option_map (λ l. l.place.offset)) e ∙ sought ls
  where
    sought : (ls : List Told) → option_map (λ l. l.place.offset) (find (λ l. bytes_eq l.text (codes "end")) ls) ≡ end_at ls
    sought [] = refl
    sought (l ∷ ls) = elim (bytes_eq l.text (codes "end")) as (λ v. option_map (λ l. l.place.offset) (cond v (Some l) (find (λ l. bytes_eq l.text (codes "end")) ls)) ≡ cond v (Some l.place.offset) (end_at ls))
        [ true ↦ refl | false ↦ sought ls ]

abbrev head_of : List (List ℕ) → List ℕ
head_of [] = []
head_of (l ∷ ls) = l

-- what comes after the first line
module _ (bs : List ℕ) (p : Told) (ps : List Told) (e : p ∷ ps ≡ lines bs) where
  all_lines : p.text ∷ texts ps ≡ take (part_length 10 bs) bs ∷ texts (past 10 1 1 (0 + suc (part_length 10 bs)) (drop (part_length 10 bs) bs))
  all_lines = ap texts (e ∙ first 10 1 1 0 bs)

  text_is : p.text ≡ take (part_length 10 bs) bs
  text_is = ap head_of all_lines

  rest_is : sheets_of bs ≡ sheets_from [] (texts (past 10 1 1 (0 + suc (part_length 10 bs)) (drop (part_length 10 bs) bs)))
  rest_is = ap (λ (ls : List (List ℕ)). sheets_from [] (others ls)) (ap texts (first 10 1 1 0 bs))

  pub after_first : sheets_in (drop (length p.text + 1) bs) ≡ sheets_of bs
  after_first = go (behind 10 bs)
    where
      go : Behind 10 bs (part_length 10 bs) → sheets_in (drop (length p.text + 1) bs) ≡ sheets_of bs
      go (nothing h) =
          let none = ap length h in
          let all = take_all (part_length 10 bs) bs (omega (arith, none, length-drop (part_length 10 bs) bs)) in
          ap sheets_in (drop_all (length p.text + 1) bs (omega (arith, ap length text_is, ap length all)))
          ∙ sym (rest_is ∙ ap (λ (d : List ℕ). sheets_from [] (texts (past 10 1 1 (0 + suc (part_length 10 bs)) d))) h)
      go (more rest h) =
          let some = ap length h in
          let size : length p.text ≡ part_length 10 bs = ap length text_is ∙ length-take-le (part_length 10 bs) bs (omega (arith, some, length-drop (part_length 10 bs) bs)) in
          let there : drop (length p.text + 1) bs ≡ rest = drop_on (part_length 10 bs) (length p.text + 1) 0 10 bs rest (omega arith) h in
          ap sheets_in there
          ∙ ap (sheets_from []) (shift 1 0 (1 + 1) (0 + suc (part_length 10 bs)) rest)
          ∙ sym (rest_is ∙ ap (λ (d : List ℕ). sheets_from [] (texts (past 10 1 1 (0 + suc (part_length 10 bs)) d))) h)
