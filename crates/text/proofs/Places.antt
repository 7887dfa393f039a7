-- Each part of a text stands where its place says.
use Rattle.std.proofs.Common.{◌≡◌, ℕ, suc, ◌+◌, ◌-◌, ◌*◌, Bool, true, false, cond, eqb, List, [], ◌∷◌, length, take, drop, sym, refl, ap, ◌∙◌, subst, mul-zero, mul-one, mul-add, add-one, arith}
use Rattle.std.proofs.lemmas.Bool.{cond_both}
use Rattle.text.specs.Split.{Told, parts, part_length, before, empty, count, Stands, Placed}
use Rattle.text.proofs.First.{tell, past, first}

module _ (by step : ℕ) where
  -- a part with which the text begins
  here : (line at : ℕ) (bs text : List ℕ) → take (length text) bs ≡ text → Stands by step line at bs 0 (tell line at text)
  here line at bs text h =
      let z : at - at ≡ 0 = omega arith in
      record {
        from = omega arith;
        there = ap (λ i. take (length text) (drop i bs)) z ∙ h;
        behind = ap (λ i. count by (take i bs)) z;
        numbered = omega (arith, mul-zero step);
      }

  next_line : (line k : ℕ) → line + step + step * k ≡ line + step * suc k
  next_line line k =
      let d : step * (k + 1) ≡ step * k + step * 1 = mul-add step k 1 in
      let o : step * 1 ≡ step = mul-one step in
      let s : step * suc k ≡ step * (k + 1) = ap (λ i. step * i) (sym (add-one k)) in
      omega arith

  -- a byte more in front of the text: a byte `by` (t is true) or another
  further : (t : Bool) (line at b : ℕ) (bs : List ℕ) (k : ℕ) (p : Told) → eqb b by ≡ t → Stands by step (cond t (line + step) line) (at + 1) bs k p → Stands by step line at (b ∷ bs) (cond t (suc k) k) p
  further t line at b bs k p e h =
      let from = h.from in
      let z : p.place.offset - at ≡ suc (p.place.offset - (at + 1)) = omega arith in
      record {
        from = omega arith;
        there = ap (λ i. take (length p.text) (drop i (b ∷ bs))) z ∙ h.there;
        behind = ap (λ i. count by (take i (b ∷ bs))) z ∙ ap (λ n. cond (eqb b by) (suc n) n) h.behind ∙ ap (λ t. cond t (suc k) k) e;
        numbered = h.numbered ∙ elim t as (λ t. cond t (line + step) line + step * k ≡ line + step * cond t (suc k) k) [ true ↦ next_line line k | false ↦ refl ];
      }

  all_further : (t : Bool) (line at b : ℕ) (bs : List ℕ) (k : ℕ) (ps : List Told) → eqb b by ≡ t → Placed by step (cond t (line + step) line) (at + 1) bs k ps → Placed by step line at (b ∷ bs) (cond t (suc k) k) ps
  all_further t line at b bs k [] e h = tt
  all_further true line at b bs k (p ∷ ps) e h = (further true line at b bs k p e h.0, all_further true line at b bs (suc k) ps e h.1)
  all_further false line at b bs k (p ∷ ps) e h = (further false line at b bs k p e h.0, all_further false line at b bs (suc k) ps e h.1)

  longer : (line at b : ℕ) (bs text : List ℕ) (ps : List Told) → eqb b by ≡ false → Placed by step line (at + 1) bs 0 (tell line (at + 1) text ∷ ps) → Placed by step line at (b ∷ bs) 0 (before line at b (tell line (at + 1) text ∷ ps))
  longer line at b bs text ps e h =
      let z : at + 1 - (at + 1) ≡ 0 = omega arith in
      let is : take (length text) bs ≡ text = ap (λ i. take (length text) (drop i bs)) (sym z) ∙ h.0.there in
      (here line at (b ∷ bs) (b ∷ text) (ap (λ l. b ∷ l) is), all_further false line at b bs 1 ps e h.1)

  pub placed : (line at : ℕ) (bs : List ℕ) → Placed by step line at bs 0 (parts by step line at bs)
  placed line at [] = (here line at [] [] refl, tt)
  placed line at (b ∷ bs) =
      cond_both (eqb b by) (empty line at ∷ parts by step (line + step) (at + 1) bs) (before line at b (parts by step line (at + 1) bs))
      (λ ps. Placed by step line at (b ∷ bs) 0 ps)
      (λ e. (here line at (b ∷ bs) [] refl, all_further true line at b bs 0 (parts by step (line + step) (at + 1) bs) e (placed (line + step) (at + 1) bs)))
      (λ e. subst (λ ps. Placed by step line (at + 1) bs 0 ps → Placed by step line at (b ∷ bs) 0 (before line at b ps)) (sym (first by step line (at + 1) bs))
      (longer line at b bs (take (part_length by bs) bs) (past by step line (at + 1 + suc (part_length by bs)) (drop (part_length by bs) bs)) e)
      (placed line (at + 1) bs))
