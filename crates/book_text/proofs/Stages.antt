-- The changes that make the live stages, as a chain of `filter_map` makes them.
use Rattle.std.proofs.Common.{◌≡◌, ℕ, zero, suc, ◌+◌, Option, None, Some, List, [], ◌∷◌, ◌++◌, refl, ap, ◌∙◌, arith, rules, tests}
use Rattle.std.specs.List.{cons_option, filter_map, range_with_len}
use Rattle.std.proofs.lemmas.List.Elements.{filter_map-append}
use Rattle.rules.specs.declared.change.Change.{Change}
use Rattle.rules.specs.Rules.{Rules}
use Rattle.rules.specs.Listing.{each_below}
use Rattle.book_text.specs.Canonical.{stage_change, stage_changes}

abbrev first : {A : Type 0} → List A → Option A
first [] = None
first (x ∷ xs) = Some x

-- the change that makes a stage, if it is live
abbrev pub chosen : Rules → ℕ → Option Change
chosen b k = first (stage_change b k)

one_or_none : (b : Rules) (k : ℕ) → cons_option (chosen b k) [] ≡ stage_change b k
one_or_none b k = search (rules, tests)

one_more : (a n j : ℕ) → a + n ≡ j → range_with_len a (suc n) ≡ range_with_len a n ++ j ∷ []
one_more a zero j e = let same : a ≡ j = omega arith in ap (λ k. k ∷ []) same
one_more a (suc n) j e = ap (λ ks. a ∷ ks) (one_more (a + 1) n j (omega arith))

chosen_below : (b : Rules) (n : ℕ) → filter_map (chosen b) (range_with_len 0 n) ≡ each_below n (stage_change b)
unfolding each_below
chosen_below b zero = refl
chosen_below b (suc n) =
    ap (filter_map (chosen b)) (one_more 0 n n (omega arith)) ∙ filter_map-append (chosen b) (range_with_len 0 n) (n ∷ [])
    ∙ (λ i. chosen_below b n i ++ one_or_none b n i)

pub all_chosen : (b : Rules) → filter_map (chosen b) (range_with_len 0 256) ≡ stage_changes b
all_chosen b = chosen_below b 256
