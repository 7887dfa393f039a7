-- Changes written in sheets.
use Rattle.std.proofs.Common.{◌≡◌, ℕ, zero, suc, ◌<◌, min, List, [], ◌∷◌, ◌++◌, map, length, codes, decimal, sym, refl, ap, ◌∙◌, append_assoc, append-nil, arith, length-append}
use Rattle.std.specs.List.{flat_map}
use Rattle.rules.specs.declared.change.Change.{Change}
use Rattle.rules.specs.declared.change.Change.TheVariants.{Arc}
use Rattle.rules.specs.Rules.{Rules}
use Rattle.rules.specs.Listing.{each_below}
use Rattle.book_text.specs.Canonical.{line_text, in_sheets, text_of, stage_change, CanonicalChanges}

-- what is still to be written before a sheet: nothing where no change is left
abbrev pub sheets_left : List Change → List ℕ
sheets_left [] = []
sheets_left (ch ∷ chs) = in_sheets 64 (ch ∷ chs)

pub some_left : (chs : List Change) → 0 < length chs → sheets_left chs ≡ in_sheets 64 chs
some_left [] h = absurd (omega arith)
some_left (ch ∷ chs) h = refl

none_left : (chs : List Change) → length chs ≡ 0 → sheets_left chs ≡ []
none_left [] h = refl
none_left (ch ∷ chs) h = absurd (omega arith)

-- a sheet, which is full where changes are left behind it
one_sheet : (room : ℕ) (sheet rest : List Change) → length sheet ≡ min room (length (sheet ++ rest)) →
    in_sheets room (sheet ++ rest) ≡ flat_map line_text sheet ++ (codes "end\n" ++ sheets_left rest)
unfolding in_sheets
one_sheet zero [] [] h = refl
one_sheet (suc room) [] [] h = refl
one_sheet zero [] (ch ∷ chs) h = refl
one_sheet (suc room) [] (ch ∷ chs) h = absurd (omega arith)
one_sheet zero (ch ∷ chs) rest h = absurd (omega arith)
one_sheet (suc room) (ch ∷ chs) rest h =
    ap (λ (x : List ℕ). line_text ch ++ x) (one_sheet room chs rest (omega arith))
    ∙ sym (append_assoc (line_text ch) (flat_map line_text chs) (codes "end\n" ++ sheets_left rest))

pub sheet_written : (old lines ended all : List ℕ) (size : ℕ) (left sheet rest : List Change) → size ≡ 64 → left ≡ sheet ++ rest → length sheet ≡ min size (length left) →
    0 < length left → lines ≡ old ++ flat_map line_text sheet → ended ≡ lines ++ codes "end\n" → old ++ sheets_left left ≡ all → ended ++ sheets_left rest ≡ all
sheet_written old lines ended all size left sheet rest z e l some p q inv =
    ap (λ (x : List ℕ). x ++ sheets_left rest) (q ∙ ap (λ (x : List ℕ). x ++ codes "end\n") p)
    ∙ append_assoc (old ++ flat_map line_text sheet) (codes "end\n") (sheets_left rest)
    ∙ append_assoc old (flat_map line_text sheet) (codes "end\n" ++ sheets_left rest)
    ∙ ap (λ (x : List ℕ). old ++ x) (sym (some_left left some ∙ ap (in_sheets 64) e ∙ one_sheet 64 sheet rest (omega (arith, z, l, ap length e))))
    ∙ inv

pub all_written : (text all : List ℕ) (left : List Change) → length left ≡ 0 → text ++ sheets_left left ≡ all → text ≡ all
all_written text all left h inv = sym (ap (λ (x : List ℕ). text ++ x) (none_left left h) ∙ append-nil text) ∙ inv

-- there is one change at least, that of stage 0
some_stage : (b : Rules) (n : ℕ) → 0 < length (each_below (suc n) (stage_change b))
unfolding each_below
some_stage b zero = omega arith
some_stage b (suc n) = omega (arith, length-append (each_below (suc n) (stage_change b)) (stage_change b (suc n)), some_stage b n)

pub some_change : (b : Rules) (chs : List Change) → CanonicalChanges b chs → 0 < length chs
some_change b chs c =
    omega (arith, ap length c.are, length-append (each_below 256 (stage_change b)) (map Arc c.arcs), some_stage b 255)

-- the first line and the sheets make the text
pub whole_text : (E n : ℕ) (first text : List ℕ) (chs : List Change) → first ≡ decimal n ++ (10 ∷ []) → n ≡ E → text ≡ first ++ in_sheets 64 chs → text ≡ text_of E chs
whole_text E n first text chs p e q =
    q
    ∙ ap (λ (x : List ℕ). x ++ in_sheets 64 chs) (p ∙ ap (λ (k : ℕ). decimal k ++ (10 ∷ [])) e)
    ∙ append_assoc (decimal E) (10 ∷ []) (in_sheets 64 chs)
