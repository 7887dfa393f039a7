-- A line is read as a change exactly if it is the line of that change.
use Rattle.std.proofs.Common.{◌≡◌, ℕ, ◌<◌, Bool, true, false, cond, List, [], ◌∷◌, ◌++◌, Some, None, Ok, Err, codes, decimal, Option, option_map, Result, sym, refl, ap, ◌∙◌, subst, arith}
use Rattle.std.specs.Option.{ok_or}
use Rattle.std.specs.Str.{bytes_eq}
use Rattle.std.proofs.lemmas.Slice.Eq.{bytes_eq-Decides}
use Rattle.text.specs.declared.parts.Place.{Place}
use Rattle.text.specs.Split.{Told, words, joined}
use Rattle.text.specs.Numbers.{number_of}
use Rattle.text.proofs.Back.{whole}
use Rattle.text.proofs.Numerals.{numeral, number_words}
use Rattle.text.proofs.Parting.{two_words, three_words, four_words}
use Rattle.rules.specs.declared.change.Arc.{Arc as AnArc}
use Rattle.rules.specs.declared.change.Change.{Change}
use Rattle.rules.specs.declared.change.Change.TheVariants.{Stage, Drop, Arc, Cut, Mark}
use Rattle.rules.specs.ChangeLines.{change_line, Small}
use Rattle.sheet_faults.specs.declared.WordFault.{WordFault}
use Rattle.sheet_faults.specs.declared.WordFault.TheVariants.{UnknownKeyword, NotANumber}
use Rattle.sheet_faults.specs.declared.LineFault.{LineFault}
use Rattle.sheet_faults.specs.declared.LineFault.TheVariants.{WordCount}
use Rattle.sheet_faults.specs.Faults.{in_line}
use Rattle.sheet.specs.declared.changes.PlacedChange.{PlacedChange}
use Rattle.sheet.specs.declared.line.Keyword.{Keyword}
use Rattle.sheet.specs.declared.line.Keyword.TheVariants as keyword
use Rattle.text.specs.Outcomes.{over, and_then}
use Rattle.text.specs.Counted.{one_of, two_of, three_of}
use Rattle.sheet.specs.Lines.{ToldLine, stage, dropped, arc, cut, mark, keyword_of, form_of, from_words, line_of, number_of_word, two_numbers_of, arc_of, numbered, change_of}
use Rattle.sheet.specs.Sheets.{placed_of}
use Rattle.sheet.specs.Laws.{LineOf}

-- from the line of a change to the change
abbrev finish : Place → List Told → Result PlacedChange LineFault
finish p ws = and_then (from_words p ws) (λ form. over (λ ch. record { change = ch; place = p }) (change_of form))

abbrev placed : Place → Change → Result PlacedChange LineFault
placed p ch = Ok (record { change = ch; place = p })

abbrev with_place : Place → Result Change WordFault → Result PlacedChange LineFault
with_place p r = over (λ ch. record { change = ch; place = p }) (in_line r)

abbrev pair : Result ℕ WordFault → Result ℕ WordFault → Result (ℕ × ℕ) WordFault
pair x y = and_then x (λ i. over (λ j. (i, j)) y)

abbrev triple : Result ℕ WordFault → Result ℕ WordFault → Result ℕ WordFault → Result AnArc WordFault
triple x y z = and_then x (λ m. over (λ q. record { from = m; label = q.0; to = q.1 }) (pair y z))

one_told : (p u : Place) (x : Option ℕ) (n : ℕ) (f : ℕ → Change) → x ≡ Some n → with_place p (over f (ok_or x (NotANumber u))) ≡ placed p (f n)
one_told p u x n f h = λ i. with_place p (over f (ok_or (h i) (NotANumber u)))

two_told : (p u v : Place) (x y : Option ℕ) (n m : ℕ) (f : ℕ → ℕ → Change) → x ≡ Some n → y ≡ Some m →
    with_place p (over (λ (z : ℕ × ℕ). f z.0 z.1) (pair (ok_or x (NotANumber u)) (ok_or y (NotANumber v)))) ≡ placed p (f n m)
two_told p u v x y n m f h k = λ i. with_place p (over (λ (z : ℕ × ℕ). f z.0 z.1) (pair (ok_or (h i) (NotANumber u)) (ok_or (k i) (NotANumber v))))

three_told : (p u v w : Place) (x y z : Option ℕ) (a : AnArc) (f : AnArc → Change) → x ≡ Some a.from → y ≡ Some a.label → z ≡ Some a.to →
    with_place p (over f (triple (ok_or x (NotANumber u)) (ok_or y (NotANumber v)) (ok_or z (NotANumber w)))) ≡ placed p (f a)
three_told p u v w x y z a f h k l = λ i. with_place p (over f (triple (ok_or (h i) (NotANumber u)) (ok_or (k i) (NotANumber v)) (ok_or (l i) (NotANumber w))))

reads : (ch : Change) → Small ch → (p : Place) → placed_of (record { text = change_line ch; place = p }) ≡ placed p ch
reads (Stage n m) s p =
    let a = numeral n s.0 in let b = numeral m s.1 in
    ap (finish p) (three_words p.line p.offset (codes "stage") (decimal n) (decimal m) refl a.no_space b.no_space)
    ∙ two_told _ _ _ _ _ n m Stage a.reads b.reads
reads (Drop n) s p =
    let a = numeral n s in
    ap (finish p) (two_words p.line p.offset (codes "drop") (decimal n) refl a.no_space) ∙ one_told _ _ _ n Drop a.reads
reads (Arc x) s p =
    let a = numeral x.from s.0 in let b = numeral x.label s.1 in let d = numeral x.to s.2 in
    ap (finish p) (four_words p.line p.offset (codes "arc") (decimal x.from) (decimal x.label) (decimal x.to) refl a.no_space b.no_space d.no_space)
    ∙ three_told _ _ _ _ _ _ _ x Arc a.reads b.reads d.reads
reads (Cut x) s p =
    let a = numeral x.from s.0 in let b = numeral x.label s.1 in let d = numeral x.to s.2 in
    ap (finish p) (four_words p.line p.offset (codes "cut") (decimal x.from) (decimal x.label) (decimal x.to) refl a.no_space b.no_space d.no_space)
    ∙ three_told _ _ _ _ _ _ _ x Cut a.reads b.reads d.reads
reads (Mark n m) s p =
    let a = numeral n s.0 in let b = numeral m s.1 in
    ap (finish p) (three_words p.line p.offset (codes "mark") (decimal n) (decimal m) refl a.no_space b.no_space)
    ∙ two_told _ _ _ _ _ n m Mark a.reads b.reads

pub reads_line : (l : Told) (item : PlacedChange) → LineOf l item → placed_of l ≡ Ok item
reads_line l item h =
    (λ i. placed_of (record { text = h.text i; place = sym h.place i }))
    ∙ reads item.change h.small item.place

-- what a result that is `Ok` says of what it was made from
pub ok_same : {A E : Type 0} (x y : A) → ◌≡◌ {A = Result A E} (Ok x) (Ok y) → x ≡ y
ok_same x y h = cc

pub err_ok : {A E : Type 0} (e : E) (x : A) → ◌≡◌ {A = Result A E} (Err e) (Ok x) → ⊥
err_ok e x h = let z : ◌≡◌ {A = ℕ} 0 1 = cc in omega arith

pub and_then_ok : {A B E : Type 0} (r : Result A E) (f : A → Result B E) (y : B) → and_then r f ≡ Ok y → (x : A) × (r ≡ Ok x) × (f x ≡ Ok y)
and_then_ok (Ok x) f y h = (x, refl, h)
and_then_ok (Err e) f y h = absurd (err_ok e y h)

over_ok : {A B E : Type 0} (r : Result A E) (f : A → B) (y : B) → over f r ≡ Ok y → (x : A) × (r ≡ Ok x) × (f x ≡ y)
over_ok (Ok x) f y h = (x, refl, ok_same (f x) y h)
over_ok (Err e) f y h = absurd (err_ok e y h)

some_same : {A : Type 0} (x y : A) → Some x ≡ Some y → x ≡ y
some_same x y h = cc

none_some : {A : Type 0} (x : A) → ◌≡◌ {A = Option A} None (Some x) → ⊥
none_some x h = let z : ◌≡◌ {A = ℕ} 0 1 = cc in omega arith

ok_or_ok : {A E : Type 0} (o : Option A) (e : E) (x : A) → ok_or o e ≡ Ok x → o ≡ Some x
ok_or_ok None e x h = absurd (err_ok e x h)
ok_or_ok {A = A} (Some y) e x h = ap {B = Option A} Some (ok_same y x h)

in_line_ok : {A : Type 0} (r : Result A WordFault) (x : A) → in_line r ≡ Ok x → r ≡ Ok x
in_line_ok {A = A} (Ok y) x h = ap {B = Result A WordFault} Ok (ok_same y x h)
in_line_ok (Err w) x h = absurd (err_ok _ x h)

-- the text of a form
abbrev form_text : ToldLine → List ℕ
form_text (stage n m) = codes "stage" ++ (32 ∷ (n.text ++ (32 ∷ m.text)))
form_text (dropped n) = codes "drop" ++ (32 ∷ n.text)
form_text (arc m e n) = codes "arc" ++ (32 ∷ (m.text ++ (32 ∷ (e.text ++ (32 ∷ n.text)))))
form_text (cut m e n) = codes "cut" ++ (32 ∷ (m.text ++ (32 ∷ (e.text ++ (32 ∷ n.text)))))
form_text (mark n m) = codes "mark" ++ (32 ∷ (n.text ++ (32 ∷ m.text)))

-- numbers
record Written (w : Told) (n : ℕ) : Type 0 where
  pub small : n < 1000
  pub text : w.text ≡ decimal n

number_ok : (w : Told) (n : ℕ) → number_of_word w ≡ Ok n → Written w n
number_ok w n h = let r = number_words.only w.text n (ok_or_ok (number_of w.text) (NotANumber w.place) n h) in record { small = r.0; text = r.1 }

two_ok : (v w : Told) (x : ℕ × ℕ) → two_numbers_of v w ≡ Ok x → Written v x.0 × Written w x.1
two_ok v w x h =
    let a = and_then_ok (number_of_word v) (λ i. over (λ j. (i, j)) (number_of_word w)) x h in
    let b = over_ok (number_of_word w) (λ j. (a.0, j)) x a.2 in
    subst (λ (y : ℕ × ℕ). Written v y.0 × Written w y.1) b.2 (number_ok v a.0 a.1, number_ok w b.0 b.1)

three_ok : (u v w : Told) (x : AnArc) → arc_of u v w ≡ Ok x → Written u x.from × Written v x.label × Written w x.to
three_ok u v w x h =
    let a = and_then_ok (number_of_word u) (λ m. over (λ (q : ℕ × ℕ). record { from = m; label = q.0; to = q.1 }) (two_numbers_of v w)) x h in
    let b = over_ok (two_numbers_of v w) (λ (q : ℕ × ℕ). record { from = a.0; label = q.0; to = q.1 }) x a.2 in
    let d = two_ok v w b.0 b.1 in
    subst (λ (y : AnArc). Written u y.from × Written v y.label × Written w y.to) b.2 (number_ok u a.0 a.1, d.0, d.1)

-- a form whose words are number words is the line of a change
abbrev Line : List ℕ → Change → Type 0
Line text ch = (text ≡ change_line ch) × Small ch

numbered_ok : (form : ToldLine) (ch : Change) → numbered form ≡ Ok ch → Line (form_text form) ch
numbered_ok (stage n m) ch h =
    let a = over_ok (two_numbers_of n m) (λ (x : ℕ × ℕ). Stage x.0 x.1) ch h in
    let b = two_ok n m a.0 a.1 in
    subst (Line (form_text (stage n m))) a.2 ((λ i. codes "stage" ++ (32 ∷ (b.0.text i ++ (32 ∷ b.1.text i)))), (b.0.small, b.1.small))
numbered_ok (dropped n) ch h =
    let a = over_ok (number_of_word n) Drop ch h in
    let b = number_ok n a.0 a.1 in
    subst (Line (form_text (dropped n))) a.2 ((λ i. codes "drop" ++ (32 ∷ b.text i)), b.small)
numbered_ok (arc m e n) ch h =
    let a = over_ok (arc_of m e n) Arc ch h in
    let b = three_ok m e n a.0 a.1 in
    subst (Line (form_text (arc m e n))) a.2
    ((λ i. codes "arc" ++ (32 ∷ (b.0.text i ++ (32 ∷ (b.1.text i ++ (32 ∷ b.2.text i)))))), (b.0.small, b.1.small, b.2.small))
numbered_ok (cut m e n) ch h =
    let a = over_ok (arc_of m e n) Cut ch h in
    let b = three_ok m e n a.0 a.1 in
    subst (Line (form_text (cut m e n))) a.2
    ((λ i. codes "cut" ++ (32 ∷ (b.0.text i ++ (32 ∷ (b.1.text i ++ (32 ∷ b.2.text i)))))), (b.0.small, b.1.small, b.2.small))
numbered_ok (mark n m) ch h =
    let a = over_ok (two_numbers_of n m) (λ (x : ℕ × ℕ). Mark x.0 x.1) ch h in
    let b = two_ok n m a.0 a.1 in
    subst (Line (form_text (mark n m))) a.2 ((λ i. codes "mark" ++ (32 ∷ (b.0.text i ++ (32 ∷ b.1.text i)))), (b.0.small, b.1.small))

option_map_some : {A B : Type 0} (o : Option A) (f : A → B) (y : B) → option_map f o ≡ Some y → (x : A) × (o ≡ Some x) × (f x ≡ y)
option_map_some None f y h = absurd (none_some y h)
option_map_some (Some x) f y h = (x, refl, some_same (f x) y h)

-- words
one_of_some : (ws : List Told) (w : Told) → one_of ws ≡ Some w → ws ≡ w ∷ []
one_of_some [] w h = absurd (none_some w h)
one_of_some (a ∷ []) w h = ap (λ (x : Told). x ∷ []) (some_same a w h)
one_of_some (a ∷ b ∷ ws) w h = absurd (none_some w h)

two_of_some : (ws : List Told) (w : Told × Told) → two_of ws ≡ Some w → ws ≡ w.0 ∷ w.1 ∷ []
two_of_some [] w h = absurd (none_some w h)
two_of_some (a ∷ ws) w h =
    let b = option_map_some (one_of ws) (λ (x : Told). (a, x)) w h in
    ap (λ (xs : List Told). a ∷ xs) (one_of_some ws b.0 b.1) ∙ ap (λ (x : Told × Told). x.0 ∷ x.1 ∷ []) b.2

three_of_some : (ws : List Told) (w : Told × Told × Told) → three_of ws ≡ Some w → ws ≡ w.0 ∷ w.1 ∷ w.2 ∷ []
three_of_some [] w h = absurd (none_some w h)
three_of_some (a ∷ ws) w h =
    let b = option_map_some (two_of ws) (λ (x : Told × Told). (a, x.0, x.1)) w h in
    ap (λ (xs : List Told). a ∷ xs) (two_of_some ws b.0 b.1) ∙ ap (λ (x : Told × Told × Told). x.0 ∷ x.1 ∷ x.2 ∷ []) b.2

abbrev key_text : Keyword → List ℕ
key_text keyword.Stage = codes "stage"
key_text keyword.Drop = codes "drop"
key_text keyword.Arc = codes "arc"
key_text keyword.Cut = codes "cut"
key_text keyword.Mark = codes "mark"

same_bytes : (xs ys : List ℕ) → bytes_eq xs ys ≡ true → xs ≡ ys
same_bytes xs ys h = (bytes_eq-Decides xs ys).0 h

keyword_ok : (h : Told) (k : Keyword) → keyword_of h ≡ Ok k → h.text ≡ key_text k
keyword_ok h k e = go _ _ _ _ _ refl refl refl refl refl e
  where
    is : (ys : List ℕ) (x : Keyword) → bytes_eq h.text ys ≡ true → key_text x ≡ ys → ◌≡◌ {A = Result Keyword WordFault} (Ok x) (Ok k) → h.text ≡ key_text k
    is ys x t u v = same_bytes h.text ys t ∙ sym u ∙ ap key_text (ok_same x k v)

    go : (s d a c m : Bool) → bytes_eq h.text (codes "stage") ≡ s → bytes_eq h.text (codes "drop") ≡ d → bytes_eq h.text (codes "arc") ≡ a →
        bytes_eq h.text (codes "cut") ≡ c → bytes_eq h.text (codes "mark") ≡ m →
        cond s (Ok keyword.Stage) (cond d (Ok keyword.Drop) (cond a (Ok keyword.Arc) (cond c (Ok keyword.Cut) (cond m (Ok keyword.Mark) (Err (UnknownKeyword h.place)))))) ≡ Ok k →
        h.text ≡ key_text k
    go true d a c m ps pd pa pc pm f = is (codes "stage") keyword.Stage ps refl f
    go false true a c m ps pd pa pc pm f = is (codes "drop") keyword.Drop pd refl f
    go false false true c m ps pd pa pc pm f = is (codes "arc") keyword.Arc pa refl f
    go false false false true m ps pd pa pc pm f = is (codes "cut") keyword.Cut pc refl f
    go false false false false true ps pd pa pc pm f = is (codes "mark") keyword.Mark pm refl f
    go false false false false false ps pd pa pc pm f = absurd (err_ok _ k f)

-- the words of a line of each form
one_joined : (h w : Told) (ws : List Told) (key : List ℕ) → h.text ≡ key → ws ≡ w ∷ [] → joined 32 (h ∷ ws) ≡ key ++ (32 ∷ w.text)
one_joined h w ws key e f = ap (λ (xs : List Told). joined 32 (h ∷ xs)) f ∙ ap (λ (x : List ℕ). x ++ (32 ∷ w.text)) e

two_joined : (h v w : Told) (ws : List Told) (key : List ℕ) → h.text ≡ key → ws ≡ v ∷ w ∷ [] → joined 32 (h ∷ ws) ≡ key ++ (32 ∷ (v.text ++ (32 ∷ w.text)))
two_joined h v w ws key e f = ap (λ (xs : List Told). joined 32 (h ∷ xs)) f ∙ ap (λ (x : List ℕ). x ++ (32 ∷ (v.text ++ (32 ∷ w.text)))) e

three_joined : (h u v w : Told) (ws : List Told) (key : List ℕ) → h.text ≡ key → ws ≡ u ∷ v ∷ w ∷ [] →
    joined 32 (h ∷ ws) ≡ key ++ (32 ∷ (u.text ++ (32 ∷ (v.text ++ (32 ∷ w.text)))))
three_joined h u v w ws key e f =
    ap (λ (xs : List Told). joined 32 (h ∷ xs)) f ∙ ap (λ (x : List ℕ). x ++ (32 ∷ (u.text ++ (32 ∷ (v.text ++ (32 ∷ w.text)))))) e

form_some : (h : Told) (ws : List Told) (k : Keyword) (form : ToldLine) → h.text ≡ key_text k → form_of ws k ≡ Some form → joined 32 (h ∷ ws) ≡ form_text form
form_some h ws keyword.Stage form e f =
    let a = option_map_some (two_of ws) (λ (w : Told × Told). stage w.0 w.1) form f in
    two_joined h a.0.0 a.0.1 ws (codes "stage") e (two_of_some ws a.0 a.1) ∙ ap form_text a.2
form_some h ws keyword.Drop form e f =
    let a = option_map_some (one_of ws) dropped form f in
    one_joined h a.0 ws (codes "drop") e (one_of_some ws a.0 a.1) ∙ ap form_text a.2
form_some h ws keyword.Arc form e f =
    let a = option_map_some (three_of ws) (λ (w : Told × Told × Told). arc w.0 w.1 w.2) form f in
    three_joined h a.0.0 a.0.1 a.0.2 ws (codes "arc") e (three_of_some ws a.0 a.1) ∙ ap form_text a.2
form_some h ws keyword.Cut form e f =
    let a = option_map_some (three_of ws) (λ (w : Told × Told × Told). cut w.0 w.1 w.2) form f in
    three_joined h a.0.0 a.0.1 a.0.2 ws (codes "cut") e (three_of_some ws a.0 a.1) ∙ ap form_text a.2
form_some h ws keyword.Mark form e f =
    let a = option_map_some (two_of ws) (λ (w : Told × Told). mark w.0 w.1) form f in
    two_joined h a.0.0 a.0.1 ws (codes "mark") e (two_of_some ws a.0 a.1) ∙ ap form_text a.2

line_ok : (l : Told) (form : ToldLine) → line_of l ≡ Ok form → l.text ≡ form_text form
line_ok l form h = sym (whole 32 0 l.place.line l.place.offset l.text).back ∙ go (words l) h
  where
    go : (ws : List Told) → from_words l.place ws ≡ Ok form → joined 32 ws ≡ form_text form
    go [] e = absurd (err_ok _ form e)
    go (w ∷ ws) e =
        let a = and_then_ok (in_line (keyword_of w)) (λ k. ok_or (form_of ws k) (WordCount l.place)) form e in
        form_some w ws a.0 form (keyword_ok w a.0 (in_line_ok (keyword_of w) a.0 a.1)) (ok_or_ok (form_of ws a.0) (WordCount l.place) form a.2)

pub line_read : (l : Told) (item : PlacedChange) → placed_of l ≡ Ok item → LineOf l item
line_read l item h =
    let a = and_then_ok (line_of l) (λ form. over (λ ch. record { change = ch; place = l.place }) (change_of form)) item h in
    let b = over_ok (change_of a.0) (λ ch. record { change = ch; place = l.place }) item a.2 in
    let d = numbered_ok a.0 b.0 (in_line_ok (numbered a.0) b.0 b.1) in
    subst (LineOf l) b.2 (record { text = line_ok l a.0 a.1 ∙ d.0; small = d.1; place = refl })
