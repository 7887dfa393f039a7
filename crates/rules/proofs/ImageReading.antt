-- What an image tells can be read off it again.
use Rattle.std.proofs.Common.{◌≡◌, ℕ, zero, suc, ◌+◌, ◌-◌, ◌*◌, ◌/◌, ◌%◌, ◌^◌, ◌<◌, ◌≤◌, Bool, true, false, cond, eqb, ◌↔◌, List, [], ◌∷◌, ◌++◌, length, get_or, Some, None, Option, sym, refl, ap, ◌∙◌, subst, ap₂, true≢false, mod-eq_of_lt, one-add, arith, length-append}
use mathlib.Core.Path.{subst⁻¹}
use mathlib.Core.Bool.{false≢true}
use lib.ListN.{get_or-eq_default}
use lib.Pow.{mod-pow-add}
use native.Mathlib.Decide.{dec_lt, dec_le}
use Rattle.std.proofs.lemmas.Bool.{eqb-true, eqb-false}
use Rattle.std.proofs.lemmas.List.FromFn.{length-map-range_with_len, get_or-map-range_with_len}
use Rattle.rules.specs.Rules.{Rules, WellFormed}
use Rattle.rules.specs.Paths.{Path, R, Event, Word}
use Rattle.rules.specs.Paths.Path.{stay, silent, event}
use Rattle.rules.specs.Table.{Table, Rows, onward, leads}
use Rattle.rules.specs.Order.{TellsSame}
use Rattle.rules.specs.Turn.{InOrder}
use Rattle.rules.specs.Image.{field, header_bits, stage_bits, exit_bits, row_bits, image_bits, digit, byte, bytes, Image}
use Rattle.rules.specs.Listing.{each_below}
use Rattle.rules.proofs.Booleans.{both}
use Rattle.rules.proofs.Leads.{Finds, leads_finds}
use Rattle.rules.proofs.OneImage.{one_image, word_holds}

-- the same bits, with zeros past the end
abbrev Agree : List Bool → List Bool → Type 0
Agree xs ys = (i : ℕ) → get_or xs i false ≡ get_or ys i false

pub digit_small : (xs : List Bool) (i : ℕ) → digit xs i ≤ 1
digit_small xs i = go (get_or xs i false)
  where
    go : (b : Bool) → cond b 1 0 ≤ 1
    go true = omega arith
    go false = omega arith

digit_same : (x y : Bool) → cond x 1 0 ≡ cond {A = ℕ} y 1 0 → x ≡ y
digit_same true true h = refl
digit_same true false h = absurd (omega arith)
digit_same false true h = absurd (omega arith)
digit_same false false h = refl

pub record Eight (P : ℕ → Type 0) : Type 0 where
  pub b0 : P 0
  pub b1 : P 1
  pub b2 : P 2
  pub b3 : P 3
  pub b4 : P 4
  pub b5 : P 5
  pub b6 : P 6
  pub b7 : P 7

pub eight_at : (P : ℕ → Type 0) → Eight P → (j : ℕ) → j < 8 → P j
eight_at P e zero h = e.b0
eight_at P e (suc zero) h = e.b1
eight_at P e (suc (suc zero)) h = e.b2
eight_at P e (suc (suc (suc zero))) h = e.b3
eight_at P e (suc (suc (suc (suc zero)))) h = e.b4
eight_at P e (suc (suc (suc (suc (suc zero))))) h = e.b5
eight_at P e (suc (suc (suc (suc (suc (suc zero)))))) h = e.b6
eight_at P e (suc (suc (suc (suc (suc (suc (suc zero))))))) h = e.b7
eight_at P e (suc (suc (suc (suc (suc (suc (suc (suc j)))))))) h = absurd (omega arith)

eight_digits : (a0 a1 a2 a3 a4 a5 a6 a7 b0 b1 b2 b3 b4 b5 b6 b7 : ℕ) → a0 ≤ 1 → a1 ≤ 1 → a2 ≤ 1 → a3 ≤ 1 → a4 ≤ 1 → a5 ≤ 1 → a6 ≤ 1 → a7 ≤ 1 →
    b0 ≤ 1 → b1 ≤ 1 → b2 ≤ 1 → b3 ≤ 1 → b4 ≤ 1 → b5 ≤ 1 → b6 ≤ 1 → b7 ≤ 1 →
    128 * a0 + 64 * a1 + 32 * a2 + 16 * a3 + 8 * a4 + 4 * a5 + 2 * a6 + a7 ≡ 128 * b0 + 64 * b1 + 32 * b2 + 16 * b3 + 8 * b4 + 4 * b5 + 2 * b6 + b7 →
    (a0 ≡ b0) × (a1 ≡ b1) × (a2 ≡ b2) × (a3 ≡ b3) × (a4 ≡ b4) × (a5 ≡ b5) × (a6 ≡ b6) × (a7 ≡ b7)
eight_digits a0 a1 a2 a3 a4 a5 a6 a7 b0 b1 b2 b3 b4 b5 b6 b7 p0 p1 p2 p3 p4 p5 p6 p7 q0 q1 q2 q3 q4 q5 q6 q7 h =
    let e0 : a0 ≡ b0 = omega arith in
    let e1 : a1 ≡ b1 = omega arith in
    let e2 : a2 ≡ b2 = omega arith in
    let e3 : a3 ≡ b3 = omega arith in
    let e4 : a4 ≡ b4 = omega arith in
    let e5 : a5 ≡ b5 = omega arith in
    let e6 : a6 ≡ b6 = omega arith in
    let e7 : a7 ≡ b7 = omega arith in
    (e0, e1, e2, e3, e4, e5, e6, e7)

agree_append : (u v xs ys : List Bool) → length u ≡ length v → Agree (u ++ xs) (v ++ ys) → (u ≡ v) × Agree xs ys
agree_append [] [] xs ys l h = (refl, h)
agree_append [] (y ∷ v) xs ys l h = absurd (omega arith)
agree_append (x ∷ u) [] xs ys l h = absurd (omega arith)
agree_append (x ∷ u) (y ∷ v) xs ys l h = let r = agree_append u v xs ys (omega arith) (λ i. h (suc i)) in (ap₂ {C = List Bool} ◌∷◌ (h 0) r.0, r.1)

agree_same : (xs ys : List Bool) → length xs ≡ length ys → Agree xs ys → xs ≡ ys
agree_same [] [] l h = refl
agree_same [] (y ∷ v) l h = absurd (omega arith)
agree_same (x ∷ u) [] l h = absurd (omega arith)
agree_same (x ∷ u) (y ∷ v) l h = ap₂ {C = List Bool} ◌∷◌ (h 0) (agree_same u v (omega arith) (λ i. h (suc i)))

same_agree : (xs ys : List Bool) → xs ≡ ys → Agree xs ys
same_agree xs ys e i = ap (λ (z : List Bool). get_or z i false) e

split : (u v xs ys : List Bool) → length u ≡ length v → length xs ≡ length ys → u ++ xs ≡ v ++ ys → (u ≡ v) × (xs ≡ ys)
split u v xs ys l m h = let r = agree_append u v xs ys l (same_agree (u ++ xs) (v ++ ys) h) in (r.0, agree_same xs ys m r.1)

pub length_field : (k n : ℕ) → length (field k n) ≡ k
length_field zero n = refl
length_field (suc k) n = ap suc (length_field k n)

head_same : (a b : Bool) (u v : List Bool) → a ∷ u ≡ b ∷ v → (a ≡ b) × (u ≡ v)
head_same a b u v h = (ap (λ (l : List Bool). get_or l 0 false) h, ap (lib.ListN.drop 1) h)

bit_same : (x y : ℕ) → x < 2 → y < 2 → eqb x 1 ≡ eqb y 1 → x ≡ y
bit_same x y p q h = go (eqb x 1) (eqb y 1) refl refl h
  where
    go : (c d : Bool) → eqb x 1 ≡ c → eqb y 1 ≡ d → c ≡ d → x ≡ y
    go true true a b e = eqb-true x 1 a ∙ sym (eqb-true y 1 b)
    go true false a b e = absurd (true≢false e)
    go false true a b e = absurd (false≢true e)
    go false false a b e = let r = eqb-false x 1 a in let s = eqb-false y 1 b in omega arith

field_mod : (k m n : ℕ) → field k m ≡ field k n → m % 2 ^ k ≡ n % 2 ^ k
field_mod zero m n h = omega arith
field_mod (suc k) m n h = let e = head_same _ _ (field k m) (field k n) h in
    let b : m / 2 ^ k % 2 ≡ n / 2 ^ k % 2 = bit_same _ _ (omega arith) (omega arith) e.0 in
    let step : (x : ℕ) → x % 2 ^ suc k ≡ (x / 2 ^ k % 2) * 2 ^ k + x % 2 ^ k = λ x. ap (λ (j : ℕ). x % 2 ^ j) (sym (one-add k)) ∙ mod-pow-add x 1 k in
    step m ∙ ap₂ {C = ℕ} (λ u v. u * 2 ^ k + v) b (field_mod k m n e.1) ∙ sym (step n)

bytes_agree : (xs ys : List Bool) → bytes xs ≡ bytes ys → Agree xs ys
bytes_agree xs ys h i = go (dec_lt (i / 8) ((length xs + 7) / 8))
  where
    counts : (length xs + 7) / 8 ≡ (length ys + 7) / 8
    counts = sym (length-map-range_with_len (byte xs) 0 ((length xs + 7) / 8)) ∙ ap length h ∙ length-map-range_with_len (byte ys) 0 ((length ys + 7) / 8)

    k : ℕ
    k = i / 8

    at : i ≡ 8 * (i / 8) + i % 8
    at = omega arith

    first : (zs : List Bool) → digit zs (8 * (i / 8)) ≡ digit zs (8 * (i / 8) + 0)
    first zs = ap (digit zs) (omega arith)

    digits : byte xs (i / 8) ≡ byte ys (i / 8) → Eight (λ j. digit xs (8 * (i / 8) + j) ≡ digit ys (8 * (i / 8) + j))
    digits e = let r = eight_digits _ _ _ _ _ _ _ _ _ _ _ _ _ _ _ _
        (digit_small xs (8 * (i / 8))) (digit_small xs (8 * (i / 8) + 1)) (digit_small xs (8 * (i / 8) + 2)) (digit_small xs (8 * (i / 8) + 3))
        (digit_small xs (8 * (i / 8) + 4)) (digit_small xs (8 * (i / 8) + 5)) (digit_small xs (8 * (i / 8) + 6)) (digit_small xs (8 * (i / 8) + 7))
        (digit_small ys (8 * (i / 8))) (digit_small ys (8 * (i / 8) + 1)) (digit_small ys (8 * (i / 8) + 2)) (digit_small ys (8 * (i / 8) + 3))
        (digit_small ys (8 * (i / 8) + 4)) (digit_small ys (8 * (i / 8) + 5)) (digit_small ys (8 * (i / 8) + 6)) (digit_small ys (8 * (i / 8) + 7)) e in
        record { b0 = sym (first xs) ∙ r.0 ∙ first ys; b1 = r.1; b2 = r.2; b3 = r.3; b4 = r.4; b5 = r.5; b6 = r.6; b7 = r.7 }

    go : Dec (i / 8 < (length xs + 7) / 8) → get_or xs i false ≡ get_or ys i false
    go (yes l) = digit_same _ _ (subst⁻¹ (λ (x : ℕ). digit xs x ≡ digit ys x) at
        (eight_at (λ j. digit xs (8 * (i / 8) + j) ≡ digit ys (8 * (i / 8) + j)) (digits bytes_at) (i % 8) (omega arith)))
      where
        bytes_at : byte xs (i / 8) ≡ byte ys (i / 8)
        bytes_at = sym (get_or-map-range_with_len (byte xs) 0 ((length xs + 7) / 8) (i / 8) (i / 8) 0 l (omega arith))
            ∙ ap (λ (z : List ℕ). get_or z (i / 8) 0) h ∙ get_or-map-range_with_len (byte ys) 0 ((length ys + 7) / 8) (i / 8) (i / 8) 0 (omega (arith, counts))
            (omega arith)
    go (no n) = get_or-eq_default xs false (omega arith) ∙ sym (get_or-eq_default ys false (omega (arith, counts)))

field_same : (k m n : ℕ) → m < 2 ^ k → n < 2 ^ k → field k m ≡ field k n → m ≡ n
field_same k m n p q h = sym (mod-eq_of_lt p) ∙ field_mod k m n h ∙ mod-eq_of_lt q

pub length_each : (n c : ℕ) (f : ℕ → List Bool) → ((k : ℕ) → length (f k) ≡ c) → length (each_below n f) ≡ n * c
unfolding each_below
length_each zero c f h = omega arith
length_each (suc n) c f h = length-append (each_below n f) (f n) ∙ ap₂ {C = ℕ} ◌+◌ (length_each n c f h) (h n) ∙ sym (native.Mathlib.Nat.suc-mul n c)

each_split : (n c : ℕ) (f g : ℕ → List Bool) → ((k : ℕ) → length (f k) ≡ c) → ((k : ℕ) → length (g k) ≡ c) → each_below n f ≡ each_below n g → (k : ℕ) →
    k < n → f k ≡ g k
unfolding each_below
each_split zero c f g p q h k l = absurd (omega arith)
each_split (suc n) c f g p q h k l = go (λ m. each_split n c f g p q parts.0 k m) (dec_lt k n)
  where
    parts : (each_below n f ≡ each_below n g) × (f n ≡ g n)
    parts = split (each_below n f) (each_below n g) (f n) (g n) (length_each n c f p ∙ sym (length_each n c g q)) (p n ∙ sym (q n)) h

    go : (k < n → f k ≡ g k) → Dec (k < n) → f k ≡ g k
    go ih (yes m) = ih m
    go ih (no m) = let e : n ≡ k = omega arith in subst (λ (x : ℕ). f x ≡ g x) e parts.1

pub length_exit : (o : Option ℕ) → length (exit_bits o) ≡ 13
length_exit None = length_field 13 0
length_exit (Some j) = ap suc (length_field 12 j)

exit_same : (o o' : Option ℕ) → ((j : ℕ) → o ≡ Some j → j < 4096) → ((j : ℕ) → o' ≡ Some j → j < 4096) → exit_bits o ≡ exit_bits o' → o ≡ o'
exit_same None None p q h = refl
exit_same None (Some j) p q h = absurd (false≢true (head_same false true (field 12 0) (field 12 j) h).0)
exit_same (Some j) None p q h = absurd (true≢false (head_same true false (field 12 j) (field 12 0) h).0)
exit_same (Some i) (Some j) p q h = ap {B = Option ℕ} Some (field_same 12 i j (p i refl) (q j refl) (head_same true true (field 12 i) (field 12 j) h).1)

length_row : (rules : Rules) (top : ℕ) (t : Table) (r : ℕ) → length (row_bits rules top t r) ≡ suc top * 1 + rules.events * 13
length_row rules top t r = length-append (each_below (suc top) (λ n. t.set r n ∷ [])) _ ∙ ap₂ {C = ℕ} ◌+◌
    (length_each (suc top) 1 (λ n. t.set r n ∷ []) (λ n. refl))
    (length_each rules.events 13 (λ k. exit_bits (t.exit r (suc k))) (λ k. length_exit (t.exit r (suc k))))

stage_same : (x y : Bool) (m n : ℕ) → (x ≡ true → m ≤ 7) → (y ≡ true → n ≤ 7) → x ∷ field 3 (cond x m 0) ≡ y ∷ field 3 (cond y n 0) →
    (x ≡ y) × (x ≡ true → m ≡ n)
stage_same true true m n p q h = (
  refl,
  λ e. field_same 3 m n (let z = p refl in omega arith) (let z = q refl in omega arith)
      (head_same true true (field 3 m) (field 3 n) h).1,
)
stage_same true false m n p q h = absurd (true≢false (head_same true false (field 3 m) (field 3 0) h).0)
stage_same false true m n p q h = absurd (false≢true (head_same false true (field 3 0) (field 3 n) h).0)
stage_same false false m n p q h = (refl, λ e. absurd (false≢true e))

path_live : {W : ℕ} {rules : Rules} → WellFormed W rules → {s n : ℕ} {w : List ℕ} → Path rules s w n → rules.live s ≡ true → rules.live n ≡ true
path_live g stay h = h
path_live g (silent a p) h = path_live g p (g.arc_fits _ _ _ a).1
path_live g (event k a p) h = path_live g p (g.arc_fits _ _ _ a).1

path_word : {W : ℕ} {rules : Rules} → WellFormed W rules → {s n : ℕ} {w : List ℕ} → Path rules s w n → Word rules w
path_word g stay = tt
path_word g (silent a p) = path_word g p
path_word g (event k a p) = ((k, (g.arc_fits _ _ _ a).2), path_word g p)

-- a number above 0 is one more than another
pub pred_of : (e : ℕ) → 0 < e → (k : ℕ) × (e ≡ suc k)
pred_of zero h = absurd (omega arith)
pred_of (suc k) h = (k, refl)

-- two tables by place with the same rows and exits
record Twins (a b : Rules) (t u : Table) (N : ℕ) : Type 0 where
  events : a.events ≡ b.events
  start : t.start ≡ u.start
  places : (r : ℕ) → (t.used r ≡ true) ↔ (r < N)
  sets : (r n : ℕ) → r < N → t.set r n ≡ u.set r n
  exits : (r e : ℕ) → r < N → Event a e → t.exit r e ≡ u.exit r e

module _ (a b : Rules) (t u : Table) (N : ℕ) (good : Rows a t) (good' : Rows b u) (twins : Twins a b t u N) where
  twin_onward : (w : List ℕ) (r : ℕ) → r < N → Word a w → onward t w (Some r) ≡ onward u w (Some r)
  twin_onward [] r h k = refl
  twin_onward (e ∷ w) r h k = go (λ q l. twin_onward w q l k.1) (t.exit r e) refl ∙ ap (onward u w) (twins.exits r e h k.0)
    where
      go : ((q : ℕ) → q < N → onward t w (Some q) ≡ onward u w (Some q)) → (o : Option ℕ) → t.exit r e ≡ o → onward t w o ≡ onward u w o
      go ih None l = none w
        where
          none : (w : List ℕ) → onward t w None ≡ onward u w None
          none [] = refl
          none (f ∷ v) = refl
      go ih (Some q) l = ih q ((twins.places q).0 (good.exit_row r e q ((twins.places r).1 h) k.0 l).0)

  twin_word : (w : List ℕ) → Word a w → Word b w
  twin_word [] k = tt
  twin_word (e ∷ w) k = ((k.0.0, rw twins.events at k.0.1), twin_word w k.1)

  twin_reach : (w : List ℕ) (n : ℕ) → Word a w → R a w n → R b w n
  twin_reach w n k p = go (leads t w) refl (leads_finds a t good w k)
    where
      same : leads t w ≡ leads u w
      same = twin_onward w t.start ((twins.places t.start).0 good.start_used) k ∙ ap (λ (r : ℕ). onward u w (Some r)) twins.start

      go : (o : Option ℕ) → leads t w ≡ o → Finds t (R a w) o → R b w n
      go None l f = absurd (f n p)
      go (Some r) l f = ((subst (Finds u (R b w)) (sym same ∙ l) (leads_finds b u good' w (twin_word w k))).1 n).0
          (sym (twins.sets r n ((twins.places r).0 f.0)) ∙ (f.1 n).1 p)

module _ (V W : ℕ) (a b : Rules) (x y : List ℕ) (v : V ≤ 256) (w : W ≤ 256) (wa : WellFormed V a) (wb : WellFormed W b) (p : Image a x) (q : Image b y) (e : x ≡ y) where
  header_rest : (header_bits a.events p.top p.count ≡ header_bits b.events q.top q.count)
      × Agree (each_below (suc p.top) (stage_bits a) ++ each_below p.count (row_bits a p.top p.by_place))
      (each_below (suc q.top) (stage_bits b) ++ each_below q.count (row_bits b q.top q.by_place))
  header_rest = agree_append (header_bits a.events p.top p.count) (header_bits b.events q.top q.count) _ _ refl
      (bytes_agree (image_bits a p.top p.count p.by_place) (image_bits b q.top q.count q.by_place) (sym p.is ∙ e ∙ q.is))

  after_version : (field 4 a.events ≡ field 4 b.events) × (field 8 p.top ++ field 12 (p.count - 1) ≡ field 8 q.top ++ field 12 (q.count - 1))
  after_version = split (field 4 a.events) (field 4 b.events) _ _ refl refl (split (field 4 1) (field 4 1) _ _ refl refl header_rest.0).1

  after_events : (field 8 p.top ≡ field 8 q.top) × (field 12 (p.count - 1) ≡ field 12 (q.count - 1))
  after_events = split (field 8 p.top) (field 8 q.top) _ _ refl refl after_version.1

  events_same : a.events ≡ b.events
  events_same = field_same 4 a.events b.events (let h = wa.few_events in omega arith) (let h = wb.few_events in omega arith) after_version.0

  tops : p.top ≡ q.top
  tops = field_same 8 p.top q.top (let h = wa.few_stages p.top p.highest.is_live in omega arith)
      (let h = wb.few_stages q.top q.highest.is_live in omega arith) after_events.0

  some_rows : (rules : Rules) (t : Table) (N : ℕ) (ws : List (List ℕ)) → InOrder rules t N ws → 0 < N
  some_rows rules t N ws o = let h = (o.places t.start).0 o.rows.start_used in omega arith

  counts : p.count ≡ q.count
  counts = let h = field_same 12 (p.count - 1) (q.count - 1) (let l = p.few in omega arith) (let l = q.few in omega arith) after_events.1 in
      let k = some_rows a p.by_place p.count p.words p.in_order in
      let l = some_rows b q.by_place q.count q.words q.in_order in omega arith

  stages_rows : (each_below (suc p.top) (stage_bits a) ≡ each_below (suc q.top) (stage_bits b))
      × Agree (each_below p.count (row_bits a p.top p.by_place)) (each_below q.count (row_bits b q.top q.by_place))
  stages_rows = agree_append (each_below (suc p.top) (stage_bits a)) (each_below (suc q.top) (stage_bits b)) _ _
      (length_each (suc p.top) 4 (stage_bits a) (λ n. refl) ∙ ap (λ (n : ℕ). suc n * 4) tops ∙ sym (length_each (suc q.top) 4 (stage_bits b) (λ n. refl)))
      header_rest.1

  stage_at : (n : ℕ) → n ≤ p.top → (a.live n ≡ b.live n) × (a.live n ≡ true → a.mark n ≡ b.mark n)
  stage_at n h = stage_same (a.live n) (b.live n) (a.mark n) (b.mark n) (wa.small_mark n) (wb.small_mark n)
      (each_split (suc p.top) 4 (stage_bits a) (stage_bits b) (λ n. refl) (λ n. refl)
      (stages_rows.0 ∙ ap (λ (m : ℕ). each_below (suc m) (stage_bits b)) (sym tops)) n (omega arith))

  live_same : (n : ℕ) → a.live n ≡ b.live n
  live_same n = go (dec_le n p.top)
    where
      go : Dec (n ≤ p.top) → a.live n ≡ b.live n
      go (yes h) = (stage_at n h).0
      go (no h) = both _ _ (λ l. absurd (h (p.highest.last n l)), λ l. let m = q.highest.last n l in absurd (h (omega (arith, tops))))

  rows_same : each_below p.count (row_bits a p.top p.by_place) ≡ each_below p.count (row_bits b p.top q.by_place)
  rows_same = agree_same _ _
      (length_each p.count _ (row_bits a p.top p.by_place) (length_row a p.top p.by_place)
      ∙ (λ i. counts i * (suc (tops i) * 1 + events_same i * 13))
      ∙ sym (length_each q.count _ (row_bits b q.top q.by_place) (length_row b q.top q.by_place))) stages_rows.1
      ∙ sym (ap₂ {C = List Bool} (λ N top. each_below N (row_bits b top q.by_place)) counts tops)

  row_at : (r : ℕ) → r < p.count → row_bits a p.top p.by_place r ≡ row_bits b p.top q.by_place r
  row_at r h = each_split p.count (suc p.top * 1 + a.events * 13) (row_bits a p.top p.by_place) (row_bits b p.top q.by_place)
      (length_row a p.top p.by_place) (λ k. length_row b p.top q.by_place k ∙ ap (λ (E : ℕ). suc p.top * 1 + E * 13)
      (sym events_same)) rows_same r h

  row_parts : (r : ℕ) → r < p.count → (each_below (suc p.top) (λ n. p.by_place.set r n ∷ []) ≡ each_below (suc p.top) (λ n. q.by_place.set r n ∷ []))
      × (each_below a.events (λ k. exit_bits (p.by_place.exit r (suc k))) ≡ each_below b.events (λ k. exit_bits (q.by_place.exit r (suc k))))
  row_parts r h = split (each_below (suc p.top) (λ n. p.by_place.set r n ∷ [])) (each_below (suc p.top) (λ n. q.by_place.set r n ∷ [])) _ _
      (length_each (suc p.top) 1 (λ n. p.by_place.set r n ∷ []) (λ n. refl) ∙ sym
      (length_each (suc p.top) 1 (λ n. q.by_place.set r n ∷ []) (λ n. refl)))
      (length_each a.events 13 (λ k. exit_bits (p.by_place.exit r (suc k))) (λ k. length_exit (p.by_place.exit r (suc k))) ∙ ap
      (λ (E : ℕ). E * 13) events_same
      ∙ sym (length_each b.events 13 (λ k. exit_bits (q.by_place.exit r (suc k))) (λ k. length_exit (q.by_place.exit r (suc k)))))
      (row_at r h)

  here_there : (r : ℕ) → r < p.count → r < q.count
  here_there r h = omega (arith, counts)

  set_same : (r n : ℕ) → r < p.count → p.by_place.set r n ≡ q.by_place.set r n
  set_same r n h = go (dec_le n p.top)
    where
      go : Dec (n ≤ p.top) → p.by_place.set r n ≡ q.by_place.set r n
      go (yes l) = (head_same _ _ [] [] (each_split (suc p.top) 1 (λ n. p.by_place.set r n ∷ []) (λ n. q.by_place.set r n ∷ []) (λ n. refl) (λ n. refl)
          (row_parts r h).0 n (omega arith))).0
      go (no l) = both _ _ (
        λ s. absurd (l (p.highest.last n (path_live wa ((word_holds a p.by_place p.count p.words p.in_order r h n).0 s) wa.start_live))),
        λ s. let m = q.highest.last n (path_live wb ((word_holds b q.by_place q.count q.words q.in_order r (here_there r h) n).0 s)
            wb.start_live) in
            absurd (l (omega (arith, tops))),
      )

  exit_at : (r f : ℕ) → r < p.count → Event a f → p.by_place.exit r f ≡ q.by_place.exit r f
  exit_at r f h k = let z = pred_of f k.0 in subst⁻¹ (λ (g : ℕ). p.by_place.exit r g ≡ q.by_place.exit r g) z.1
      (same z.0 (let l = k.1 in let m = z.1 in omega arith))
    where
      same : (g : ℕ) → g < a.events → p.by_place.exit r (suc g) ≡ q.by_place.exit r (suc g)
      same g l = exit_same (p.by_place.exit r (suc g)) (q.by_place.exit r (suc g))
          (λ j m. let i = (p.in_order.places j).0 (p.in_order.rows.exit_row r (suc g) j ((p.in_order.places r).1 h) (omega arith, l) m).0 in
          let w = p.few in omega arith)
          (λ j m. let i = (q.in_order.places j).0 (q.in_order.rows.exit_row r (suc g) j ((q.in_order.places r).1 (here_there r h))
          (omega arith, omega (arith, events_same)) m).0 in
          let w = q.few in omega arith)
          (each_split a.events 13 (λ k. exit_bits (p.by_place.exit r (suc k))) (λ k. exit_bits (q.by_place.exit r (suc k)))
          (λ k. length_exit (p.by_place.exit r (suc k))) (λ k. length_exit (q.by_place.exit r (suc k)))
          ((row_parts r h).1 ∙ ap (λ (E : ℕ). each_below E (λ k. exit_bits (q.by_place.exit r (suc k)))) (sym events_same)) g l)

  twins : Twins a b p.by_place q.by_place p.count
  twins = record {
    events = events_same;
    start = p.in_order.start ∙ sym q.in_order.start;
    places = p.in_order.places;
    sets = set_same;
    exits = exit_at;
  }

  twins_back : Twins b a q.by_place p.by_place p.count
  twins_back = record {
    events = sym events_same;
    start = sym (p.in_order.start ∙ sym q.in_order.start);
    places = λ r. (λ u. let l = (q.in_order.places r).0 u in omega (arith, counts), λ l. (q.in_order.places r).1 (here_there r l));
    sets = λ r n h. sym (set_same r n h);
    exits = λ r f h k. sym (exit_at r f h (k.0, subst⁻¹ (λ (E : ℕ). f ≤ E) events_same k.1));
  }

  pub told : TellsSame a b
  told = record {
    events = events_same;
    live = live_same;
    mark = λ n l. (stage_at n (p.highest.last n l)).1 l;
    reach = λ w n. (
      λ z. twin_reach a b p.by_place q.by_place p.count p.in_order.rows q.in_order.rows twins w n (path_word wa z) z,
      λ z. twin_reach b a q.by_place p.by_place p.count q.in_order.rows p.in_order.rows twins_back w n (path_word wb z) z,
    );
  }

pub equal_images : (V W : ℕ) (a b : Rules) (x y : List ℕ) → V ≤ 256 → W ≤ 256 → WellFormed V a → WellFormed W b → Image a x → Image b y →
    (x ≡ y) ↔ TellsSame a b
equal_images V W a b x y v w wa wb p q = (told V W a b x y v w wa wb p q, λ tells. one_image a b x y tells p q)
