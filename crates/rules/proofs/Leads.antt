-- Where lists of events lead in a table whose rows are right.
use Rattle.std.proofs.Common.{◌≡◌, ℕ, ◌<◌, ◌≤◌, true, ◌↔◌, List, [], ◌∷◌, Some, None, Option, sym, refl, ap, ◌∙◌, subst}
use native.Mathlib.Decide.{dec_lt, dec_le}
use Rattle.rules.specs.Rules.{Rules}
use Rattle.rules.specs.Paths.{Stages, R, Exit, Holds, Same, Empty, Inhabited, Event, Word, Closed, From, FollowerLaws}
use Rattle.rules.specs.Paths.Path.{stay, event}
use Rattle.rules.specs.Table.{Table, onward, leads, Rows, Sound, Follows}
use Rattle.std.proofs.lemmas.Option.{none-some}
use Rattle.rules.proofs.Booleans.{both}
use Rattle.rules.proofs.PathParts.{join, spelled, closed_path, reach_closed, exit_closed}

pub dec_event : (rules : Rules) (e : ℕ) → Dec (Event rules e)
dec_event rules e = go (dec_lt 0 e) (dec_le e rules.events)
  where
    go : Dec (0 < e) → Dec (e ≤ rules.events) → Dec (Event rules e)
    go (yes a) (yes b) = yes (a, b)
    go (yes a) (no b) = no (λ h. b h.1)
    go (no a) (yes b) = no (λ h. a h.0)
    go (no a) (no b) = no (λ h. a h.0)

-- an answer that is right for the stages P
abbrev pub Finds : Table → (ℕ → Type 0) → Option ℕ → Type 0
Finds t P None = Empty P
Finds t P (Some r) = (t.used r ≡ true) × Holds (t.set r) P

pub finds_same : (t : Table) {P Q : ℕ → Type 0} (o : Option ℕ) → Same P Q → Finds t P o → Finds t Q o
finds_same t None h f = λ n q. f n ((h n).1 q)
finds_same t (Some r) h f = (f.0, λ n. (λ s. (h n).0 ((f.1 n).0 s), λ q. (f.1 n).1 ((h n).1 q)))

pub onward_none : (t : Table) (w : List ℕ) → onward t w None ≡ None
onward_none t [] = refl
onward_none t (e ∷ w) = refl

-- an event more in front
from_exit : (rules : Rules) (S : Stages) (e : ℕ) {T : Stages} {w : List ℕ} → Closed rules S → 0 < e → Holds T (Exit rules S e) →
    Same (From rules T w) (From rules S (e ∷ w))
from_exit rules S e c p h n = (
  λ x. let y = (h _).0 x.1 in (y.0, y.2, event p y.3 (join y.4 x.2)),
  λ x. let y = spelled x.2 in (y.1, (h _).1 (y.0, y.1, closed_path c y.2 x.1, y.4, stay), y.5),
)

pub follower_stands : (rules : Rules) (S : Stages) → Closed rules S → FollowerLaws rules S
follower_stands rules S c = record {
  now_here = λ n. (λ x. closed_path c x.2 x.1, λ s. (n, s, stay));
  moved_on = λ e T p h. (exit_closed rules S e h, λ w. from_exit rules S e c p h);
  nowhere = λ e p h w n x. let y = spelled x.2 in h y.1 (y.0, y.1, closed_path c y.2 x.1, y.4, stay);
}

module _ (rules : Rules) (t : Table) (good : Rows rules t) where
  pub onward_finds : (w : List ℕ) (r : ℕ) → t.used r ≡ true → Closed rules (t.set r) → Word rules w →
      Finds t (From rules (t.set r) w) (onward t w (Some r))
  onward_finds [] r u c k = (u, λ n. (λ s. (n, s, stay), λ x. closed_path c x.2 x.1))
  onward_finds (e ∷ w) r u c k = go (λ q v d. onward_finds w q v d k.1) (t.exit r e) refl
    where
      go : ((q : ℕ) → t.used q ≡ true → Closed rules (t.set q) → Finds t (From rules (t.set q) w) (onward t w (Some q))) →
          (o : Option ℕ) → t.exit r e ≡ o → Finds t (From rules (t.set r) (e ∷ w)) (onward t w o)
      go ih None h = rw (onward_none t w) (λ n x. let y = spelled x.2 in good.no_exit r e u k.0 h y.1
          (y.0, y.1, closed_path c y.2 x.1, y.4, stay))
      go ih (Some q) h = let g = good.exit_row r e q u k.0 h in
          finds_same t (onward t w (Some q)) (from_exit rules (t.set r) e c k.0.0 g.1) (ih q g.0 (exit_closed rules (t.set r) e g.1))

  start_closed : Closed rules (t.set t.start)
  start_closed = reach_closed good.start_set

  from_start : (w : List ℕ) → Same (From rules (t.set t.start) w) (R rules w)
  from_start w n = (λ x. join ((good.start_set _).0 x.1) x.2, λ p. (0, (good.start_set 0).1 stay, p))

  pub leads_finds : (w : List ℕ) → Word rules w → Finds t (R rules w) (leads t w)
  leads_finds w k = finds_same t (leads t w) (from_start w) (onward_finds w t.start good.start_used start_closed k)

  pub same_row : (r q : ℕ) (P Q : ℕ → Type 0) → t.used r ≡ true → t.used q ≡ true → Holds (t.set r) P → Holds (t.set q) Q → Same P Q → r ≡ q
  same_row r q P Q u v h k s = good.apart r q u v (λ n. both _ _ (λ a. (k n).1 ((s n).0 ((h n).0 a)), λ b. (h n).1 ((s n).1 ((k n).0 b))))

  pub leads_some : (w : List ℕ) (r : ℕ) → Word rules w → leads t w ≡ Some r → (t.used r ≡ true) × Holds (t.set r) (R rules w)
  leads_some w r k h = subst (Finds t (R rules w)) h (leads_finds w k)

  pub leads_to : (w : List ℕ) (r : ℕ) → t.used r ≡ true → Word rules w → Holds (t.set r) (R rules w) → leads t w ≡ Some r
  leads_to w r u k h = go (leads t w) (leads_finds w k)
    where
      go : (o : Option ℕ) → Finds t (R rules w) o → o ≡ Some r
      go None f = let i = good.inhabited r u in absurd (f i.0 ((h i.0).0 i.1))
      go (Some q) f = ap {B = Option ℕ} Some (same_row q r (R rules w) (R rules w) f.0 u f.1 h (λ n. (λ p. p, λ p. p)))

  leads_inhabited : (w : List ℕ) (r : ℕ) → Word rules w → leads t w ≡ Some r → Inhabited (R rules w)
  leads_inhabited w r k h = let g = leads_some w r k h in let i = good.inhabited r g.0 in (i.0, (g.1 i.0).0 i.1)

  leads_nowhere : (w : List ℕ) → Word rules w → (leads t w ≡ None) ↔ Empty (R rules w)
  leads_nowhere w k = (λ h. subst (Finds t (R rules w)) h (leads_finds w k), go (leads t w) refl)
    where
      go : (o : Option ℕ) → leads t w ≡ o → Empty (R rules w) → o ≡ None
      go None h e = refl
      go (Some r) h e = let i = leads_inhabited w r k h in absurd (e i.0 i.1)

  pub onward_word : (w : List ℕ) (r q : ℕ) → t.used r ≡ true → onward t w (Some r) ≡ Some q → Word rules w
  onward_word [] r q u h = tt
  onward_word (e ∷ w) r q u h = go (λ p v k. onward_word w p q v k) (dec_event rules e)
    where
      is_event : ((p : ℕ) → t.used p ≡ true → onward t w (Some p) ≡ Some q → Word rules w) → Event rules e →
          (o : Option ℕ) → t.exit r e ≡ o → onward t w o ≡ Some q → Event rules e × Word rules w
      is_event ih y None g k = absurd (none-some _ (sym (onward_none t w) ∙ k))
      is_event ih y (Some p) g k = (y, ih p (good.exit_row r e p u y g).0 k)

      go : ((p : ℕ) → t.used p ≡ true → onward t w (Some p) ≡ Some q → Word rules w) → Dec (Event rules e) → Event rules e × Word rules w
      go ih (yes y) = is_event ih y (t.exit r e) refl h
      go ih (no n) = absurd (none-some _ (sym (ap (onward t w) (good.no_event r e u n) ∙ onward_none t w) ∙ h))

pub follows_stands : (rules : Rules) (t : Table) → Sound rules t → Follows rules t
follows_stands rules t sound = record {
  reached = λ w r k h. let g = leads_some rules t sound.rows w r k h in (g.0, g.1, leads_inhabited rules t sound.rows w r k h);
  nowhere = leads_nowhere rules t sound.rows;
  led_to = sound.near;
  shortest = λ r w u k h. let l = leads_to rules t sound.rows w r u k h in (l, sound.nearest r w u k l);
  one_row = λ v w r q k l h i s. let g = leads_some rules t sound.rows v r k h in let f = leads_some rules t sound.rows w q l i in
      same_row rules t sound.rows r q (R rules v) (R rules w) g.0 f.0 g.1 f.1 s;
  declined = λ w r h. onward_word rules t sound.rows w t.start r sound.rows.start_used h;
}
