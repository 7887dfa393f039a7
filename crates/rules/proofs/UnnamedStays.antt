-- What no altered arc names stays, and a pair is named by its exit before the update exactly if it is by its exit after.
use Rattle.std.proofs.Common.{◌≡◌, ℕ, Bool, true, false, ◌⊎◌, ◌↔◌, [], Some, None, Option, sym, refl, ap, ◌∙◌, subst, inl, inr, true≢false}
use mathlib.Core.Path.{subst⁻¹, fun_ext}
use mathlib.Core.Bool.{false≢true}
use Rattle.rules.specs.Rules.{Rules}
use Rattle.rules.specs.Paths.{Stages, Path, Exit, Same, Event}
use Rattle.rules.specs.Paths.Path.{stay, silent}
use Rattle.rules.specs.Table.{Table, Rows, Sound}
use Rattle.rules.specs.Alteration.{Leaves, Named, KeptRow, KeepsNumbers, SameStep, Altered}
use Rattle.rules.proofs.PathParts.{extend}
use Rattle.rules.proofs.Booleans.{both}
use Rattle.std.proofs.lemmas.Option.{none-some, same_Some}

stable : (a b : Bool) → ((a ≡ b → ⊥) → ⊥) → a ≡ b
stable true true h = refl
stable true false h = absurd (h (λ e. true≢false e))
stable false true h = absurd (h (λ e. false≢true e))
stable false false h = refl

module _ (old new : Rules) (S : Stages) (e : ℕ) (free : Named old new S e → ⊥) where
  same_arc : {m n : ℕ} → S m ≡ true → old.arc m e n ≡ new.arc m e n
  same_arc {m} {n} s = stable _ _ (λ d. free (inl (m, n, s, d)))

  same_silent : {m : ℕ} (n : ℕ) → Exit old S e m → old.arc m 0 n ≡ new.arc m 0 n
  same_silent {m} n x = stable _ _ (λ d. free (inr (m, n, x, d)))

  further : {m n : ℕ} → Exit old S e m → old.arc m 0 n ≡ true → Exit old S e n
  further x a = (x.0, x.1, x.2, x.3, extend x.4 (silent a stay))

  forth : {m n : ℕ} → Path old m [] n → Exit old S e m → Path new m [] n
  forth stay x = stay
  forth (silent {t = t} a p) x = silent (sym (same_silent t x) ∙ a) (forth p (further x a))

  back : {m n : ℕ} → Path new m [] n → Exit old S e m → Path old m [] n
  back stay x = stay
  back (silent {t = t} a p) x = let b = same_silent t x ∙ a in silent b (back p (further x b))

  pub same_exit : Same (Exit old S e) (Exit new S e)
  same_exit n = (
    λ x. (x.0, x.1, x.2, sym (same_arc x.2) ∙ x.3, forth x.4 (x.0, x.1, x.2, x.3, stay)),
    λ y. let a = same_arc y.2 ∙ y.3 in (y.0, y.1, y.2, a, back y.4 (y.0, y.1, y.2, a, stay)),
  )

module _ (old new : Rules) (t u : Table) (before : Rows old t) (after : Rows new u) (keeps : KeepsNumbers t u)
    (r e : ℕ) (kept : KeptRow t u r) (is-old : Event old e) (is_new : Event new e)
    (exits : Same (Exit old (t.set r) e) (Exit new (u.set r) e)) where
  kept_exit : (p q : ℕ) → t.exit r e ≡ Some p → u.exit r e ≡ Some q → (p ≡ q) × KeptRow t u p
  kept_exit p q h k =
      let a = before.exit_row r e p kept.before is-old h in
      let b = after.exit_row r e q kept.after is_new k in
      let same : (n : ℕ) → t.set p n ≡ u.set q n = λ n. both _ _ (λ s. (b.1 n).1 ((exits n).0 ((a.1 n).0 s)), λ s. (a.1 n).1 ((exits n).1 ((b.1 n).0 s))) in
      let p≡q = keeps p q a.0 b.0 same in
      (p≡q, record { before = a.0; after = rw p≡q b.0; same = λ n. same n ∙ ap (λ x. u.set x n) (sym p≡q) })

  pub steps : (o o' : Option ℕ) → t.exit r e ≡ o → u.exit r e ≡ o' → (o ≡ o') × ((q : ℕ) → o ≡ Some q → KeptRow t u q)
  steps None None h k = (refl, λ q z. absurd (none-some _ z))
  steps None (Some q) h k =
      let b = after.exit_row r e q kept.after is_new k in
      let i = after.inhabited q b.0 in
      absurd (before.no_exit r e kept.before is-old h i.0 ((exits i.0).1 ((b.1 i.0).0 i.1)))
  steps (Some p) None h k =
      let a = before.exit_row r e p kept.before is-old h in
      let i = before.inhabited p a.0 in
      absurd (after.no_exit r e kept.after is_new k i.0 ((exits i.0).0 ((a.1 i.0).0 i.1)))
  steps (Some p) (Some q) h k =
      let g = kept_exit p q h k in
      (ap {B = Option ℕ} Some g.0, λ x z. subst (KeptRow t u) (same_Some _ _ z) g.1)

-- a kept row steps the same exactly if its exits are the same
module _ (old new : Rules) (t u : Table) (sound : Sound old t) (sound' : Sound new u) (events : old.events ≡ new.events) (keeps : KeepsNumbers t u)
    (r e : ℕ) (kept : KeptRow t u r) (is_event : Event old e) where
  moved : Same (Exit old (t.set r) e) (Exit new (t.set r) e) → Same (Exit old (t.set r) e) (Exit new (u.set r) e)
  moved = subst (λ (S : Stages). Same (Exit old (t.set r) e) (Exit new S e)) (fun_ext kept.same)

  pub exits_step : Same (Exit old (t.set r) e) (Exit new (t.set r) e) → SameStep t u r e
  exits_step x = steps old new t u sound.rows sound'.rows keeps r e kept is_event (rw events at is_event) (moved x) (t.exit r e) (u.exit r e) refl refl

  pub step_exits : SameStep t u r e → Same (Exit old (t.set r) e) (Exit new (t.set r) e)
  step_exits s = subst⁻¹ (λ (S : Stages). Same (Exit old (t.set r) e) (Exit new S e)) (fun_ext kept.same) (go (t.exit r e) refl)
    where
      is_new : Event new e
      is_new = rw events at is_event

      go : (o : Option ℕ) → t.exit r e ≡ o → Same (Exit old (t.set r) e) (Exit new (u.set r) e)
      go None h n = (
        λ x. absurd (sound.rows.no_exit r e kept.before is_event h n x),
        λ x. absurd (sound'.rows.no_exit r e kept.after is_new (sym s.0 ∙ h) n x),
      )
      go (Some q) h n =
          let a = sound.rows.exit_row r e q kept.before is_event h in
          let b = sound'.rows.exit_row r e q kept.after is_new (sym s.0 ∙ h) in
          let k = (s.1 q h).same n in
          (λ x. (b.1 n).0 (sym k ∙ (a.1 n).1 x), λ x. (a.1 n).0 (k ∙ (b.1 n).1 x))

pub unnamed_stays : (old new : Rules) (t u : Table) → Sound old t → Sound new u → old.events ≡ new.events → KeepsNumbers t u →
    (r e : ℕ) → KeptRow t u r → Event old e → (Named old new (t.set r) e → ⊥) →
    Same (Exit old (t.set r) e) (Exit new (t.set r) e) × SameStep t u r e
unnamed_stays old new t u sound sound' events keeps r e kept is_event free =
    let exits = same_exit old new (t.set r) e free in
    (exits, exits_step old new t u sound sound' events keeps r e kept is_event exits)

-- where the exits of a set by an event in two books differ, an altered arc leads there
module _ (a b : Rules) (S : Stages) (e : ℕ) where
  walk : {t m : ℕ} → Path a t [] m → Exit b S e t → (n : ℕ) → Altered a b m 0 n → Leaves a b (Exit b S e) 0
  walk stay x n d = (_, n, x, d)
  walk (silent {s = s} {t = u} k p) x n d = go (λ y. walk p y n d) (b.arc s 0 u) refl
    where
      go : (Exit b S e u → Leaves a b (Exit b S e) 0) → (v : Bool) → b.arc s 0 u ≡ v → Leaves a b (Exit b S e) 0
      go ih true h = ih (x.0, x.1, x.2, x.3, extend x.4 (silent h stay))
      go ih false h = (s, u, x, λ q. true≢false (sym k ∙ q ∙ h))

  across : Leaves a b (λ m. S m ≡ true) e ⊎ Leaves a b (Exit a S e) 0 → Leaves a b (λ m. S m ≡ true) e ⊎ Leaves a b (Exit b S e) 0
  across (inl l) = inl l
  across (inr (m, n, x, d)) = go (b.arc x.0 e x.1) refl
    where
      go : (v : Bool) → b.arc x.0 e x.1 ≡ v → Leaves a b (λ m. S m ≡ true) e ⊎ Leaves a b (Exit b S e) 0
      go true h = inr (walk x.4 (x.0, x.1, x.2, h, stay) n d)
      go false h = inl (x.0, x.1, x.2, λ q. true≢false (sym x.3 ∙ q ∙ h))

turned_round : (old new : Rules) (P : ℕ → Type 0) (e : ℕ) → Leaves old new P e → Leaves new old P e
turned_round old new P e (m, n, p, d) = (m, n, p, λ q. d (sym q))

pub before_or_after : (old new : Rules) (S : Stages) (e : ℕ) →
    Named old new S e ↔ (Leaves old new (λ m. S m ≡ true) e ⊎ Leaves old new (Exit new S e) 0)
before_or_after old new S e = (across old new S e, λ l. back (across new old S e (over l)))
  where
    over : Leaves old new (λ m. S m ≡ true) e ⊎ Leaves old new (Exit new S e) 0 → Leaves new old (λ m. S m ≡ true) e ⊎ Leaves new old (Exit new S e) 0
    over (inl l) = inl (turned_round old new (λ m. S m ≡ true) e l)
    over (inr l) = inr (turned_round old new (Exit new S e) 0 l)

    back : Leaves new old (λ m. S m ≡ true) e ⊎ Leaves new old (Exit old S e) 0 → Named old new S e
    back (inl l) = inl (turned_round new old (λ m. S m ≡ true) e l)
    back (inr l) = inr (turned_round new old (Exit old S e) 0 l)
