-- Two rule books, before and after an update, the arcs that it altered, and the pairs of a set and an event that these arcs name.
use Rattle.std.specs.Prelude.{◌≡◌, ℕ, true, ◌⊎◌, ◌↔◌, Some}
use Rattle.rules.specs.Rules.{Rules}
use Rattle.rules.specs.Paths.{Stages, Exit, Same, Event}
use Rattle.rules.specs.Table.{Table, Sound}

-- The arc stands in just one of the two books.
abbrev pub Altered : Rules → Rules → ℕ → ℕ → ℕ → Type 0
Altered old new m e n = (old.arc m e n ≡ new.arc m e n) → ⊥

-- An altered arc of that label leaves a stage of P.
abbrev pub Leaves : Rules → Rules → (ℕ → Type 0) → ℕ → Type 0
Leaves old new P e = (m : ℕ) × (n : ℕ) × P m × Altered old new m e n

-- The pair of a set and an event is named: an altered arc of the event leaves a member of the set, or an altered silent arc
-- leaves a member of the exit that the set had by the event before the update.
abbrev pub Named : Rules → Rules → Stages → ℕ → Type 0
Named old new S e = Leaves old new (λ m. S m ≡ true) e ⊎ Leaves old new (Exit old S e) 0

-- A set that has a row before and after has it under the same number.
abbrev pub KeepsNumbers : Table → Table → Type 0
KeepsNumbers t u = (r q : ℕ) → t.used r ≡ true → u.used q ≡ true → ((n : ℕ) → t.set r n ≡ u.set q n) → r ≡ q

-- The row r is in use before and after, with the same set.
pub record KeptRow (t u : Table) (r : ℕ) : Type 0 where
  pub before : t.used r ≡ true
  pub after : u.used r ≡ true
  pub same : (n : ℕ) → t.set r n ≡ u.set r n

-- The step from r by e answers the same before and after: it is declined both times, or leads to the same row with the same set.
abbrev pub SameStep : Table → Table → ℕ → ℕ → Type 0
SameStep t u r e = (t.exit r e ≡ u.exit r e) × ((q : ℕ) → t.exit r e ≡ Some q → KeptRow t u q)

-- The theorems on altered arcs.
pub record AlterationLaws : Type 0 where
  -- What no altered arc names stays: the exit of a kept row's set by the event, and the step from the row.
  pub unnamed_stays : (old new : Rules) (t u : Table) → Sound old t → Sound new u → old.events ≡ new.events → KeepsNumbers t u →
      (r e : ℕ) → KeptRow t u r → Event old e → (Named old new (t.set r) e → ⊥) →
      Same (Exit old (t.set r) e) (Exit new (t.set r) e) × SameStep t u r e
  -- A pair is named by its exit before the update exactly if it is named by its exit after: the two differ only behind an altered arc.
  pub before_or_after : (old new : Rules) (S : Stages) (e : ℕ) →
      Named old new S e ↔ (Leaves old new (λ m. S m ≡ true) e ⊎ Leaves old new (Exit new S e) 0)
