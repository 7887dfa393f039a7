-- The report of an update of a book: how many sets are kept, born and retired, how many pairs of a set and an event named and turned.
use Rattle.std.specs.Prelude.{◌≡◌, ℕ, ◌≤◌, true, List, length}
use Rattle.rules.specs.Rules.{Rules}
use Rattle.rules.specs.Counts.{Among, NoRepeat, Counts}
use Rattle.rules.specs.Paths.{Stages, R, Exit, Holds, Same, Inhabited, Event, Word}
use Rattle.rules.specs.Table.{Table, Sound}
use Rattle.rules.specs.Alteration.{Named, KeptRow, KeepsNumbers, SameStep}

-- A set, not empty, that some list of events reaches.
abbrev pub Reached : Rules → Stages → Type 0
Reached rules S = (w : List ℕ) × Word rules w × Holds S (R rules w) × Inhabited (R rules w)

-- A set that is reached before and after.
abbrev pub Kept : Rules → Rules → Stages → Type 0
Kept old new S = Reached old S × Reached new S

-- A set that is reached after and not before.
abbrev pub Born : Rules → Rules → Stages → Type 0
Born old new S = Reached new S × (Reached old S → ⊥)

-- A set that is reached before and not after.
abbrev pub Retired : Rules → Rules → Stages → Type 0
Retired old new S = Reached old S × (Reached new S → ⊥)

-- A kept set and an event whose pair is named.
abbrev pub NamedPair : Rules → Rules → (Stages × ℕ) → Type 0
NamedPair old new p = Kept old new p.0 × Event old p.1 × Named old new p.0 p.1

-- A kept set and an event whose exit is not the same before and after.
abbrev pub TurnedPair : Rules → Rules → (Stages × ℕ) → Type 0
TurnedPair old new p = Kept old new p.0 × Event old p.1 × (Same (Exit old p.0 p.1) (Exit new p.0 p.1) → ⊥)

-- The five counts of a report.
pub record Tally : Type 0 where
  pub kept : ℕ
  pub born : ℕ
  pub retired : ℕ
  pub named : ℕ
  pub turned : ℕ

-- The counts are those of the two books.
pub record Reported (old new : Rules) (c : Tally) : Type 0 where
  pub kept_sets : Counts Stages (Kept old new) c.kept
  pub born_sets : Counts Stages (Born old new) c.born
  pub retired_sets : Counts Stages (Retired old new) c.retired
  pub named_pairs : Counts (Stages × ℕ) (NamedPair old new) c.named
  pub turned_pairs : Counts (Stages × ℕ) (TurnedPair old new) c.turned

-- The same five, counted over the rows of two tables.
pub record CountedRows (old new : Rules) (t u : Table) (c : Tally) : Type 0 where
  pub kept_rows : Counts ℕ (KeptRow t u) c.kept
  pub born_rows : Counts ℕ (λ r. (u.used r ≡ true) × (KeptRow t u r → ⊥)) c.born
  pub retired_rows : Counts ℕ (λ r. (t.used r ≡ true) × (KeptRow t u r → ⊥)) c.retired
  pub named_steps : Counts (ℕ × ℕ) (λ p. KeptRow t u p.0 × Event old p.1 × Named old new (t.set p.0) p.1) c.named
  pub turned_steps : Counts (ℕ × ℕ) (λ p. KeptRow t u p.0 × Event old p.1 × (SameStep t u p.0 p.1 → ⊥)) c.turned

-- The theorems on reports.
pub record ReportLaws : Type 0 where
  -- There are as many reached sets as rows in use.
  pub rows_count_reached : (rules : Rules) (t : Table) (c : ℕ) → Sound rules t → Counts ℕ (λ r. t.used r ≡ true) c →
      Counts Stages (Reached rules) c
  -- There are no fewer reached sets than a list of different ones has.
  pub reached_at_least : (rules : Rules) (found : List Stages) (c : ℕ) → NoRepeat found → ((S : Stages) → Among S found → Reached rules S) →
      Counts Stages (Reached rules) c → length found ≤ c
  -- What no altered arc names stays: the exit of a kept set, the number of its row, and the step from there.
  pub kept_sets_stay : (old new : Rules) (t u : Table) → Sound old t → Sound new u → old.events ≡ new.events → KeepsNumbers t u →
      (S : Stages) (e : ℕ) → Kept old new S → Event old e → (Named old new S e → ⊥) →
      Same (Exit old S e) (Exit new S e) × ((r : ℕ) × KeptRow t u r × (S ≡ t.set r) × SameStep t u r e)
  -- Two books have one report.
  pub one_report : (old new : Rules) (c d : Tally) → Reported old new c → Reported old new d → c ≡ d
  -- What is counted over the rows of two tables is the report.
  pub rows_count_sets : (old new : Rules) (t u : Table) → Sound old t → Sound new u → old.events ≡ new.events → KeepsNumbers t u →
      (c : Tally) → CountedRows old new t u c → Reported old new c
