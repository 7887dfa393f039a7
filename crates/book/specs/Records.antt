-- What a book record means, and what its calls leave.
use Rattle.std.specs.Prelude.{◌≡◌, ℕ, ◌<◌, ◌≤◌, true, cond, not, ◌||◌, Some, None, Ok, Err, Option, Result, nat_lt}
use Rattle.rules.specs.declared.change.Change.{Change}
use Rattle.rules.specs.declared.change.BookFault.{BookFault}
use Rattle.rules.specs.declared.change.BookFault.TheVariants.{OutOfRange, NotLive}
use Rattle.rules.specs.Rules.{Rules, fresh}
use Rattle.rules.specs.Changes.{changed, first_fault}
use Rattle.book.specs.Slots.{arcs_in}
use Rattle.book.specs.Consistency.{live_in, mark_in}
use Rattle.book.specs.declared.record.Book.{Book}

-- The rule book that a record means.
abbrev pub rules_of : Book → Rules
rules_of b = record { events = b.events; live = live_in b.stages; mark = mark_in b.stages; arc = arcs_in b.arcs }

-- Every live stage is below W.
abbrev pub LiveBelow : ℕ → Rules → Type 0
LiveBelow W b = (n : ℕ) → b.live n ≡ true → n < W

-- The fresh book if the number of events is from 1 to 15, and else none.
abbrev pub FreshPost : ℕ → Option Book → Type 0
FreshPost E None = (1 ≤ E) × (E ≤ 15) → ⊥
FreshPost E (Some b) = (1 ≤ E) × (E ≤ 15) × (rules_of b ≡ fresh E)

-- The change is made if no condition stands against it in a book of width W; else the first that does is the answer, and
-- the record is as it was.
abbrev pub ChangePost : ℕ → Book → Change → Result (Unit {0}) BookFault → Book → Type 0
ChangePost W before ch (Ok x) after = (first_fault W (rules_of before) ch ≡ None) × (rules_of after ≡ changed (rules_of before) ch)
ChangePost W before ch (Err f) after = (first_fault W (rules_of before) ch ≡ Some f) × (after ≡ before)

-- The first of the conditions on the ends and the label of an arc, 21 and 22, that holds of an arc to be added or cut.
abbrev pub ends_answer : ℕ → Rules → ℕ → ℕ → ℕ → Result (Unit {0}) BookFault
ends_answer W b m e n =
    cond (not (nat_lt m W) || (nat_lt b.events e || not (nat_lt n W))) (Err OutOfRange)
    (cond (not (b.live m) || not (b.live n)) (Err NotLive) (Ok tt))
