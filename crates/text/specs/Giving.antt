-- What an iterator gives that is unaltered once nothing is left.
use Rattle.std.specs.Prelude.{◌≡◌, List, Option, IfNone}
use Rattle.std.specs.Iterator.{YieldsFirstBy}

-- The next item is the first of those that were left, and the others are left then; or there is none, since none was
-- left, and nothing is altered. `rest` is what is left, and `view` what an item tells.
abbrev pub GivesFirst : {S A B : Type 0} → (A → B) → (S → List B) → S → Option A → S → Type 0
GivesFirst view rest before item after = YieldsFirstBy view rest before item after × IfNone item (after ≡ before)
