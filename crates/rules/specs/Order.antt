-- The order of a book's reached sets by the first lists that reach them.
use Rattle.std.specs.Prelude.{◌≡◌, ℕ, ◌<◌, true, ◌⊎◌, ◌↔◌, List, [], ◌∷◌, length}
use Rattle.rules.specs.Rules.{Rules, Alike}
use Rattle.rules.specs.Counts.{Among}
use Rattle.rules.specs.Paths.{R, Same, Inhabited, Word}

-- The event of v is smaller where the two lists first differ.
abbrev pub DiffersBelow : List ℕ → List ℕ → Type 0
DiffersBelow [] w = ⊥
DiffersBelow (a ∷ v) [] = ⊥
DiffersBelow (a ∷ v) (b ∷ w) = (a < b) ⊎ ((a ≡ b) × DiffersBelow v w)

-- v comes before w: it is shorter, or as long and smaller where they first differ.
abbrev pub Before : List ℕ → List ℕ → Type 0
Before v w = (length v < length w) ⊎ ((length v ≡ length w) × DiffersBelow v w)

-- Each list comes before all that stand after it.
abbrev pub Rising : List (List ℕ) → Type 0
Rising [] = Unit {0}
Rising (v ∷ ws) = ((w : List ℕ) → Among w ws → Before v w) × Rising ws

-- w is the first list that reaches its set, and the set is not empty.
pub record First (rules : Rules) (w : List ℕ) : Type 0 where
  pub word : Word rules w
  pub inhabited : Inhabited (R rules w)
  pub none_before : (v : List ℕ) → Word rules v → Before v w → Same (R rules v) (R rules w) → ⊥

-- The first lists of all reached sets, in order.
pub record Enumeration (rules : Rules) (ws : List (List ℕ)) : Type 0 where
  pub rising : Rising ws
  pub exactly : (w : List ℕ) → Among w ws ↔ First rules w

-- The books tell the same: their events, live stages and marks are equal, and every list of events reaches the same set in both.
pub record TellsSame (a b : Rules) : Type 0 where
  pub events : a.events ≡ b.events
  pub live : (n : ℕ) → a.live n ≡ b.live n
  pub mark : (n : ℕ) → a.live n ≡ true → a.mark n ≡ b.mark n
  pub reach : (w : List ℕ) → Same (R a w) (R b w)

-- The theorems on the order of lists.
pub record OrderLaws : Type 0 where
  -- Books that are alike tell the same.
  pub alike_tells_same : (a b : Rules) → Alike a b → TellsSame a b
  -- Books that tell the same have one and the same enumeration.
  pub one_enumeration : (a b : Rules) (vs ws : List (List ℕ)) → TellsSame a b → Enumeration a vs → Enumeration b ws → vs ≡ ws
  -- A reached set has one first list.
  pub one_first : (rules : Rules) (v w : List ℕ) → First rules v → First rules w → Same (R rules v) (R rules w) → v ≡ w
