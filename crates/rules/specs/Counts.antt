-- How many things have a property.
use Rattle.std.specs.Prelude.{◌≡◌, ℕ, ◌⊎◌, ◌↔◌, List, [], ◌∷◌, length}

-- x is one of the list.
abbrev pub Among : {A : Type 0} → A → List A → Type 0
Among x [] = ⊥
Among x (y ∷ ys) = (x ≡ y) ⊎ Among x ys

-- Nothing stands twice in the list.
abbrev pub NoRepeat : {A : Type 0} → List A → Type 0
NoRepeat [] = Unit {0}
NoRepeat (x ∷ xs) = (Among x xs → ⊥) × NoRepeat xs

-- There are exactly so many things of which P holds.
pub record Counts (A : Type 0) (P : A → Type 0) (c : ℕ) : Type 0 where
  pub list : List A
  pub no_repeat : NoRepeat list
  pub exactly : (x : A) → Among x list ↔ P x
  pub count : length list ≡ c
