-- What a search answers, on every input. Assumes nothing.
use Rattle.std.specs.Prelude.{◌≡◌, ℕ, List, Ok, Err, Result}
use Rattle.search.specs.declared.breadth_first.SearchFault.{SearchFault}
use Rattle.search.specs.declared.breadth_first.SearchFault.TheVariants.{Unfit}
use Rattle.search.specs.Walks.{Fit, Searched}

-- the number of each fault
abbrev pub fault_number : SearchFault → ℕ
fault_number Unfit = 5

-- the place of each fault: a search tells none, which is 0
abbrev pub fault_place : SearchFault → ℕ
fault_place Unfit = 0

-- Accepted, just if memory and starts are fit: the distances are told. Declined, just if they are not: nothing is altered.
abbrev pub Answered : ℕ → (ℕ → List ℕ) → List ℕ → List ℕ → List ℕ → List ℕ → List ℕ → Result (Unit {0}) SearchFault → Type 0
Answered n nbr starts distance work distance' work' (Ok _) = Fit n starts distance work × Searched n nbr starts distance distance'
Answered n nbr starts distance work distance' work' (Err _) = (Fit n starts distance work → ⊥) × (distance' ≡ distance) × (work' ≡ work)
