-- How a change is written.
use Rattle.std.specs.Prelude.{ℕ, ◌<◌, List, ◌∷◌, ◌++◌, codes, decimal}
use Rattle.rules.specs.declared.change.Arc.{Arc as AnArc}
use Rattle.rules.specs.declared.change.Change.{Change}
use Rattle.rules.specs.declared.change.Change.TheVariants.{Stage, Drop, Arc, Cut, Mark}

-- The numbers of an arc in decimal, with a space between them.
abbrev pub arc_text : AnArc → List ℕ
arc_text a = decimal a.from ++ (32 ∷ (decimal a.label ++ (32 ∷ decimal a.to)))

-- The line of a change in a sheet, without the byte 10 that ends it: a word for its kind, and its numbers in decimal.
abbrev pub change_line : Change → List ℕ
change_line (Stage n m) = codes "stage" ++ (32 ∷ (decimal n ++ (32 ∷ decimal m)))
change_line (Drop n) = codes "drop" ++ (32 ∷ decimal n)
change_line (Arc a) = codes "arc" ++ (32 ∷ arc_text a)
change_line (Cut a) = codes "cut" ++ (32 ∷ arc_text a)
change_line (Mark n m) = codes "mark" ++ (32 ∷ (decimal n ++ (32 ∷ decimal m)))

-- Each number of the change has at most three digits.
abbrev pub Small : Change → Type 0
Small (Stage n m) = (n < 1000) × (m < 1000)
Small (Drop n) = n < 1000
Small (Arc a) = (a.from < 1000) × (a.label < 1000) × (a.to < 1000)
Small (Cut a) = (a.from < 1000) × (a.label < 1000) × (a.to < 1000)
Small (Mark n m) = (n < 1000) × (m < 1000)
