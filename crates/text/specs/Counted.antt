-- So many parts, and no more.
use Rattle.std.specs.Prelude.{List, [], ◌∷◌, Some, None, Option, option_map}
use Rattle.text.specs.declared.parts.Part.{Part}
use Rattle.text.specs.Split.{Told, told}

-- What two and three parts tell.
abbrev pub told_two : Part × Part → Told × Told
told_two w = (told w.0, told w.1)

abbrev pub told_three : Part × Part × Part → Told × Told × Told
told_three w = (told w.0, told w.1, told w.2)

-- The only part, the only two and the only three; absent where there are fewer or more.
abbrev pub one_of : List Told → Option Told
one_of [] = None
one_of (a ∷ []) = Some a
one_of (a ∷ b ∷ ps) = None

abbrev pub two_of : List Told → Option (Told × Told)
two_of [] = None
two_of (a ∷ ps) = option_map (λ b. (a, b)) (one_of ps)

abbrev pub three_of : List Told → Option (Told × Told × Told)
three_of [] = None
three_of (a ∷ ps) = option_map (λ w. (a, w.0, w.1)) (two_of ps)
