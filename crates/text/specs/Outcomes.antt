-- Results in a row.
use Rattle.std.specs.Prelude.{Ok, Err, Result}

-- A result with a function of its value.
abbrev pub over : {A B E : Type 0} → (A → B) → Result A E → Result B E
over f (Ok x) = Ok (f x)
over f (Err e) = Err e

-- A result, and then what a function gives of its value.
abbrev pub and_then : {A B E : Type 0} → Result A E → (A → Result B E) → Result B E
and_then (Ok x) f = f x
and_then (Err e) f = Err e
