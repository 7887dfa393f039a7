-- What a bit row means. Assumes nothing.
use Rattle.std.specs.Prelude.{ℕ, Bool}
use Rattle.sets.specs.declared.bit_row.BitRow.{BitRow}
use Rattle.sets.specs.FourWords.{in_row}

-- whether n is a member of a bit row
abbrev pub members : BitRow → ℕ → Bool
members row n = in_row row.words n
