-- What a row of four words of 64 bits means. Assumes nothing.
use Rattle.std.specs.Prelude.{ℕ, ◌/◌, ◌%◌, Bool, ◌&&◌, List, ◌==◌, nat_lt, slice_index}
use Rattle.std.specs.Int.{bit_at}

-- whether n is in the row: bit n % 64 of word n / 64 is set
abbrev pub in_row : List ℕ → ℕ → Bool
in_row words n = nat_lt n 256 && bit_at (slice_index words (n / 64)) (n % 64) == 1
