use Rattle.std.proofs.Common.{◌≡◌, ℕ, ◌<◌, get_or, rules}
use lib.Bits.{bit_or}
use Rattle.sets.proofs.Rows.{row_either}
use Rattle.sets.proofs.four_words.either.Goals as goal

pub returns : goal.returns
returns c =
    let each : (q : ℕ) → q < 4 → get_or c.from_fn.result q 0 ≡ bit_or (get_or c.args.a.now q 0) (get_or c.args.b.now q 0) =
    λ q h. let called = c.from_fn.ensures.items.at q 0 h in search rules in
    row_either c.args.a.now c.args.b.now c.from_fn.result each
