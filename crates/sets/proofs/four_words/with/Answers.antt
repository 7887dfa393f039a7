use Rattle.std.proofs.Common.{◌≡◌, length, arith}
use Rattle.sets.proofs.Rows.{row_with}
use Rattle.sets.proofs.four_words.with.Goals as goal

pub returns-then-n-lt256 : goal.returns-then-n-lt256
returns-then-n-lt256 c =
    let len : length c.args.words ≡ 4 = omega arith in
    rw c.from.ensures (λ k. row_with c.args.words c.args.n k len c.if-n-lt256.true)
