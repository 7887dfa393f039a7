use Rattle.sets.proofs.Rows.{row_equal}
use Rattle.sets.proofs.four_words.equal.Goals as goal

pub returns : goal.returns
returns c = row_equal c.args.a.now c.args.b.now c.eq.result c.told-a c.told-b c.fits-a c.fits-b c.eq.ensures
