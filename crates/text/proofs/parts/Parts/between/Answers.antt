use Rattle.std.proofs.Common.{drop, refl}
use Rattle.text.proofs.Back.{whole}
use Rattle.text.proofs.Places.{placed}
use Rattle.text.proofs.parts.Parts.between.Goals as goal

pub returns : goal.returns
returns c =
    let by = c.args.separator.byte in
    let step = c.args.separator.lines in
    let rest = drop c.args.place.offset c.args.text.now in
    record { is = refl; whole = whole by step c.args.place.line c.args.place.offset rest; placed = placed by step c.args.place.line c.args.place.offset rest }
