use Rattle.std.proofs.Common.{cond, [], ◌∷◌, ◌++◌, length, Ok, Err, sym, ap, ◌∙◌, arith}
use Rattle.std.proofs.lemmas.List.{take_more_set, length-take-le}
use Rattle.std.proofs.lemmas.Bool.{lt-ltb}
use Rattle.sheet_faults.specs.declared.LineFault.TheVariants.{TooManyChanges}
use Rattle.sheet.specs.Sheets.{items_of}
use Rattle.sheet.proofs.changes.Changes.push.Goals as goal

pub returns : goal.returns
returns c =
    let self = c.args.self.now in
    let item = c.args.item in
    let n = length-take-le self.count self.items (omega arith) in
    let room = lt-ltb (length (items_of self)) 64 (omega arith) in
    let more = take_more_set self.items self.count item (omega arith) in
    ap (λ t. cond t (Ok (items_of self ++ item ∷ [])) (Err (TooManyChanges item.place))) room ∙ ap Ok (sym more)
