use Rattle.std.proofs.Common.{rules, sym, ◌∙◌}
use Rattle.book.proofs.BookWrites.{low_live, joined_meant}
use Rattle.book.proofs.record.Book.drop_stage.Goals as goal

pub returns : goal.returns
returns c =
    let b = c.args.self.now in
    let l = low_live b.stages b.consistent.1.0 c.args.stage (search rules) in
    let h = joined_meant b c.args.stage ∙ sym c.if-has_arcs.ensures in
    (search (rules, h), search (rules, l))
