use Rattle.std.proofs.Common.{sym, ◌∙◌}
use Rattle.book.proofs.BookWrites.{standing_meant}
use Rattle.book.proofs.WellFormedBooks.{live_below, well_formed}
use Rattle.book.proofs.record.Book.laws_hold.Goals as goal

pub returns : goal.returns
returns c =
    let b = c.args.self.now in
    record { low = live_below b; formed = λ W. well_formed W b; counted = b.consistent.2.3 ∙ sym (standing_meant b) }
