use Rattle.std.proofs.Common.{refl}
use Rattle.book.proofs.BookWrites.{consistent_fresh, fresh_meant}
use Rattle.book.proofs.record.Book.begun.Goals as goal

pub invariant_of-result : goal.invariant_of-result
invariant_of-result c = record { consistent = consistent_fresh c.args.events _ _ c.requires.some c.requires.few refl refl }

pub returns : goal.returns
returns c = fresh_meant c.args.events _ _ refl refl
