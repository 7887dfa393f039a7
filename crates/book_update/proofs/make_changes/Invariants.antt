use Rattle.std.proofs.Common.{◌≡◌, min, drop}
use Rattle.book.specs.Records.{rules_of}
use Rattle.book_update.specs.Updates.{applied}
use Rattle.book_update.proofs.make_changes.Given as goal

abbrev pub invariant-loop-placed : goal.invariant-loop-placed
invariant-loop-placed l =
    applied (min l.width 256) (rules_of l.book) (drop l.placed-index l.changes) ≡ applied (min l.width 256) (rules_of l.initial.book) l.changes
