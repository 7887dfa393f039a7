use Rattle.book.specs.Records.{rules_of}
use Rattle.book_text.proofs.Sorting.{sorted_arcs}
use Rattle.book_text.proofs.changes.sorted_arcs.Goals as goal

pub returns : goal.returns
returns c =
    sorted_arcs (rules_of c.args.book.now) c.slots.result.now _ _ c.slots.ensures.arcs c.slots.ensures.once c.in_ok-arcs.ensures
    c.sort_unstable.ensures.permutation c.sort_unstable.ensures.sorted
