use Rattle.std.proofs.Common.{refl, rules}
use Rattle.std.proofs.lemmas.Iterator.{items_from_collect, YieldsList-from_range}
use Rattle.std.proofs.lemmas.Iterator.Consumers.{YieldsList-from_filter_map}
use Rattle.book.specs.Records.{rules_of}
use Rattle.book_text.proofs.Stages.{chosen, all_chosen}
use Rattle.book_text.proofs.changes.stage_changes.Goals as goal

pub returns : goal.returns
returns c =
    let b = rules_of c.args.book.now in
    let made =
    items_from_collect _ c.collect.ensures.ran
    (YieldsList-from_filter_map _ (chosen b) (YieldsList-from_range 0 256 256 (search rules) refl) c.filter_map.ensures.closure (λ x r q k. search rules)) in
    let all = all_chosen b in
    search rules
