use Rattle.std.proofs.Common.{rules}
use Rattle.std.proofs.lemmas.Iterator.{YieldsList-from_slice, YieldsList-from_map}
use Rattle.std.proofs.lemmas.Iterator.Adapters.{items_from_extend}
use Rattle.rules.specs.declared.change.Change.TheVariants.{Arc}
use Rattle.book_text.proofs.changes.push_arcs.Goals as goal

pub returns : goal.returns
returns c =
    let all =
    items_from_extend c.extend.result c.extend.ensures.ran
    (YieldsList-from_map _ Arc (YieldsList-from_slice c.args.arcs.now (search rules)) c.map.ensures.closure (λ x r q k. search rules)) in
    search rules
