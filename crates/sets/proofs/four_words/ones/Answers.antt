use Rattle.std.proofs.Common.{◌∙◌, rules, tests}
use lib.Count.{ones}
use Rattle.std.proofs.lemmas.Iterator.{YieldsList-from_slice, YieldsList-from_map}
use Rattle.std.proofs.lemmas.Iterator.Consumers.{fits_by_from_yields_list, sum_by_from_yields_List}
use Rattle.sets.proofs.Rows.{row_count, row_count_fits}
use Rattle.sets.proofs.four_words.ones.Goals as goal

pub sum-requires-clause-fits : goal.sum-requires-clause-fits
sum-requires-clause-fits c =
    fits_by_from_yields_list ones c.args.words.now c.map.result _
    (YieldsList-from_map _ ones (YieldsList-from_slice c.args.words.now cc) c.map.ensures.closure (λ x r q k. search (rules, tests)))
    (row_count_fits c.args.words.now c.told-words c.fits-words)

pub returns : goal.returns
returns c =
    sum_by_from_yields_List ones c.args.words.now c.map.result c.sum.result c.sum.ensures.ran
    (YieldsList-from_map _ ones (YieldsList-from_slice c.args.words.now cc) c.map.ensures.closure (λ x r q k. search (rules, tests)))
    ∙ row_count c.args.words.now c.told-words c.fits-words
