use Rattle.std.proofs.Common.{sym, ◌∙◌, arith}
use Rattle.sets.proofs.Rows.{start_at, next_in_word, next_in_later_word, next_in_no_word}
use Rattle.sets.proofs.four_words.first_from.Goals as goal

pub returns-then-rest-ne0 : goal.returns-then-rest-ne0
returns-then-rest-ne0 c = next_in_word (start_at c.told-words c.from-start.ensures c.in_ok-rest.ensures.lookup.0 c.in_ok-rest.ensures.lookup.1) (c.fits-words _) (omega arith)

pub returns-in_err-i : goal.returns-in_err-i
returns-in_err-i c = rw c.from_residual-in_err-i.ensures (next_in_no_word (start_at c.told-words c.from-start.ensures c.in_ok-rest.ensures.lookup.0 c.in_ok-rest.ensures.lookup.1) c.told-words c.if-rest-ne0.false (sym c.first_nonzero.ensures ∙ c.in_err-i.was))

pub returns : goal.returns
returns c = next_in_later_word (start_at c.told-words c.from-start.ensures c.in_ok-rest.ensures.lookup.0 c.in_ok-rest.ensures.lookup.1) c.in_ok-i.field-0 c.told-words c.if-rest-ne0.false (sym c.first_nonzero.ensures ∙ c.in_ok-i.was) (c.fits-words _)
