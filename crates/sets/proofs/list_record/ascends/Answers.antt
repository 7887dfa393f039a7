use Rattle.std.proofs.Common.{◌≡◌, ℕ, ◌-◌, ltb, length, get_or, ap, ◌∙◌, rules, tests, arith}
use Rattle.std.proofs.lemmas.Bool.{le-ltb}
use Rattle.std.proofs.lemmas.List.Sorted.{answers_always}
use Rattle.sets.proofs.Lists.{ascends_by, not_small}
use Rattle.sets.proofs.list_record.ascends.Goals as goal

pub returns-then-last-lt64 : goal.returns-then-last-lt64
returns-then-last-lt64 c =
    let numbers = c.args.numbers.now in
    ascends_by numbers _
    (λ last end.
    let at : last ≡ length numbers - 1 = omega arith in
    omega (arith, ap (λ (i : ℕ). get_or numbers i 0) at, c.if-last-lt64.true))
    (c.is_sorted_by.ensures.cases ltb (answers_always _ _ _ (λ f a r q k. search (rules, tests))))

pub returns-else-last-lt64 : goal.returns-else-last-lt64
returns-else-last-lt64 c =
    let numbers = c.args.numbers.now in
    le-ltb _ _ c.if-last-lt64.false ∙ not_small numbers (length numbers - 1) (omega (arith, c.in-len1-up.len_at_least)) c.if-last-lt64.false
