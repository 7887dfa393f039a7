use Rattle.std.proofs.Common.{rules, drop, sym, ap, ◌∙◌, eqb, None, Some, position}
use Rattle.text.specs.Split.{parts_from}
use Rattle.text.proofs.First.{found, next_then, next_else}
use Rattle.text.proofs.parts.Parts.take_at.Goals as goal

pub returns-in_default : goal.returns-in_default
returns-in_default c =
    let me = c.args.self.now in
    let by = me.separator.byte in
    let rest = drop c.args.place.offset me.text.now in
    let all = found by rest None (sym c.in_default.is ∙ c.place_of.ensures ∙ ap (position (λ b. eqb b by)) c.tail-rest.ensures.is) in
    next_else by me.separator.lines c.args.place.line c.args.place.offset me.text.now all
    ∙ ap (parts_from by me.separator.lines me.text.now) (sym c.requires)

pub overflow_add-self : goal.overflow_add-self
overflow_add-self c =
    let me = c.args.self.now in
    let by = me.separator.byte in
    let there = found by c.tail-rest.result.now (Some c.in-Some.len) (sym c.in-Some.is ∙ c.place_of.ensures) in
    search (there, rules)

pub returns : goal.returns
returns c =
    let me = c.args.self.now in
    let by = me.separator.byte in
    let rest = drop c.args.place.offset me.text.now in
    let there = found by rest (Some c.in-Some.len) (sym c.in-Some.is ∙ c.place_of.ensures ∙ ap (position (λ b. eqb b by)) c.tail-rest.ensures.is) in
    next_then by me.separator.lines c.args.place.line c.args.place.offset me.text.now c.in-Some.len there.0 there.1
    ∙ ap (parts_from by me.separator.lines me.text.now) (sym c.requires)
