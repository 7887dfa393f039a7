use Rattle.std.proofs.Common.{Some, rules, sym, ◌∙◌}
use Rattle.book.proofs.SlotWrites.{place_at}
use Rattle.book.proofs.ArcChanges.{cut_absent, arc_cut, some_count, cut_consistent}
use Rattle.book.proofs.record.Book.cut_arc.Goals as goal

pub returns-in_err-place : goal.returns-in_err-place
returns-in_err-place c =
    let h = cut_absent c.args.bound.stages c.args.self.now c.args.arc c.in_ok-check_ends.ensures (sym c.place_of.ensures ∙ c.in_err-place.ensures.ok_part) in
    search (rules, h)

pub overflow_sub-self : goal.overflow_sub-self
overflow_sub-self c = some_count c.args.self.now c.args.arc c.in_ok-place.place (place_at (Some c.args.arc) c.args.self.now.arcs c.in_ok-place.place (sym c.place_of.ensures ∙ c.in_ok-place.ensures.ok_part))

pub invariant_of-self : goal.invariant_of-self
invariant_of-self c = record {
  consistent = cut_consistent c.args.self.now c.args.arc c.in_ok-place.place (place_at (Some c.args.arc) c.args.self.now.arcs c.in_ok-place.place (sym c.place_of.ensures ∙ c.in_ok-place.ensures.ok_part));
}

pub returns : goal.returns
returns c =
    arc_cut c.args.bound.stages c.args.self.now c.args.arc c.in_ok-check_ends.ensures c.in_ok-place.place
    (place_at (Some c.args.arc) c.args.self.now.arcs c.in_ok-place.place (sym c.place_of.ensures ∙ c.in_ok-place.ensures.ok_part))
