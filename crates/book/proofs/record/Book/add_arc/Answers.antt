use Rattle.std.proofs.Common.{None, rules, sym, ◌∙◌}
use Rattle.book.proofs.SlotWrites.{place_at}
use Rattle.book.proofs.ArcChanges.{arc_full, arc_added, arc_consistent}
use Rattle.book.proofs.record.Book.add_arc.Goals as goal

pub returns-in_err-place : goal.returns-in_err-place
returns-in_err-place c =
    let h = arc_full c.args.bound.stages c.args.self.now c.args.arc c.in_ok-check_ends.ensures (sym c.if-has_arc.ensures)
    (sym c.place_of.ensures ∙ c.in_err-place.ensures.ok_part) in
    search (rules, h)

pub invariant_of-self : goal.invariant_of-self
invariant_of-self c = record {
  consistent = arc_consistent c.args.bound.stages c.args.self.now c.args.arc c.in_ok-check_ends.ensures (sym c.if-has_arc.ensures) c.in_ok-place.place
      (place_at None c.args.self.now.arcs c.in_ok-place.place (sym c.place_of.ensures ∙ c.in_ok-place.ensures.ok_part));
}

pub returns : goal.returns
returns c =
    arc_added c.args.bound.stages c.args.self.now c.args.arc c.in_ok-check_ends.ensures (sym c.if-has_arc.ensures) c.in_ok-place.place
    (place_at None c.args.self.now.arcs c.in_ok-place.place (sym c.place_of.ensures ∙ c.in_ok-place.ensures.ok_part))
