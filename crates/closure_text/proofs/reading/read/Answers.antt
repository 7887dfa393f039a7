use Rattle.std.proofs.Common.{subst}
use Rattle.text.specs.Split.{told, left, lines}
use Rattle.closure_text.specs.Readings.{Added}
use Rattle.closure_text.proofs.Gathering.{Begun, begun_more}
use Rattle.closure_text.proofs.reading.read.Goals as goal

pub loop-line-preserved : goal.loop-line-preserved
loop-line-preserved c =
    begun_more (lines c.args.input.now) (left c.next.new.self) (told c.in-Some.line) c.loop-line.reading c.add.new.self
    (subst (λ ls. Begun (lines c.args.input.now) ls c.loop-line.reading) c.in-Some.ensures.steps.0 c.loop-line.invariant)
    (subst (λ a. Added a c.loop-line.reading c.add.new.self) c.read_line.ensures c.in_ok-add.ensures)
