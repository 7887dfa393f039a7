use Rattle.text.specs.Split.{lines, left}
use Rattle.closure_text.proofs.Gathering.{Begun}
use Rattle.closure_text.proofs.reading.read.Given as goal

abbrev pub invariant-loop-line : goal.invariant-loop-line
invariant-loop-line l = Begun (lines l.input) (left l.line-iterator) l.reading
