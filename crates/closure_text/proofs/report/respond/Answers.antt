use Rattle.std.proofs.Common.{sym, ◌∙◌, subst, arith}
use Rattle.std.proofs.lemmas.Result.{IfOk-weaker}
use Rattle.search.specs.Walks.{Starting}
use Rattle.text.specs.Split.{lines}
use Rattle.closure.specs.Silent.{has_arc, FewestArcs}
use Rattle.closure_text.proofs.Starts.{starts_are_stages}
use Rattle.closure_text.proofs.Writing.{responds}
use Rattle.closure_text.proofs.report.respond.Goals as goal

pub unreachable-requires : goal.unreachable-requires
unreachable-requires c =
    c.in_default.ensures
    (subst (Starting 256) (sym (c.as_slice.ensures.value ∙ c.in_ok-reading.ensures.starts)) (starts_are_stages (lines c.args.input.now)))

pub returns : goal.returns
returns c =
    let reading = c.in_ok-reading.reading in
    IfOk-weaker c.answer.result _ _
    (λ s e. responds c.args.input.now _ reading c.in-Ok.steps c.in_ok-reading.ensures (omega arith)
    (subst (λ starts. FewestArcs (has_arc reading.arcs) starts c.in-Ok.steps) c.as_slice.ensures.value c.in-Ok.ensures.1) e)
    c.answer.ensures
