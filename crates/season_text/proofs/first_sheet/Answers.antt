use Rattle.std.proofs.Common.{ℕ, List, ◌∷◌, sym, ap, ◌∙◌}
use Rattle.season_text.specs.Seasons.{sheets_of}
use Rattle.season_text.proofs.Splitting.{cut_none, cut_some}
use Rattle.season_text.proofs.first_sheet.Goals as goal

pub returns-in_err-end_line : goal.returns-in_err-end_line
returns-in_err-end_line c = rw c.from_residual.ensures (cut_none c.args.text.now c.in_err-end_line.ensures.is)

pub returns : goal.returns
returns c =
    ap (λ (ss : List (List ℕ)). c.split_at.result.0.now ∷ ss) c.after_first_line.ensures
    ∙ (λ i. c.split_at.ensures.front i ∷ sheets_of (c.split_at.ensures.back i))
    ∙ sym (cut_some c.args.text.now c.in_ok-end_line.field-0 c.in_ok-end_line.ensures.is)
