use Rattle.std.proofs.Common.{ℕ, ◌+◌, length, drop, sym, ap, ◌∙◌}
use Rattle.text.specs.Split.{told, left}
use Rattle.season_text.specs.Seasons.{sheets_in}
use Rattle.season_text.proofs.Splitting.{after_first}
use Rattle.season_text.proofs.after_first_line.Goals as goal

pub returns : goal.returns
returns c =
    ap sheets_in c.tail.ensures.is
    ∙ ap (λ (n : ℕ). sheets_in (drop (n + 1) c.args.text.now)) (ap length c.text.ensures)
    ∙ after_first c.args.text.now (told c.in-Some.first) (left c.next.new.self) (sym c.in-Some.ensures.steps.0 ∙ c.lines.ensures.is)
