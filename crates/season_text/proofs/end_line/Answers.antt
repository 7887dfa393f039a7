use Rattle.std.proofs.Common.{rules, ◌≡◌, option_map, ◌∙◌}
use Rattle.text.specs.Split.{lines}
use Rattle.season_text.proofs.Splitting.{end_found, cut_within}
use Rattle.season_text.proofs.end_line.Goals as goal

pub returns-clause-is : goal.returns-clause-is
returns-clause-is c =
    let e : c.map.result ≡ option_map (λ l. l.place.offset) c.first_end.result = search rules in
    e ∙ end_found (lines c.args.text.now) c.first_end.result c.first_end.ensures

pub returns-clause-within : goal.returns-clause-within
returns-clause-within c = cut_within c.args.text.now c.map.result (returns-clause-is c)
