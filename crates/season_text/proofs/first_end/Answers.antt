use Rattle.std.proofs.Common.{rules, codes}
use Rattle.std.specs.Str.{bytes_eq}
use Rattle.std.proofs.lemmas.Iterator.Search.{find_from_yields_List}
use borrow.Author.Tests.{tests}
use Rattle.text.specs.Split.{lines}
use Rattle.text.proofs.Yielding.{yields}
use Rattle.season_text.proofs.first_end.Goals as goal

pub returns : goal.returns
returns c = find_from_yields_List (λ l. bytes_eq l.text (codes "end")) _ _ _ c.find.ensures.ran (yields (lines c.args.text.now) c.lines.ensures.is) (λ x b q k. search (rules, tests))
