use Rattle.text.proofs.Numerals.{number_words}
use Rattle.text.proofs.number_words_are_numerals.Goals as goal

pub returns : goal.returns
returns c = number_words
