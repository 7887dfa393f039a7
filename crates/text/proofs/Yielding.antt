-- What an iterator of `GivesFirst` gives, for the library's lemmas on chains.
use Rattle.std.proofs.Common.{◌≡◌, List, length, ap, subst}
use Rattle.std.proofs.lemmas.Iterator.{YieldsList}
use Rattle.std.proofs.lemmas.Iterator.Consumers.{YieldsList-from_shown}
use Rattle.text.specs.Giving.{GivesFirst}

pub yields : {S A B : Type 0} {view : A → B} {rest : S → List B} {s : S} (items : List B) → rest s ≡ items → YieldsList (GivesFirst view rest) view s items
yields {view = view} {rest = rest} {s = s} items e = subst (YieldsList (GivesFirst view rest) view s) e (YieldsList-from_shown (GivesFirst view rest) view rest (λ s t h. ap length h.0.0) (λ s x t h. h.0) s)
