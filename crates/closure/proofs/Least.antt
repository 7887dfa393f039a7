-- What a number of the distance memory tells, as an `Option`. Assumes nothing.
use Rattle.std.proofs.Common.{◌≡◌, ℕ, ◌<◌, Some, None, Option, MatchOption, sym, refl, ap, subst, arith}
use Rattle.search.specs.Walks.{Least, Tells}
use Rattle.closure.specs.Silent.{LeastOrNone}

pub least_told : (P : ℕ → Type 0) (x : ℕ) (o : Option ℕ) → Tells P x → MatchOption o (x ≡ 65535) (λ d. (d < 65535) × (d ≡ x)) → LeastOrNone P o
least_told P x None t e =
    let none = t.unreached.0 e in
    record { some = λ d. (λ f. cc, λ l. absurd (none d l.some)); none = (λ _. none, λ _. refl) }
least_told P x (Some d) t e =
    let l = (t.reached d e.0).0 (sym e.1) in
    record {
      some = λ m. (
        λ f. let same : d ≡ m = cc in subst (Least P) same l,
        λ k. let same : d ≡ m = omega (arith, l.least m k.some, k.least d l.some) in ap {B = Option ℕ} Some same,
      );
      none = (λ f. cc, λ h. absurd (h d l.some));
    }
