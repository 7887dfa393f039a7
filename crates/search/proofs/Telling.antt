-- Two properties of numbers of which the same number is the least. Assumes nothing.
use Rattle.std.proofs.Common.{◌≡◌, ℕ, ◌≤◌, subst, arith}
use Rattle.search.specs.Walks.{Least, Tells}

module _ (P Q : ℕ → Type 0) (only : (k : ℕ) → Q k → P k) (sooner : (k : ℕ) → P k → (m : ℕ) × (m ≤ k) × Q m) where
  least_there : (d : ℕ) → Least P d → Least Q d
  least_there d l =
      let s = sooner d l.some in
      let same : s.0 ≡ d = omega (arith, s.1, l.least s.0 (only s.0 s.2)) in
      record { some = subst Q same s.2; least = λ k q. l.least k (only k q) }

  least_back : (d : ℕ) → Least Q d → Least P d
  least_back d l =
      record { some = only d l.some; least = λ k p. let s = sooner k p in omega (arith, s.1, l.least s.0 s.2) }

  -- where Q implies P, and P at k implies Q at k or below, what tells of the one tells of the other
  pub tells_like : (x : ℕ) → Tells P x → Tells Q x
  tells_like x t =
      record {
        reached = λ d small. (λ e. least_there d ((t.reached d small).0 e), λ l. (t.reached d small).1 (least_back d l));
        unreached = (λ e k q. t.unreached.0 e k (only k q), λ none. t.unreached.1 (λ k p. let s = sooner k p in none s.0 s.2));
      }
