-- What makes an `or` true, and when two tests are equal.
use Rattle.std.proofs.Common.{◌≡◌, Bool, true, false, ◌↔◌, sym, refl}
pub use Rattle.std.proofs.lemmas.Bool.{or_left, or_right}

-- two tests that pass together are equal
pub both : (a b : Bool) → ((a ≡ true) ↔ (b ≡ true)) → a ≡ b
both true true h = refl
both true false h = sym (h.0 refl)
both false true h = h.1 refl
both false false h = refl
