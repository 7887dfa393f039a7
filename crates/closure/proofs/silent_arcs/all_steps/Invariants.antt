use Rattle.std.proofs.Common.{◌≡◌, ℕ, ◌<◌, None, MatchOption, length, get_or}
use Rattle.closure.proofs.silent_arcs.all_steps.Given as goal

abbrev pub invariant-loop-stage : goal.invariant-loop-stage
invariant-loop-stage l = record {
  long : length l.all ≡ 256;
  told : (v : ℕ) → v < l.stage → MatchOption (get_or l.all v None) (get_or l.initial.distance v 0 ≡ 65535) (λ d. (d < 65535) × (d ≡ get_or l.initial.distance v 0));
}
