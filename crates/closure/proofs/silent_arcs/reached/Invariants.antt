use Rattle.std.proofs.Common.{◌≡◌, ℕ, ◌&&◌, ltb}
use Rattle.sets.specs.BitRows.{members}
use Rattle.closure.specs.Silent.{reached_in}
use Rattle.closure.proofs.silent_arcs.reached.Given as goal

abbrev pub invariant-loop-stage : goal.invariant-loop-stage
invariant-loop-stage l = (v : ℕ) → members l.stages v ≡ (ltb v l.stage && reached_in l.steps v)
