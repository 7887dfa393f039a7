use Rattle.std.proofs.Common.{◌≡◌, ◌++◌, drop, string_bytes}
use Rattle.closure_text.specs.Reports.{stage_lines}
use Rattle.closure_text.proofs.report.write_stages.Given as goal

-- what is written, with the lines of the stages that are left, is the whole
abbrev pub invariant-loop-stage : goal.invariant-loop-stage
invariant-loop-stage l = string_bytes l.out ++ stage_lines l.stage (drop l.stage l.steps) ≡ string_bytes l.initial.out ++ stage_lines 0 l.steps
