use Rattle.std.proofs.Common.{◌≡◌, ◌++◌, take, string_bytes}
use Rattle.std.specs.List.{flat_map}
use Rattle.closure_text.specs.Reports.{fault_line}
use Rattle.closure_text.proofs.report.write_faults.Given as goal

abbrev pub invariant-loop-fault : goal.invariant-loop-fault
invariant-loop-fault l = string_bytes l.out ≡ string_bytes l.initial.out ++ flat_map fault_line (take l.fault-index l.faults)
