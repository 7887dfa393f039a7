use Rattle.std.proofs.Common.{◌++◌, vec_items, string_bytes, ◌∙◌, ap₂}
use Rattle.std.specs.List.{flat_map}
use Rattle.sets.specs.BitRows.{members}
use Rattle.sets.proofs.Sizes.{size_alike}
use Rattle.closure.specs.Silent.{reached_in}
use Rattle.closure_text.specs.Reports.{fault_line}
use Rattle.closure_text.proofs.Writing.{whole_answer}
use Rattle.closure_text.proofs.report.answer.Goals as goal

pub returns : goal.returns
returns c =
    whole_answer (vec_items c.args.reading.now.faults) (vec_items c.args.reading.now.starts) c.args.steps.now
    (string_bytes c.write_faults.new.out) (string_bytes c.write_stages.new.out) (string_bytes c.write_counts.new.out)
    c.count-count.result c.len.result c.len-2.result
    (c.in_ok-write_faults.ensures ∙ ap₂ (λ a xs. a ++ flat_map fault_line xs) c.new-out.ensures.bytes c.as_slice.ensures.value)
    c.in_ok-write_stages.ensures
    c.in_ok-write_counts.ensures
    (c.count-count.ensures ∙ size_alike 256 (members c.reached.result) (reached_in c.args.steps.now) (λ v _. c.reached.ensures v))
    (c.len.ensures ∙ c.args.reading.now.starts.ok.0)
    (c.len-2.ensures ∙ c.args.reading.now.faults.ok.0)
