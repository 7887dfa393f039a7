-- Lines written one after another. Assumes nothing.
use Rattle.std.proofs.Common.{◌≡◌, ℕ, Bool, List, ◌++◌, length, vec_items, Option, ap, ◌∙◌, ap₂, subst₂, append_assoc}
use Rattle.std.specs.List.{flat_map}
use Rattle.sets.specs.Members.{size}
use Rattle.text.specs.Split.{lines}
use Rattle.closure_text.specs.declared.line.LineFault.{LineFault}
use Rattle.closure_text.specs.declared.reading.Reading.{Reading}
use Rattle.closure.specs.Silent.{has_arc, reached_in, FewestArcs}
use Rattle.closure_text.specs.Readings.{arcs_of, Reads}
use Rattle.closure_text.specs.Reports.{fault_line, stage_lines, count_line, answer_of, Responds}

-- the three parts of the answer, one after another
pub whole_answer : (faults : List LineFault) (starts : List ℕ) (steps : List (Option ℕ)) (one two three : List ℕ) (reached given refused : ℕ) → one ≡ flat_map fault_line faults → two ≡ one ++ stage_lines 0 steps → three ≡ two ++ count_line reached given refused → reached ≡ size 256 (reached_in steps) → given ≡ length starts → refused ≡ length faults → three ≡ answer_of faults starts steps
whole_answer faults starts steps one two three reached given refused first second third many some wrong =
    third
    ∙ ap₂ (λ (a b : List ℕ). a ++ b) (second ∙ ap (λ (a : List ℕ). a ++ stage_lines 0 steps) first) counts
    ∙ append_assoc (flat_map fault_line faults) (stage_lines 0 steps) (count_line (size 256 (reached_in steps)) (length starts) (length faults))
  where
    counts : count_line reached given refused ≡ count_line (size 256 (reached_in steps)) (length starts) (length faults)
    counts =
        ap (λ (n : ℕ). count_line n given refused) many
        ∙ ap₂ (λ (n m : ℕ). count_line (size 256 (reached_in steps)) n m) some wrong

same_arcs : (f g : ℕ → ℕ → Bool) → ((u v : ℕ) → f u v ≡ g u v) → f ≡ g
same_arcs f g h i u v = h u v i

-- what is answered from a reading is answered to its input
pub responds : (input answer : List ℕ) (r : Reading) (steps : List (Option ℕ)) → Reads (lines input) r → length steps ≡ 256 → FewestArcs (has_arc r.arcs) (vec_items r.starts) steps → answer ≡ answer_of (vec_items r.faults) (vec_items r.starts) steps → Responds input answer
responds input answer r steps reads all fewest text =
    record {
      steps = steps;
      all = all;
      fewest = subst₂ (λ (arc : ℕ → ℕ → Bool) (starts : List ℕ). FewestArcs arc starts steps) (same_arcs (has_arc r.arcs) (arcs_of (lines input)) reads.arcs) reads.starts fewest;
      text = text ∙ ap₂ (λ (faults : List LineFault) (starts : List ℕ). answer_of faults starts steps) reads.faults reads.starts;
    }
