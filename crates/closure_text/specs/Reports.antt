-- The text of the answer. Assumes nothing.
use Rattle.std.specs.Prelude.{◌≡◌, ℕ, ◌+◌, List, [], ◌∷◌, ◌++◌, length, Some, None, codes, decimal, Option}
use Rattle.std.specs.List.{flat_map}
use Rattle.sets.specs.Members.{size}
use Rattle.text.specs.Split.{lines}
use Rattle.closure_text.specs.declared.line.LineFault.{LineFault}
use Rattle.closure.specs.Silent.{FewestArcs, reached_in}
use Rattle.closure_text.specs.Lines.{place_of, reason_of}
use Rattle.closure_text.specs.Readings.{starts_of, arcs_of, faults_of}

-- where a refused line is wrong, and why
abbrev pub fault_text : LineFault → List ℕ
fault_text f = codes "line " ++ (decimal (place_of f).line ++ (codes ", byte " ++ (decimal (place_of f).offset ++ (codes ": " ++ reason_of f))))

-- the same as a line
abbrev pub fault_line : LineFault → List ℕ
fault_line f = fault_text f ++ (10 ∷ [])

-- a stage and the fewest silent arcs to it
abbrev pub stage_line : ℕ → ℕ → List ℕ
stage_line stage steps = codes "stage " ++ (decimal stage ++ (codes ", silent steps " ++ (decimal steps ++ (10 ∷ []))))

-- such a line for each stage that is reached, from the given stage on
abbrev pub stage_lines : ℕ → List (Option ℕ) → List ℕ
stage_lines stage [] = []
stage_lines stage (None ∷ xs) = stage_lines (stage + 1) xs
stage_lines stage (Some steps ∷ xs) = stage_line stage steps ++ stage_lines (stage + 1) xs

-- how many stages are reached, how many starts were given, and how many lines were refused
abbrev pub count_line : ℕ → ℕ → ℕ → List ℕ
count_line reached starts faults =
    codes "stages reached " ++ (decimal reached ++ (codes ", starts " ++ (decimal starts ++ (codes ", lines refused " ++ (decimal faults ++ (10 ∷ []))))))

-- the whole answer
abbrev pub answer_of : List LineFault → List ℕ → List (Option ℕ) → List ℕ
answer_of faults starts steps = flat_map fault_line faults ++ (stage_lines 0 steps ++ count_line (size 256 (reached_in steps)) (length starts) (length faults))

-- what is answered to an input: with the fewest silent arcs from its starts to each of the 256 stages, the whole answer
pub record Responds (input answer : List ℕ) : Type 0 where
  pub steps : List (Option ℕ)
  pub all : length steps ≡ 256
  pub fewest : FewestArcs (arcs_of (lines input)) (starts_of (lines input)) steps
  pub text : answer ≡ answer_of (faults_of (lines input)) (starts_of (lines input)) steps
