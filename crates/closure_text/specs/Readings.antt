-- What the lines of an input ask for, taken together. Assumes nothing.
use Rattle.std.specs.Prelude.{◌≡◌, ℕ, Bool, false, ◌&&◌, ◌||◌, List, [], ◌∷◌, ◌++◌, Some, None, Ok, Err, vec_items, Option, Result, ◌==◌, nat_lt}
use Rattle.text.specs.Split.{Told}
use Rattle.closure_text.specs.declared.line.Request.{Request}
use Rattle.closure_text.specs.declared.line.Request.TheVariants.{Start, Arc}
use Rattle.closure_text.specs.declared.line.LineFault.{LineFault}
use Rattle.closure_text.specs.declared.reading.Reading.{Reading}
use Rattle.closure.specs.Silent.{has_arc}
use Rattle.closure_text.specs.Lines.{request_of}

-- the start that a line gives, if any
abbrev pub starts_in : Result (Option Request) LineFault → List ℕ
starts_in (Ok None) = []
starts_in (Ok (Some (Start s))) = s ∷ []
starts_in (Ok (Some (Arc a b))) = []
starts_in (Err e) = []

-- whether a line gives the arc from u to v; a line that is read gives none but stages
abbrev pub arc_given : Result (Option Request) LineFault → ℕ → ℕ → Bool
arc_given (Ok None) u v = false
arc_given (Ok (Some (Start s))) u v = false
arc_given (Ok (Some (Arc a b))) u v = (u == a && v == b) && (nat_lt a 256 && nat_lt b 256)
arc_given (Err e) u v = false

-- the fault of a line, if it is refused
abbrev pub faults_in : Result (Option Request) LineFault → List LineFault
faults_in (Ok r) = []
faults_in (Err e) = e ∷ []

-- the starts of all lines, in order
abbrev pub starts_of : List Told → List ℕ
starts_of [] = []
starts_of (l ∷ ls) = starts_in (request_of l) ++ starts_of ls

-- the arcs of all lines
abbrev pub arcs_of : List Told → ℕ → ℕ → Bool
arcs_of [] u v = false
arcs_of (l ∷ ls) u v = arc_given (request_of l) u v || arcs_of ls u v

-- the faults of all lines, in order
abbrev pub faults_of : List Told → List LineFault
faults_of [] = []
faults_of (l ∷ ls) = faults_in (request_of l) ++ faults_of ls

-- nothing is read yet
pub record Blank (r : Reading) : Type 0 where
  pub arcs : (u v : ℕ) → has_arc r.arcs u v ≡ false
  pub starts : vec_items r.starts ≡ []
  pub faults : vec_items r.faults ≡ []

-- one more line is read
pub record Added (answer : Result (Option Request) LineFault) (old new : Reading) : Type 0 where
  pub arcs : (u v : ℕ) → has_arc new.arcs u v ≡ (has_arc old.arcs u v || arc_given answer u v)
  pub starts : vec_items new.starts ≡ vec_items old.starts ++ starts_in answer
  pub faults : vec_items new.faults ≡ vec_items old.faults ++ faults_in answer

-- what was read of these lines
pub record Reads (ls : List Told) (r : Reading) : Type 0 where
  pub arcs : (u v : ℕ) → has_arc r.arcs u v ≡ arcs_of ls u v
  pub starts : vec_items r.starts ≡ starts_of ls
  pub faults : vec_items r.faults ≡ faults_of ls
