-- A reading of lines, one after another. Assumes nothing.
use Rattle.std.proofs.Common.{◌≡◌, ℕ, Bool, true, false, ◌||◌, List, ◌∷◌, ◌++◌, vec_items, refl, ap, ◌∙◌, append_assoc}
use Rattle.text.specs.Split.{Told}
use Rattle.closure_text.specs.declared.reading.Reading.{Reading}
use Rattle.closure.specs.Silent.{has_arc}
use Rattle.closure_text.specs.Lines.{request_of}
use Rattle.closure_text.specs.Readings.{starts_in, arc_given, faults_in, starts_of, arcs_of, faults_of, Added}

-- what is read, with what the lines that are left ask for, is what all ask for
pub record Begun (all rest : List Told) (r : Reading) : Type 0 where
  pub arcs : (u v : ℕ) → (has_arc r.arcs u v || arcs_of rest u v) ≡ arcs_of all u v
  pub starts : vec_items r.starts ++ starts_of rest ≡ starts_of all
  pub faults : vec_items r.faults ++ faults_of rest ≡ faults_of all

-- one line more
pub begun_more : (all rest : List Told) (l : Told) (old new : Reading) → Begun all (l ∷ rest) old → Added (request_of l) old new → Begun all rest new
begun_more all rest l old new b a =
    record {
      arcs = λ u v. ap (λ (t : Bool). t || arcs_of rest u v) (a.arcs u v) ∙ or_assoc (has_arc old.arcs u v) (arc_given (request_of l) u v) (arcs_of rest u v) ∙ b.arcs u v;
      starts = ap (λ xs. xs ++ starts_of rest) a.starts ∙ append_assoc (vec_items old.starts) (starts_in (request_of l)) (starts_of rest) ∙ b.starts;
      faults = ap (λ xs. xs ++ faults_of rest) a.faults ∙ append_assoc (vec_items old.faults) (faults_in (request_of l)) (faults_of rest) ∙ b.faults;
    }
  where
    or_assoc : (x y z : Bool) → ((x || y) || z) ≡ (x || (y || z))
    or_assoc true y z = refl
    or_assoc false y z = refl
