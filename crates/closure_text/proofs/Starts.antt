-- Every start that a line gives is a stage. Assumes nothing.
use Rattle.std.proofs.Common.{◌≡◌, ℕ, ◌<◌, Bool, true, false, cond, ltb, List, [], ◌∷◌, Some, None, Ok, Err, codes, Option, Result, refl}
use Rattle.std.specs.List.{AllByRecursion as All}
use Rattle.std.specs.Option.{ok_or}
use Rattle.std.specs.Str.{bytes_eq}
use Rattle.std.proofs.ByRecursion.{All-append, All-get_or}
use Rattle.std.proofs.lemmas.Bool.{ltb-true, cond_both}
use Rattle.search.specs.Walks.{Starting}
use Rattle.text.specs.declared.parts.Place.{Place}
use Rattle.text.specs.Split.{Told, words, is_skipped_line}
use Rattle.text.specs.Numbers.{number_of}
use Rattle.closure_text.specs.declared.line.Request.{Request}
use Rattle.closure_text.specs.declared.line.Request.TheVariants.{Start, Arc}
use Rattle.closure_text.specs.declared.line.LineFault.{LineFault}
use Rattle.closure_text.specs.declared.line.LineFault.TheVariants.{WordCount, NotStage}
use Rattle.text.specs.Counted.{one_of, two_of}
use Rattle.text.specs.Outcomes.{and_then}
use Rattle.closure_text.specs.Lines.{stage_at, stage_of, from_words, request_of}
use Rattle.closure_text.specs.Readings.{starts_in, starts_of}

-- what a line answers, if it is a start, is a stage
abbrev Low : Result (Option Request) LineFault → Type 0
Low r = All (λ s. s < 256) (starts_in r)

low_stage : (p : Place) (n : ℕ) (b : Bool) → ltb n 256 ≡ b → Low (and_then (cond b (Ok n) (Err (NotStage p))) (λ s. Ok (Some (Start s))))
low_stage p n true e = (ltb-true n 256 e, tt)
low_stage p n false e = tt

low_start : (p : Place) (o : Option ℕ) → Low (and_then (stage_at p o) (λ s. Ok (Some (Start s))))
low_start p None = tt
low_start p (Some n) = low_stage p n (ltb n 256) refl

low_one : (r : Result Told LineFault) → Low (and_then r (λ w. and_then (stage_of w) (λ s. Ok (Some (Start s)))))
low_one (Ok w) = low_start w.place (number_of w.text)
low_one (Err e) = tt

low_to : (u : ℕ) (r : Result ℕ LineFault) → Low (and_then r (λ v. Ok (Some (Arc u v))))
low_to u (Ok v) = tt
low_to u (Err e) = tt

low_from : (r q : Result ℕ LineFault) → Low (and_then r (λ u. and_then q (λ v. Ok (Some (Arc u v)))))
low_from (Ok u) q = low_to u q
low_from (Err e) q = tt

low_two : (r : Result (Told × Told) LineFault) → Low (and_then r (λ w. and_then (stage_of w.0) (λ u. and_then (stage_of w.1) (λ v. Ok (Some (Arc u v))))))
low_two (Ok w) = low_from (stage_of w.0) (stage_of w.1)
low_two (Err e) = tt

low_words : (p : Place) (ws : List Told) → Low (from_words p ws)
low_words p [] = tt
low_words p (h ∷ ws) =
    cond_both (bytes_eq h.text (codes "start")) _ _ Low (λ _. low_one (ok_or (one_of ws) (WordCount p)))
    (λ _. cond_both (bytes_eq h.text (codes "arc")) _ _ Low (λ _. low_two (ok_or (two_of ws) (WordCount p))) (λ _. tt))

low_line : (l : Told) → Low (request_of l)
low_line l = cond_both (is_skipped_line l.text) _ _ Low (λ _. tt) (λ _. low_words l.place (words l))

low_lines : (ls : List Told) → All (λ s. s < 256) (starts_of ls)
low_lines [] = tt
low_lines (l ∷ ls) = All-append (λ s. s < 256) (starts_in (request_of l)) (starts_of ls) (low_line l) (low_lines ls)

pub starts_are_stages : (ls : List Told) → Starting 256 (starts_of ls)
starts_are_stages ls j h = All-get_or (λ s. s < 256) (starts_of ls) j 0 h (low_lines ls)
