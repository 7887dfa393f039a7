-- What the lines of the input ask for: `start STAGE` or `arc FROM TO`. Assumes nothing.
use Rattle.std.specs.Prelude.{ℕ, cond, List, [], ◌∷◌, Some, None, Ok, Err, codes, Option, Result, nat_lt}
use Rattle.std.specs.Option.{ok_or}
use Rattle.std.specs.Str.{bytes_eq}
use Rattle.text.specs.declared.parts.Place.{Place}
use Rattle.text.specs.Split.{Told, words, is_skipped_line}
use Rattle.text.specs.Counted.{one_of, two_of}
use Rattle.text.specs.Outcomes.{and_then}
use Rattle.text.specs.Numbers.{number_of}
use Rattle.closure_text.specs.declared.line.Request.{Request}
use Rattle.closure_text.specs.declared.line.Request.TheVariants.{Start, Arc}
use Rattle.closure_text.specs.declared.line.LineFault.{LineFault}
use Rattle.closure_text.specs.declared.line.LineFault.TheVariants.{UnknownWord, WordCount, NotStage}

-- each fault's reason in words
abbrev pub reason_of : LineFault → List ℕ
reason_of (UnknownWord p) = codes "first word is not start or arc"
reason_of (WordCount p) = codes "not start STAGE or arc FROM TO"
reason_of (NotStage p) = codes "not a stage from 0 to 255"

-- each fault's place
abbrev pub place_of : LineFault → Place
place_of (UnknownWord p) = p
place_of (WordCount p) = p
place_of (NotStage p) = p

-- a number below 256 is a stage
abbrev pub stage_at : Place → Option ℕ → Result ℕ LineFault
stage_at p None = Err (NotStage p)
stage_at p (Some n) = cond (nat_lt n 256) (Ok n) (Err (NotStage p))

-- the stage that a word gives
abbrev pub stage_of : Told → Result ℕ LineFault
stage_of w = stage_at w.place (number_of w.text)

-- what the words of a line ask for: the first says how many stages follow
abbrev pub from_words : Place → List Told → Result (Option Request) LineFault
from_words p [] = Err (WordCount p)
from_words p (h ∷ ws) =
    cond (bytes_eq h.text (codes "start"))
    (and_then (ok_or (one_of ws) (WordCount p)) (λ w. and_then (stage_of w) (λ s. Ok (Some (Start s)))))
    (cond (bytes_eq h.text (codes "arc"))
    (and_then (ok_or (two_of ws) (WordCount p)) (λ w. and_then (stage_of w.0) (λ u. and_then (stage_of w.1) (λ v. Ok (Some (Arc u v))))))
    (Err (UnknownWord h.place)))

-- what a line asks for, or why it is refused; a line that is skipped asks for nothing
abbrev pub request_of : Told → Result (Option Request) LineFault
request_of line = cond (is_skipped_line line.text) (Ok None) (from_words line.place (words line))
