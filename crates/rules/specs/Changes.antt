-- The five changes of a rule book, and the conditions under which a book declines one.
use Rattle.std.specs.Prelude.{◌≡◌, ℕ, ◌<◌, ◌≤◌, Bool, true, false, cond, not, ◌&&◌, ◌||◌, ◌⊎◌, ◌↔◌, List, [], ◌∷◌, Some, None, Option, ◌==◌, ◌≢◌, nat_lt}
use Rattle.rules.specs.declared.change.Change.{Change}
use Rattle.rules.specs.declared.change.Change.TheVariants.{Stage, Drop, Arc, Cut, Mark}
use Rattle.rules.specs.declared.change.BookFault.{BookFault}
use Rattle.rules.specs.declared.change.BookFault.TheVariants.{OutOfRange, LiveAlready, NotLive, DropsStart, HasArcs, ArcStands, ArcAbsent, BookFull}
use Rattle.rules.specs.Rules.{Rules, WellFormed, fresh, has_any_arc, standing}
use Rattle.rules.specs.Counts.{Counts}

-- The number by which each fault is told. A fault of the book has the place of its line in the sheet.
abbrev pub fault_number : BookFault → ℕ
fault_number OutOfRange = 21
fault_number LiveAlready = 23
fault_number NotLive = 22
fault_number DropsStart = 24
fault_number HasArcs = 25
fault_number ArcStands = 26
fault_number ArcAbsent = 27
fault_number BookFull = 28

-- The function f with the value v at n.
abbrev pub put : {A : Type 0} → (ℕ → A) → ℕ → A → ℕ → A
put f n v k = cond (k == n) v (f k)

-- The arcs with this one standing or not.
abbrev pub put_arc : (ℕ → ℕ → ℕ → Bool) → ℕ → ℕ → ℕ → Bool → ℕ → ℕ → ℕ → Bool
put_arc f m e n v x y z = cond (x == m && (y == e && z == n)) v (f x y z)

-- The book after a change.
abbrev pub changed : Rules → Change → Rules
changed b (Stage n m) = record { events = b.events; live = put b.live n true; mark = put b.mark n m; arc = b.arc }
changed b (Drop n) = record { events = b.events; live = put b.live n false; mark = b.mark; arc = b.arc }
changed b (Arc a) = record { events = b.events; live = b.live; mark = b.mark; arc = put_arc b.arc a.from a.label a.to true }
changed b (Cut a) = record { events = b.events; live = b.live; mark = b.mark; arc = put_arc b.arc a.from a.label a.to false }
changed b (Mark n m) = record { events = b.events; live = b.live; mark = put b.mark n m; arc = b.arc }

-- 21: a stage not below W, a label above the number of events or a mark above 7.
abbrev pub out_of_range : ℕ → Rules → Change → Bool
out_of_range W b (Stage n m) = not (nat_lt n W) || nat_lt 7 m
out_of_range W b (Drop n) = not (nat_lt n W)
out_of_range W b (Arc a) = not (nat_lt a.from W) || (nat_lt b.events a.label || not (nat_lt a.to W))
out_of_range W b (Cut a) = not (nat_lt a.from W) || (nat_lt b.events a.label || not (nat_lt a.to W))
out_of_range W b (Mark n m) = not (nat_lt n W) || nat_lt 7 m

-- 23: `stage` on a live stage.
abbrev pub live_already : Rules → Change → Bool
live_already b (Stage n m) = b.live n
live_already b (Drop n) = false
live_already b (Arc a) = false
live_already b (Cut a) = false
live_already b (Mark n m) = false

-- 22: another change's stage is not live.
abbrev pub not_live : Rules → Change → Bool
not_live b (Stage n m) = false
not_live b (Drop n) = not (b.live n)
not_live b (Arc a) = not (b.live a.from) || not (b.live a.to)
not_live b (Cut a) = not (b.live a.from) || not (b.live a.to)
not_live b (Mark n m) = not (b.live n)

-- 24: `drop` of stage 0.
abbrev pub drops_start : Change → Bool
drops_start (Stage n m) = false
drops_start (Drop n) = n == 0
drops_start (Arc a) = false
drops_start (Cut a) = false
drops_start (Mark n m) = false

-- 25: the dropped stage has arcs.
abbrev pub drops_joined : Rules → Change → Bool
drops_joined b (Stage n m) = false
drops_joined b (Drop n) = has_any_arc b n
drops_joined b (Arc a) = false
drops_joined b (Cut a) = false
drops_joined b (Mark n m) = false

-- 26: the added arc stands.
abbrev pub arc_stands : Rules → Change → Bool
arc_stands b (Stage n m) = false
arc_stands b (Drop n) = false
arc_stands b (Arc a) = b.arc a.from a.label a.to
arc_stands b (Cut a) = false
arc_stands b (Mark n m) = false

-- 27: the cut arc is absent.
abbrev pub arc_absent : Rules → Change → Bool
arc_absent b (Stage n m) = false
arc_absent b (Drop n) = false
arc_absent b (Arc a) = false
arc_absent b (Cut a) = not (b.arc a.from a.label a.to)
arc_absent b (Mark n m) = false

-- 28: an arc added where 1,024 stand.
abbrev pub no_room : Rules → Change → Bool
no_room b (Stage n m) = false
no_room b (Drop n) = false
no_room b (Arc a) = not (nat_lt (standing b) 1024)
no_room b (Cut a) = false
no_room b (Mark n m) = false

-- The first condition that holds of a change to a book of width W, from the top; none if the change is made.
abbrev pub first_fault : ℕ → Rules → Change → Option BookFault
first_fault W b ch =
    cond (out_of_range W b ch) (Some OutOfRange)
    (cond (live_already b ch) (Some LiveAlready)
    (cond (not_live b ch) (Some NotLive)
    (cond (drops_start ch) (Some DropsStart)
    (cond (drops_joined b ch) (Some HasArcs)
    (cond (arc_stands b ch) (Some ArcStands)
    (cond (arc_absent b ch) (Some ArcAbsent)
    (cond (no_room b ch) (Some BookFull) None)))))))

-- All the changes may be made, one after the other, and lead from one book to the other.
abbrev pub Leads : ℕ → List Change → Rules → Rules → Type 0
Leads W [] b after = b ≡ after
Leads W (ch ∷ chs) b after = (first_fault W b ch ≡ None) × Leads W chs (changed b ch) after

-- Stages that an arc of a book of width W may join, and a label that it may have.
pub record Ends (W : ℕ) (b : Rules) (m e n : ℕ) : Type 0 where
  pub from_low : m < W
  pub to_low : n < W
  pub label : e ≤ b.events
  pub from_live : b.live m ≡ true
  pub to_live : b.live n ≡ true

-- The change may be made in the book: the eight conditions turned round, in plain words.
abbrev pub Allowed : ℕ → Rules → Change → Type 0
Allowed W b (Stage n m) = (n < W) × (m ≤ 7) × (b.live n ≡ false)
Allowed W b (Drop n) = (n < W) × (b.live n ≡ true) × (n ≢ 0) × ((m e k : ℕ) → b.arc m e k ≡ true → (m ≢ n) × (k ≢ n))
Allowed W b (Arc a) = Ends W b a.from a.label a.to × (b.arc a.from a.label a.to ≡ false) × (standing b < 1024)
Allowed W b (Cut a) = Ends W b a.from a.label a.to × (b.arc a.from a.label a.to ≡ true)
Allowed W b (Mark n m) = (n < W) × (m ≤ 7) × (b.live n ≡ true)

-- What the conditions mean of a well-formed book.
pub record Conditions (W : ℕ) (b : Rules) : Type 0 where
  -- `standing` is the number of arcs;
  pub counts : Counts (ℕ × ℕ × ℕ) (λ a. b.arc a.0 a.1 a.2 ≡ true) (standing b)
  -- a stage has arcs exactly if one leaves or enters it;
  pub joined : (n : ℕ) → (has_any_arc b n ≡ true) ↔ ((m : ℕ) × (e : ℕ) × (k : ℕ) × (b.arc m e k ≡ true) × ((m ≡ n) ⊎ (k ≡ n)))
  -- no condition holds exactly if the change may be made,
  pub allowed : (ch : Change) → (first_fault W b ch ≡ None) ↔ Allowed W b ch
  -- and the book is then well formed again.
  pub stays : (ch : Change) → first_fault W b ch ≡ None → WellFormed W (changed b ch)

-- The fresh book is well formed, and what the conditions mean.
pub record ChangeLaws : Type 0 where
  pub begins : (W E : ℕ) → 0 < W → 0 < E → E ≤ 15 → WellFormed W (fresh E)
  pub means : (W : ℕ) (b : Rules) → W ≤ 256 → WellFormed W b → Conditions W b
