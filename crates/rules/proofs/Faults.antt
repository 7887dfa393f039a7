-- Which condition on a change is the first to hold: none where nothing stands against it, and past the ends of an arc.
use Rattle.std.proofs.Common.{◌≡◌, ℕ, ◌<◌, ◌≤◌, Bool, true, false, cond, not, ◌||◌, ltb, Some, None, Option, ap, ◌∙◌}
use Rattle.std.proofs.lemmas.Bool.{ltb-true, ltb-false, lt-ltb, le-ltb, not-false, or_parts, or_from}
use Rattle.rules.specs.declared.change.Arc.{Arc as AnArc}
use Rattle.rules.specs.declared.change.Change.TheVariants.{Stage, Arc, Cut, Mark}
use Rattle.rules.specs.declared.change.BookFault.{BookFault}
use Rattle.rules.specs.declared.change.BookFault.TheVariants.{OutOfRange, LiveAlready, NotLive, ArcStands, ArcAbsent, BookFull}
use Rattle.rules.specs.Rules.{Rules, standing}
use Rattle.rules.specs.Changes.{first_fault, Ends}

-- a stage that is not live is made live, and a live stage is given a mark
pub stage_free : (W : ℕ) (b : Rules) (n m : ℕ) → n < W → m ≤ 7 → b.live n ≡ false → first_fault W b (Stage n m) ≡ None
stage_free W b n m p q h =
    ap (λ (x : Bool). cond {A = Option BookFault} x (Some OutOfRange) (cond (b.live n) (Some LiveAlready) None))
    (or_from (not (ltb n W)) (ltb 7 m) (ap not (lt-ltb n W p)) (le-ltb 7 m q))
    ∙ ap (λ (x : Bool). cond {A = Option BookFault} x (Some LiveAlready) None) h

pub mark_free : (W : ℕ) (b : Rules) (n m : ℕ) → n < W → m ≤ 7 → b.live n ≡ true → first_fault W b (Mark n m) ≡ None
mark_free W b n m p q h =
    ap (λ (x : Bool). cond {A = Option BookFault} x (Some OutOfRange) (cond (not (b.live n)) (Some NotLive) None))
    (or_from (not (ltb n W)) (ltb 7 m) (ap not (lt-ltb n W p)) (le-ltb 7 m q))
    ∙ ap (λ (x : Bool). cond {A = Option BookFault} (not x) (Some NotLive) None) h

-- the stages and the label of an arc pass the two tests that come first
pub record Fine (W : ℕ) (b : Rules) (m e n : ℕ) : Type 0 where
  pub inside : (not (ltb m W) || (ltb b.events e || not (ltb n W))) ≡ false
  pub alive : (not (b.live m) || not (b.live n)) ≡ false

pub from_live : (W : ℕ) (b : Rules) (m e n : ℕ) → Fine W b m e n → b.live m ≡ true
from_live W b m e n f = not-false (b.live m) (or_parts (not (b.live m)) (not (b.live n)) f.alive).0

pub to_live : (W : ℕ) (b : Rules) (m e n : ℕ) → Fine W b m e n → b.live n ≡ true
to_live W b m e n f = not-false (b.live n) (or_parts (not (b.live m)) (not (b.live n)) f.alive).1

pub label_low : (W : ℕ) (b : Rules) (m e n : ℕ) → Fine W b m e n → e ≤ b.events
label_low W b m e n f =
    ltb-false b.events e (or_parts (ltb b.events e) (not (ltb n W)) (or_parts (not (ltb m W)) (ltb b.events e || not (ltb n W)) f.inside).1).0

-- they pass exactly if an arc of the book may join the stages
pub fine_ends : (W : ℕ) (b : Rules) (m e n : ℕ) → Fine W b m e n → Ends W b m e n
fine_ends W b m e n f =
    let u = or_parts (not (ltb m W)) (ltb b.events e || not (ltb n W)) f.inside in
    let v = or_parts (ltb b.events e) (not (ltb n W)) u.1 in
    record {
      from_low = ltb-true m W (not-false (ltb m W) u.0);
      to_low = ltb-true n W (not-false (ltb n W) v.1);
      label = label_low W b m e n f;
      from_live = from_live W b m e n f;
      to_live = to_live W b m e n f;
    }

pub ends_fine : (W : ℕ) (b : Rules) (m e n : ℕ) → Ends W b m e n → Fine W b m e n
ends_fine W b m e n d = record {
  inside = or_from (not (ltb m W)) (ltb b.events e || not (ltb n W)) (ap not (lt-ltb m W d.from_low))
      (or_from (ltb b.events e) (not (ltb n W)) (le-ltb b.events e d.label) (ap not (lt-ltb n W d.to_low)));
  alive = or_from (not (b.live m)) (not (b.live n)) (ap not d.from_live) (ap not d.to_live);
}

abbrev past_ends : Bool → Bool → Option BookFault → Option BookFault
past_ends x y o = cond x (Some OutOfRange) (cond y (Some NotLive) o)

-- what is left to answer of an arc to add: v, whether it stands, and w, whether there is no room
abbrev pub after_ends : Bool → Bool → Option BookFault
after_ends v w = cond v (Some ArcStands) (cond w (Some BookFull) None)

pub arc_first : (W : ℕ) (b : Rules) (a : AnArc) → Fine W b a.from a.label a.to → (v w : Bool) → b.arc a.from a.label a.to ≡ v →
    not (ltb (standing b) 1024) ≡ w → first_fault W b (Arc a) ≡ after_ends v w
arc_first W b a f v w p q =
    ap (λ (x : Bool). past_ends x (not (b.live a.from) || not (b.live a.to)) (after_ends (b.arc a.from a.label a.to) (not (ltb (standing b) 1024)))) f.inside
    ∙ ap (λ (y : Bool). past_ends false y (after_ends (b.arc a.from a.label a.to) (not (ltb (standing b) 1024)))) f.alive
    ∙ ap (λ (x : Bool). after_ends x (not (ltb (standing b) 1024))) p
    ∙ ap (λ (x : Bool). after_ends v x) q

-- of an arc to remove: v, whether it stands
pub cut_first : (W : ℕ) (b : Rules) (a : AnArc) → Fine W b a.from a.label a.to → (v : Bool) → b.arc a.from a.label a.to ≡ v →
    first_fault W b (Cut a) ≡ cond (not v) (Some ArcAbsent) None
cut_first W b a f v p =
    ap (λ (x : Bool). past_ends x (not (b.live a.from) || not (b.live a.to)) (cond (not (b.arc a.from a.label a.to)) (Some ArcAbsent) None)) f.inside
    ∙ ap (λ (y : Bool). past_ends false y (cond (not (b.arc a.from a.label a.to)) (Some ArcAbsent) None)) f.alive
    ∙ ap (λ (x : Bool). cond {A = Option BookFault} (not x) (Some ArcAbsent) None) p
