-- An arc that is added or cut: which condition is the first to hold, what the record then means, and what is true of it.
use Rattle.std.proofs.Common.{◌≡◌, ℕ, ◌+◌, ◌-◌, ◌<◌, ◌≤◌, Bool, true, false, cond, not, ◌||◌, ltb, length, position, get_or, set, is_some, Some, None, Ok, Err, Result, refl, ap, ◌∙◌, arith, length-set}
use Rattle.std.proofs.lemmas.Bool.{lt-ltb, le-ltb, le-leb, and_from}
use Rattle.std.proofs.lemmas.List.Folds.{list_any_at}
use Rattle.std.proofs.lemmas.List.Sums.{count_by-le-length}
use Rattle.rules.specs.declared.change.Arc.{Arc as AnArc}
use Rattle.rules.specs.declared.change.Change.TheVariants.{Arc, Cut}
use Rattle.rules.specs.declared.change.BookFault.{BookFault}
use Rattle.rules.specs.declared.change.BookFault.TheVariants.{OutOfRange, NotLive, ArcAbsent, BookFull}
use Rattle.rules.specs.Rules.{Rules, standing}
use Rattle.rules.specs.Changes.{first_fault, changed}
use Rattle.rules.proofs.Faults.{Fine, fine_ends, arc_first, cut_first}
use Rattle.book.specs.declared.record.Book.{Book}
use Rattle.book.specs.Slots.{here, arcs_in, tally, same_slot}
use Rattle.book.specs.Consistency.{Consistent, live_in, mark_in}
use Rattle.book.specs.Records.{rules_of, ends_answer}
use Rattle.book.proofs.SlotWrites.{arc_same, set_adds, set_cuts, tally_adds, tally_cuts, once_adds, once_cuts, fit_set, place_none, all_stand}
use Rattle.book.proofs.BookWrites.{standing_meant}

-- what `check_ends` answers where nothing stands against the ends and the label
pub fine : (W : ℕ) (b : Rules) (m e n : ℕ) → ◌≡◌ {A = Result (Unit {0}) BookFault} (Ok tt) (ends_answer W b m e n) → Fine W b m e n
fine W b m e n h = go _ _ refl refl h
  where
    go : (x y : Bool) → (not (ltb m W) || (ltb b.events e || not (ltb n W))) ≡ x → (not (b.live m) || not (b.live n)) ≡ y →
        ◌≡◌ {A = Result (Unit {0}) BookFault} (Ok tt) (cond x (Err OutOfRange) (cond y (Err NotLive) (Ok tt))) → Fine W b m e n
    go true y p q r = let z : ◌≡◌ {A = ℕ} 0 1 = cc in absurd (omega arith)
    go false true p q r = let z : ◌≡◌ {A = ℕ} 0 1 = cc in absurd (omega arith)
    go false false p q r = record { inside = p; alive = q }

-- a book with a free slot has room for an arc
pub room : (b : Book) (i : ℕ) → (i < length b.arcs) × (get_or b.arcs i None ≡ None) → tally b.arcs < 1024
room b i free =
    let x : AnArc = record { from = 0; label = 0; to = 0 } in
    omega (arith, tally_adds b.arcs i x free.0 free.1, count_by-le-length is_some (set b.arcs i (Some x)), length-set b.arcs i (Some x), b.consistent.2.0)

module _ (W : ℕ) (b : Book) (x : AnArc) (ends : ◌≡◌ {A = Result (Unit {0}) BookFault} (Ok tt) (ends_answer W (rules_of b) x.from x.label x.to)) where
  ok : Fine W (rules_of b) x.from x.label x.to
  ok = fine W (rules_of b) x.from x.label x.to ends

  -- an arc that does not stand is added, or the book is full
  module _ (absent : arcs_in b.arcs x.from x.label x.to ≡ false) where
    pub arc_full : position (same_slot None) b.arcs ≡ None → first_fault W (rules_of b) (Arc x) ≡ Some BookFull
    arc_full h =
        arc_first W (rules_of b) x ok false true absent
        (ap not (le-ltb (standing (rules_of b)) 1024 (omega (arith, standing_meant b, all_stand b.arcs (place_none (same_slot None) b.arcs h), b.consistent.2.0))))

    module _ (i : ℕ) (free : (i < length b.arcs) × (get_or b.arcs i None ≡ None)) where
      pub arc_added : (first_fault W (rules_of b) (Arc x) ≡ None)
          × ◌≡◌ {A = Rules} (record { events = b.events; live = live_in b.stages; mark = mark_in b.stages; arc = arcs_in (set b.arcs i (Some x)) }) (changed (rules_of b) (Arc x))
      arc_added = (
        arc_first W (rules_of b) x ok false false absent (ap not (lt-ltb (standing (rules_of b)) 1024 (omega (arith, standing_meant b, room b i free)))),
        λ j. record { events = b.events; live = live_in b.stages; mark = mark_in b.stages; arc = λ m e n. set_adds b.arcs i x m e n free.0 free.1 j },
      )

      pub arc_consistent : Consistent b.events b.stages (set b.arcs i (Some x)) (b.count + 1)
      arc_consistent = let e = fine_ends W (rules_of b) x.from x.label x.to ok in (
        b.consistent.0,
        b.consistent.1,
        (
          length-set b.arcs i (Some x) ∙ b.consistent.2.0,
          once_adds b.arcs i x free.0 free.1 absent b.consistent.2.1,
          fit_set (live_in b.stages) b.events b.arcs i (Some x) b.consistent.2.2
              (and_from (live_in b.stages x.from) _ e.from_live (and_from (live_in b.stages x.to) _ e.to_live (le-leb x.label b.events e.label))),
          omega (arith, b.consistent.2.3, tally_adds b.arcs i x free.0 free.1),
        ),
      )

  -- an arc that stands is cut
  pub cut_absent : position (same_slot (Some x)) b.arcs ≡ None → first_fault W (rules_of b) (Cut x) ≡ Some ArcAbsent
  cut_absent h = cut_first W (rules_of b) x ok false (place_none (same_slot (Some x)) b.arcs h)

  pub arc_cut : (i : ℕ) → (i < length b.arcs) × (get_or b.arcs i None ≡ Some x) → (first_fault W (rules_of b) (Cut x) ≡ None)
      × ◌≡◌ {A = Rules} (record { events = b.events; live = live_in b.stages; mark = mark_in b.stages; arc = arcs_in (set b.arcs i None) }) (changed (rules_of b) (Cut x))
  arc_cut i p =
      let t = ap (here x.from x.label x.to) p.1 ∙ arc_same x.from x.label x.to x.from x.label x.to refl refl refl in (
        cut_first W (rules_of b) x ok true (list_any_at (here x.from x.label x.to) b.arcs i None p.0 t),
        λ j. record { events = b.events; live = live_in b.stages; mark = mark_in b.stages; arc = λ m e n. set_cuts b.arcs i x m e n p.0 p.1 b.consistent.2.1 j },
      )

-- of the book that an arc is cut from
module _ (b : Book) (x : AnArc) (i : ℕ) (at : (i < length b.arcs) × (get_or b.arcs i None ≡ Some x)) where
  one_less : tally (set b.arcs i None) + 1 ≡ tally b.arcs
  one_less = tally_cuts b.arcs i x at.0 at.1

  pub some_count : 1 ≤ b.count
  some_count = omega (arith, b.consistent.2.3, one_less)

  pub cut_consistent : Consistent b.events b.stages (set b.arcs i None) (b.count - 1)
  cut_consistent = (
    b.consistent.0,
    b.consistent.1,
    (
      length-set b.arcs i None ∙ b.consistent.2.0,
      once_cuts b.arcs i b.consistent.2.1,
      fit_set (live_in b.stages) b.events b.arcs i None b.consistent.2.2 refl,
      omega (arith, b.consistent.2.3, one_less),
    ),
  )
