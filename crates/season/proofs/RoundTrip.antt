-- A book's canonical text, read again as a season, makes a book alike.
use Rattle.std.proofs.Common.{◌≡◌, ℕ, zero, suc, ◌+◌, ◌<◌, ◌≤◌, Bool, true, false, cond, eqb, leb, List, [], ◌∷◌, ◌++◌, map, length, Some, None, Ok, codes, decimal, Option, Result, sym, refl, ap, ◌∙◌, subst, inl, inr, arith, length-append}
use Rattle.std.specs.Str.{bytes_eq}
use Rattle.std.proofs.lemmas.Bool.{le-leb, and_from}
use Rattle.std.proofs.lemmas.Grind.{flat_map-append}
use Rattle.std.proofs.lemmas.List.Elements.{All-from_recursion, recursion_from_All, All-append}
use Rattle.text.specs.Split.{Told, parts}
use Rattle.rules.specs.declared.change.Arc.{Arc as AnArc}
use Rattle.rules.specs.declared.change.Change.{Change}
use Rattle.rules.specs.declared.change.Change.TheVariants.{Stage, Drop, Arc, Cut, Mark}
use Rattle.rules.specs.declared.change.BookFault.{BookFault}
use Rattle.rules.specs.Rules.{Rules, WellFormed, fresh}
use Rattle.rules.specs.Changes.{changed, Leads}
use Rattle.rules.specs.ChangeLines.{change_line, Small}
use Rattle.rules.specs.Counts.{Among}
use Rattle.rules.specs.Listing.{each_below}
use Rattle.sheet.specs.declared.changes.PlacedChange.{PlacedChange}
use Rattle.sheet_faults.specs.declared.Declined.{Declined}
use Rattle.sheet_faults.specs.declared.SheetFault.{SheetFault}
use Rattle.text.specs.Outcomes.{over, and_then}
use Rattle.book_update.specs.Updates.{unless, applied, in_book, sheet_applied}
use Rattle.book_text.specs.Canonical.{stage_change, stage_changes, line_text, in_sheets, text_of, CanonicalChanges}
use Rattle.book_text.proofs.Rebuilding.{leads_append, rebuilt}
use Rattle.season_text.specs.Seasons.{line_texts, ranged, events_of, sheets_from, others}
use Rattle.season.specs.RoundTrip.{Accepted, ReadsBack}
use Rattle.text.proofs.Numerals.{numeral}
use Rattle.text.proofs.Parting.{part_more}
use Rattle.season.proofs.ReadingBack.{AllSmall, lines_text, line_is, no_end, reads_back}

abbrev texts : List Told → List (List ℕ)
texts ps = map (λ p. p.text) ps

-- the lines of changes in sheets
abbrev sheet_lines : ℕ → List Change → List (List ℕ)
sheet_lines room [] = codes "end" ∷ [] ∷ []
sheet_lines zero (c ∷ cs) = codes "end" ∷ change_line c ∷ sheet_lines 63 cs
sheet_lines (suc room) (c ∷ cs) = change_line c ∷ sheet_lines room cs

one_line : (c : Change) (rest : List ℕ) (line at : ℕ) → Small c →
    texts (parts 10 1 line at (line_text c ++ rest)) ≡ change_line c ∷ texts (parts 10 1 (line + 1) (at + (length (change_line c) + 1)) rest)
one_line c rest line at s = ap (λ (x : List ℕ). texts (parts 10 1 line at x)) (line_is c rest) ∙ ap texts (part_more 10 1 line at (change_line c) rest (no_end c s))

lines_in : (cs : List Change) (room line at : ℕ) → AllSmall cs → texts (parts 10 1 line at (in_sheets room cs)) ≡ sheet_lines room cs
unfolding in_sheets
lines_in [] room line at s = refl
lines_in (c ∷ cs) zero line at s =
    ap texts (part_more 10 1 line at (codes "end") (line_text c ++ in_sheets 63 cs) refl)
    ∙ ap (λ (ls : List (List ℕ)). codes "end" ∷ ls) (one_line c (in_sheets 63 cs) (line + 1) (at + 4) s.0 ∙ ap (λ (ls : List (List ℕ)). change_line c ∷ ls) (lines_in cs 63 _ _ s.1))
lines_in (c ∷ cs) (suc room) line at s = one_line c (in_sheets room cs) line at s.0 ∙ ap (λ (ls : List (List ℕ)). change_line c ∷ ls) (lines_in cs room _ _ s.1)

-- changes that a book takes are taken when they are read as a sheet
leads_applied : (W : ℕ) (items : List PlacedChange) (b after : Rules) → Leads W (map (λ x. x.change) items) b after → applied W b items ≡ Ok after
leads_applied W [] b after h = ap {B = Result Rules Declined} Ok h
leads_applied W (x ∷ xs) b after h =
    ap (λ (o : Option BookFault). unless o x.place (applied W (changed b x.change) xs)) h.0
    ∙ leads_applied W xs (changed b x.change) after h.1

one_sheet : (W : ℕ) (cs : List Change) (b after : Rules) → AllSmall cs → length cs ≤ 64 → Leads W cs b after → (n : ℕ) × (sheet_applied W b (lines_text cs) ≡ Ok (n, after))
one_sheet W cs b after s le h =
    let i = reads_back cs s le in
    let l = subst (λ (xs : List Change). Leads W xs b after) (sym i.2) h in (
      length i.0,
      ap (λ (x : Result (List PlacedChange) SheetFault). and_then x (λ items. over (λ next. (length items, next)) (in_book (applied W b items)))) i.1
          ∙ ap (λ (x : Result Rules Declined). over (λ next. (length i.0, next)) (in_book x)) (leads_applied W i.0 b after l),
    )

small_append : (xs ys : List Change) → AllSmall xs → AllSmall ys → AllSmall (xs ++ ys)
small_append xs ys p q = recursion_from_All Small (xs ++ ys) (All-append Small xs ys (All-from_recursion Small xs p) (All-from_recursion Small ys q))

not_end : (c : Change) → bytes_eq (change_line c) (codes "end") ≡ false
not_end (Stage n m) = refl
not_end (Drop n) = refl
not_end (Arc a) = refl
not_end (Cut a) = refl
not_end (Mark n m) = refl

lines_push : (done : List Change) (c : Change) → lines_text (done ++ c ∷ []) ≡ lines_text done ++ (change_line c ++ (10 ∷ []))
lines_push done c = flat_map-append line_text done (c ∷ []) ∙ ap (λ (t : List ℕ). lines_text done ++ t) (line_is c [])

-- one more line of a sheet is read
line_read : (done : List Change) (c : Change) (ls : List (List ℕ)) → sheets_from (lines_text done) (change_line c ∷ ls) ≡ sheets_from (lines_text (done ++ c ∷ [])) ls
line_read done c ls =
    ap (λ (v : Bool). cond v (lines_text done ∷ sheets_from [] ls) (sheets_from (lines_text done ++ (change_line c ++ (10 ∷ []))) ls)) (not_end c)
    ∙ ap (λ (x : List ℕ). sheets_from x ls) (sym (lines_push done c))

-- the sheets of changes, of which some stand in the sheet that is being read, are accepted
accepted : (W : ℕ) (cs : List Change) (room : ℕ) (done : List Change) (b now after : Rules) → AllSmall done → AllSmall cs → length done + room ≡ 64 →
    Leads W done b now → Leads W cs now after → Accepted W b (sheets_from (lines_text done) (sheet_lines room cs)) after
accepted W [] room done b now after p q r h k = let s = one_sheet W done b now p (omega arith) h in (s.0, now, s.1, k)
accepted W (c ∷ cs) zero done b now after p q r h k =
    let s = one_sheet W done b now p (omega arith) h in
    let on = accepted W cs 63 (c ∷ []) now (changed now c) after (q.0, tt) q.1 refl (k.0, refl) k.1 in
    (s.0, now, s.1, subst (λ (ss : List (List ℕ)). Accepted W now ss after) (sym (line_read [] c (sheet_lines 63 cs))) on)
accepted W (c ∷ cs) (suc room) done b now after p q r h k =
    let on = accepted W cs room (done ++ c ∷ []) b (changed now c) after (small_append done (c ∷ []) p (q.0, tt)) q.1 (omega (arith, length-append done (c ∷ [])))
    (leads_append W done (c ∷ []) b now (changed now c) h (k.0, refl)) k.1 in
    subst (λ (ss : List (List ℕ)). Accepted W b ss after) (sym (line_read done c (sheet_lines room cs))) on

-- the numbers of canonical changes have at most three digits
small_each : (n : ℕ) (f : ℕ → List Change) → ((k : ℕ) → k < n → AllSmall (f k)) → AllSmall (each_below n f)
unfolding each_below
small_each zero f h = tt
small_each (suc n) f h = small_append (each_below n f) (f n) (small_each n f (λ k lt. h k (omega arith))) (h n (omega arith))

module _ (W : ℕ) (b : Rules) (wide : W ≤ 256) (g : WellFormed W b) where
  small_stage : (n : ℕ) → n < 256 → AllSmall (stage_change b n)
  small_stage n lt = go (eqb n 0) (b.live n) refl
    where
      go : (u v : Bool) → b.live n ≡ v → AllSmall (cond u (Mark 0 (b.mark 0) ∷ []) (cond v (Stage n (b.mark n) ∷ []) []))
      go true v h = ((omega arith, omega (arith, g.small_mark 0 g.start_live)), tt)
      go false true h = ((omega arith, omega (arith, g.small_mark n h)), tt)
      go false false h = tt

  small_arcs : (arcs : List AnArc) → ((x : AnArc) → Among x arcs → b.arc x.from x.label x.to ≡ true) → AllSmall (map Arc arcs)
  small_arcs [] h = tt
  small_arcs (x ∷ xs) h =
      let e = g.arc_fits x.from x.label x.to (h x (inl refl)) in
      ((omega (arith, wide, g.few_stages x.from e.0), omega (arith, e.2, g.few_events), omega (arith, wide, g.few_stages x.to e.1)), small_arcs xs (λ y k. h y (inr k)))

  small_canonical : (changes : List Change) → CanonicalChanges b changes → AllSmall changes
  small_canonical changes q =
      subst AllSmall (sym q.are)
      (small_append (stage_changes b) (map Arc q.arcs) (small_each 256 (stage_change b) small_stage) (small_arcs q.arcs (λ x. (q.in_order.exactly x).0)))

-- the lines of a text of events and changes
lines_of : (E : ℕ) (changes : List Change) → E < 1000 → AllSmall changes → line_texts (text_of E changes) ≡ decimal E ∷ sheet_lines 64 changes
lines_of E changes lt s =
    ap texts (part_more 10 1 1 0 (decimal E) (in_sheets 64 changes) (numeral E lt).no_end)
    ∙ ap (λ (ls : List (List ℕ)). decimal E ∷ ls) (lines_in changes 64 _ _ s)

events_of_lem : (E : ℕ) (ls : List (List ℕ)) → 0 < E → E ≤ 15 → events_of (decimal E ∷ ls) ≡ Some E
events_of_lem E ls p q =
    ap ranged (numeral E (omega arith)).reads
    ∙ ap (λ (v : Bool). cond {A = Option ℕ} v (Some E) None) (and_from (leb 1 E) (leb E 15) (le-leb 1 E (omega arith)) (le-leb E 15 q))

pub canonical_reads_back : ReadsBack
canonical_reads_back W b text wide g q =
    let E = b.events in
    let r = rebuilt W b q.changes wide g q.canonical in
    let s = small_canonical W b wide g q.changes q.canonical in
    let e : line_texts text ≡ decimal b.events ∷ sheet_lines 64 q.changes = ap line_texts q.is ∙ lines_of b.events q.changes (omega (arith, g.few_events)) s in (
      ap events_of e ∙ events_of_lem b.events (sheet_lines 64 q.changes) g.some_event g.few_events,
      (
        r.0,
        subst (λ (ls : List (List ℕ)). Accepted W (fresh b.events) (sheets_from [] (others ls)) r.0) (sym e)
            (accepted W q.changes 64 [] (fresh b.events) (fresh b.events) r.0 tt s refl refl r.1),
        r.2,
      ),
    )
