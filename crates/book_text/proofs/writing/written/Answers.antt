use Rattle.std.proofs.Common.{◌≡◌, ◌++◌, string_bytes, vec_items, refl, ap, ◌∙◌, rules}
use Rattle.book.specs.Records.{rules_of}
use Rattle.book_text.proofs.Sheets.{sheets_left, some_left, some_change, sheet_written, all_written, whole_text}
use Rattle.book_text.proofs.writing.written.Goals as goal

pub loop-sheet-init : goal.loop-sheet-init
loop-sheet-init c = record { size = search rules; text = refl }

pub loop-sheet-preserved : goal.loop-sheet-preserved
loop-sheet-preserved c =
    let s = c.in-Some.ensures.steps in record {
      size = s.0 ∙ c.loop-sheet.invariant.size;
      text =
          sheet_written (string_bytes c.loop-sheet.text) _ _ _ c.loop-sheet.sheet-iterator.size _ c.in-Some.sheet.now _ c.loop-sheet.invariant.size
          s.1.0 s.1.1 s.1.2 c.in_ok-write_lines.ensures c.in_ok-push_str.ensures.bytes c.loop-sheet.invariant.text;
    }

pub returns : goal.returns
returns c =
    let changes = vec_items c.in_ok-changes.changes in
    let given : c.into_iter-sheet-iterator.result.rest.now ≡ changes = search rules in
    let sheets = ap sheets_left given ∙ some_left changes (some_change (rules_of c.args.book.now) changes c.in_ok-changes.ensures) in
    record {
      changes = changes;
      canonical = c.in_ok-changes.ensures;
      is =
          whole_text _ _ _ _ changes c.in_ok-text.ensures.ok c.events-events.ensures.is
          (all_written _ _ c.loop-sheet.sheet-iterator.rest.now c.in-None.ensures.steps.1.0 c.loop-sheet.invariant.text
          ∙ ap (λ bs. string_bytes c.in_ok-text.text ++ bs) sheets);
    }
