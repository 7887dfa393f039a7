-- Every book record means a well-formed book.
use Rattle.std.proofs.Common.{ℕ, is_some, arith}
use Rattle.std.proofs.lemmas.List.Sums.{count_by-le-length}
use Rattle.rules.specs.Rules.{WellFormed}
use Rattle.book.specs.declared.record.Book.{Book}
use Rattle.book.specs.Records.{LiveBelow, rules_of}
use Rattle.book.proofs.BookWrites.{low_live, ends_fit, standing_meant}

pub live_below : (b : Book) → LiveBelow 256 (rules_of b)
live_below b = low_live b.stages b.consistent.1.0

pub well_formed : (W : ℕ) (b : Book) → LiveBelow W (rules_of b) → WellFormed W (rules_of b)
well_formed W b low = record {
  some_event = omega (arith, b.consistent.0.0);
  few_events = b.consistent.0.1;
  start_live = b.consistent.1.1;
  few_stages = low;
  small_mark = λ n h. b.consistent.1.2 n;
  arc_fits = ends_fit b;
  few_arcs = omega (arith, standing_meant b, count_by-le-length is_some b.arcs, b.consistent.2.0);
}
