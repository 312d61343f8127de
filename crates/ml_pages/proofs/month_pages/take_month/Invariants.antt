use Rattle.std.proofs.Common.{◌≡◌, ◌++◌, List, take}
use Rattle.ml_filing.specs.declared.posts.Entry.{Entry}
use Rattle.ml_pages.specs.Counted.{of_month}
use Rattle.ml_pages.specs.Parts.{IsBegun, lines_with}
use Rattle.ml_pages.proofs.month_pages.take_month.Given as goal

abbrev pub invariant-loop-entry : goal.invariant-loop-entry
invariant-loop-entry l = record {
  lines : (es : List Entry) → lines_with l.page es ≡ lines_with l.fn.page (of_month l.year l.month (take l.entry-index l.entries) ++ es);
  begun : IsBegun l.fn.page → IsBegun l.page;
}
