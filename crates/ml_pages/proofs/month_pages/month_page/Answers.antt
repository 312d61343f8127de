use Rattle.std.proofs.Common.{◌≡◌, ◌∙◌, Some, length, map, ap, ap₂, sym}
use Rattle.std.proofs.lemmas.Bool.{eqb-true, eqb-false}
use Rattle.ml_base.specs.Bytes.{Text}
use Rattle.ml_filing.specs.Posts.{entry}
use Rattle.ml_pages.specs.Counting.{in_month}
use Rattle.ml_pages.specs.Pages.{month_name, on_page, title}
use Rattle.ml_pages.specs.Parts.{entry_lines, page_around}
use Rattle.ml_pages.proofs.Paged.{month_in, not_there, page_entries, page_in, page_none, page_some, some_page}
use Rattle.ml_pages.proofs.month_pages.month_page.Goals as goal

pub returns-then-not-may_be_there-clause-value : goal.returns-then-not-may_be_there-clause-value
returns-then-not-may_be_there-clause-value g c told posts is =
    not_there c.args.config.now c.args.year c.args.month c.args.page posts is.each (is.counted).few (sym c.may_be_there.ensures ∙ c.if-not-may_be_there.true)

pub returns-then-is_empty-clause-value : goal.returns-then-is_empty-clause-value
returns-then-is_empty-clause-value g c told posts is =
    let page = c.args.page in
    let xs = in_month c.args.year c.args.month posts in
    let there = some_page c.args.year c.args.month page (sym c.may_be_there.ensures ∙ c.if-not-may_be_there.false) in
    let lines : c.in_ok-lines.lines ≡ entry_lines (map entry (on_page page xs)) = c.in_ok-lines.ensures.value told posts is ∙ ap entry_lines (page_entries page xs there) in
    page_none (title c.args.config.now (month_name c.args.year c.args.month)) c.in_ok-lines.lines (on_page page xs) lines (eqb-true (length c.in_ok-lines.lines) 0 (sym c.is_empty.ensures ∙ c.if-is_empty.true))

pub returns-clause-value : goal.returns-clause-value
returns-clause-value g c told posts is =
    let page = c.args.page in
    let xs = in_month c.args.year c.args.month posts in
    let name = title c.args.config.now (month_name c.args.year c.args.month) in
    let there = some_page c.args.year c.args.month page (sym c.may_be_there.ensures ∙ c.if-not-may_be_there.false) in
    let lines : c.in_ok-lines.lines ≡ entry_lines (map entry (on_page page xs)) = c.in_ok-lines.ensures.value told posts is ∙ ap entry_lines (page_entries page xs there) in
    ap Some (c.in_ok-page_text.ensures ∙ ap₂ (λ (n l : Text). page_around (title c.args.config.now n) l) c.month_name-name.ensures c.as_slice.ensures)
    ∙ page_some name c.in_ok-lines.lines (on_page page xs) (page_in page xs (month_in c.args.year c.args.month posts is.each)) lines (eqb-false (length c.in_ok-lines.lines) 0 (sym c.is_empty.ensures ∙ c.if-is_empty.false))
