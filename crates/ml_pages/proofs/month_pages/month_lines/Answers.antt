use Rattle.std.proofs.Common.{◌≡◌, ◌≤◌, ◌+◌, ◌++◌, ◌∙◌, ◌⊎◌, ⊎_elim, refl, inl, inr, [], List, map, take, drop, ap, ap₂, sym, subst, arith}
use Rattle.ml_base.specs.Bytes.{Text}
use Rattle.ml_base.specs.Dir.{Dir}
use Rattle.ml_base.proofs.ReadingLemmas.{kept_then, kept_read}
use Rattle.ml_filing.specs.Answers.{IsIndexByFiles}
use Rattle.ml_filing.specs.Archive.{ArePosts}
use Rattle.ml_filing.specs.Posts.{Numbered, entry, index_of}
use Rattle.ml_filing.specs.declared.posts.Entry.{Entry}
use Rattle.ml_pages.specs.Counted.{of_month}
use Rattle.ml_pages.specs.Counting.{in_month}
use Rattle.ml_pages.specs.Parts.{entry_lines, lines_with}
use Rattle.ml_pages.specs.Reads.{IsIndexRead}
use Rattle.ml_pages.proofs.Paged.{month_end, month_from, month_start, month_step, page_ended}
use Rattle.ml_pages.proofs.Reading.{index_read, none_below, one_more_below}
use Rattle.ml_pages.proofs.month_pages.month_lines.Goals as goal
use Rattle.ml_pages.proofs.month_pages.month_lines.Goals.{then-loop-group-test+else-page-gt0, else-loop-group-test}

pub loop-group-init : goal.loop-group-init
loop-group-init g c = record {
  read = kept_read g.F.Files c.args.files.now c.count.new.files c.count.result c.count.ensures.reads;
  begun = inl refl;
  whole = λ told. none_below (IsIndexRead (g.F.Files.map c.args.files.now));
  value = λ told posts is. ap₂ (λ (t : Text) (xs : List Numbered). t ++ entry_lines (take 1000 (drop c.args.before (map entry xs)))) c.new.ensures (month_start c.args.year c.args.month posts);
}

pub loop-group-preserved : goal.loop-group-preserved
loop-group-preserved g c =
    let before = c.loop-group.invariant in
    let group = c.loop-group.group in
    let year = c.args.year in
    let month = c.args.month in
    record {
      read = kept_then g.F.Files g.met.F.Files.kept_then c.args.files.now c.loop-group.files c.index.new.files before.read (kept_read g.F.Files c.loop-group.files c.index.new.files c.index.result c.index.ensures.reads);
      begun = c.in_ok-take_month.ensures.begun before.begun;
      whole = λ told.
          let dir = g.F.Files.map c.args.files.now in
          let same = g.met.F.Files.kept_map c.args.files.now c.loop-group.files told before.read.kept in
          let by = subst (λ (d : Dir). IsIndexByFiles d group c.in_ok-entries.entries) same (c.in_ok-entries.ensures.read told) in
          let few = c.in_ok-last.ensures.few in
          let test = c.loop-group-test.true in
          one_more_below (IsIndexRead dir) group (before.whole told) (index_read dir group c.in_ok-entries.entries (omega (arith, few, test)) by);
      value = λ told posts is.
          let same = g.met.F.Files.kept_map c.args.files.now c.loop-group.files told before.read.kept in
          let entries : c.as_slice.result.now ≡ index_of group posts = c.as_slice.ensures ∙ c.in_ok-entries.ensures.value told posts (subst (λ (d : Dir). ArePosts d posts) (sym same) is) in
          let more = map entry (month_from year month (group + 1) posts) in
          c.in_ok-take_month.ensures.lines more
          ∙ ap (λ (t : List Entry). lines_with c.loop-group.page (of_month year month t ++ more)) entries
          ∙ ap (lines_with c.loop-group.page) (month_step year month group posts is.each)
          ∙ before.value told posts is;
    }

pub returns-clause-read : goal.returns-clause-read
returns-clause-read g c told =
    let page = c.loop-group.page in
    let begun = c.loop-group.invariant.begun in
    elim c.loop-group-test.branch [
      | then-loop-group-test+else-page-gt0 w ↦ ⊎_elim (λ room. absurd (let none = w.if-page-gt0.false in omega (arith, room, none))) (λ some. inr some) begun
      | else-loop-group-test w ↦ inl (c.in_ok-last.field-0, c.in_ok-last.ensures.read told, λ i less. c.loop-group.invariant.whole told i (let past = w.loop-group-test.false in omega (arith, less, past)))
    ]

pub returns-clause-value : goal.returns-clause-value
returns-clause-value g c told posts is =
    let page = c.loop-group.page in
    let group = c.loop-group.group in
    let year = c.args.year in
    let month = c.args.month in
    let es = map entry (month_from year month group posts) in
    let count = c.in_ok-last.ensures.value told posts is in
    let ended : (es ≡ []) ⊎ (page.room ≤ 0) = elim c.loop-group-test.branch [
      | then-loop-group-test+else-page-gt0 w ↦ inr w.if-page-gt0.false
      | else-loop-group-test w ↦ let past = w.loop-group-test.false in inl (ap (map entry) (month_end year month group posts (omega (arith, past, count))))
    ] in
    page_ended page.before page.room page.lines (entry_lines (take 1000 (drop c.args.before (map entry (in_month year month posts))))) es (c.loop-group.invariant.value told posts is) ended
