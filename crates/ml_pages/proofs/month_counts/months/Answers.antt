use Rattle.std.proofs.Common.{◌≡◌, ◌<◌, ◌+◌, ◌/◌, ◌∙◌, ℕ, List, map, length, slice_index, ap, sym, subst, arith}
use Rattle.ml_base.specs.Dir.{Dir}
use Rattle.ml_base.proofs.ReadingLemmas.{kept_then, kept_read}
use Rattle.ml_filing.specs.Answers.{IsIndexByFiles}
use Rattle.ml_filing.specs.Archive.{ArePosts}
use Rattle.ml_filing.specs.Posts.{Numbered, entry, index_of, numbered}
use Rattle.ml_pages.specs.Counted.{count_at}
use Rattle.ml_pages.specs.Reads.{IsIndexRead}
use Rattle.ml_pages.specs.Tally.{tally_months}
use Rattle.ml_pages.proofs.Monthly.{count_end, count_few, count_group, count_posts, count_room, groups_all, many_numbered, months_tallied}
use Rattle.ml_pages.proofs.Reading.{index_read, none_below, one_more_below}
use Rattle.ml_pages.proofs.month_counts.months.Goals as goal

pub loop-group-init : goal.loop-group-init
loop-group-init g c = record {
  read = kept_read g.F.Files c.args.files.now c.count.new.files c.count.result c.count.ensures.reads;
  long = let none = ap length c.new-tally.ensures in omega (arith, none);
  whole = λ told. none_below (IsIndexRead (g.F.Files.map c.args.files.now));
  value = λ told posts is i.
      let none : slice_index c.new-tally.result i ≡ 0 = ap (λ (t : List ℕ). slice_index t i) c.new-tally.ensures in
      let all = ap (λ (xs : List Numbered). count_at i (map entry xs)) (groups_all 1 posts) in
      omega (arith, none, all);
}

pub loop-group-preserved : goal.loop-group-preserved
loop-group-preserved g c =
    let before = c.loop-group.invariant in
    let group = c.loop-group.group in
    record {
      read = kept_then g.F.Files g.met.F.Files.kept_then c.args.files.now c.loop-group.files c.index.new.files before.read (kept_read g.F.Files c.loop-group.files c.index.new.files c.index.result c.index.ensures.reads);
      long = c.in_ok-count_entries.ensures.long;
      whole = λ told.
          let dir = g.F.Files.map c.args.files.now in
          let same = g.met.F.Files.kept_map c.args.files.now c.loop-group.files told before.read.kept in
          let by = subst (λ (d : Dir). IsIndexByFiles d group c.in_ok-entries.entries) same (c.in_ok-entries.ensures.read told) in
          let few = c.in_ok-count.ensures.few in
          let test = c.loop-group-test.true in
          one_more_below (IsIndexRead dir) group (before.whole told) (index_read dir group c.in_ok-entries.entries (omega (arith, few, test)) by);
      value = λ told posts is i.
          let same = g.met.F.Files.kept_map c.args.files.now c.loop-group.files told before.read.kept in
          let entries : c.as_slice.result.now ≡ index_of group posts = c.as_slice.ensures ∙ c.in_ok-entries.ensures.value told posts (subst (λ (d : Dir). ArePosts d posts) (sym same) is) in
          let was = before.value told posts is i in
          let part = ap (count_at i) entries in
          let room = count_room i group posts (slice_index c.loop-group.tally i) (count_at i (map entry (numbered posts))) was in
          let all = count_few i (map entry (numbered posts)) in
          let many = many_numbered 1 posts in
          let few = (is.counted).few in
          let grown = c.in_ok-count_entries.ensures.value i (omega (arith, part, room, all, many, few)) in
          count_group i group posts (slice_index c.loop-group.tally i) (slice_index c.count_entries.new.tally i) (count_at i (map entry (numbered posts))) was (grown ∙ ap (λ (n : ℕ). slice_index c.loop-group.tally i + n) part);
    }

pub returns-clause-read : goal.returns-clause-read
returns-clause-read g c told =
    let end = c.loop-group-test.false in
    (c.in_ok-count.count, c.in_ok-count.ensures.read told, λ i less. c.loop-group.invariant.whole told i (omega (arith, less, end)))

pub returns-clause-value : goal.returns-clause-value
returns-clause-value g c told posts is =
    let tally = c.loop-group.tally in
    let count = c.in_ok-count.ensures.value told posts is in
    let end = c.loop-group-test.false in
    let past : length posts / 100 < c.loop-group.group = omega (arith, count, end) in
    c.in_ok-month_list.ensures.value ∙ ap tally_months c.as_slice-2.ensures
    ∙ months_tallied posts tally
    (λ i. count_end i c.loop-group.group posts (slice_index tally i) (count_at i (map entry (numbered posts))) past (c.loop-group.invariant.value told posts is i) ∙ count_posts i 1 posts is.each)
