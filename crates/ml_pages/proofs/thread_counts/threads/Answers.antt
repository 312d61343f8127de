use Rattle.std.proofs.Common.{◌<◌, ◌≤◌, ◌∙◌, ℕ, List, ap, ap₂, subst, arith}
use Rattle.ml_base.specs.Dir.{Dir}
use Rattle.ml_base.proofs.ReadingLemmas.{kept_then, kept_read}
use Rattle.ml_filing.specs.Threads.{IsThreadFile, thread_name}
use Rattle.ml_filing.specs.declared.posts.Thread.{Thread}
use Rattle.ml_pages.specs.Reads.{IsThreadsRead}
use Rattle.ml_pages.specs.Tally.{tally_threads}
use Rattle.ml_pages.specs.Threaded.{noted}
use Rattle.ml_pages.proofs.Begun.{noted_below, noted_file, noted_last, noted_more, threads_tallied}
use Rattle.ml_pages.proofs.Reading.{one_more_below}
use Rattle.ml_pages.proofs.thread_counts.threads.Goals as goal

pub loop-n-preserved : goal.loop-n-preserved
loop-n-preserved g c =
    let before = c.loop-n.invariant in
    let f = c.loop-n.n in
    let prefix = c.args.prefix.now in
    let test = c.loop-n-test.true in
    let low : f < 256 = omega (arith, test) in
    record {
      whole = λ told.
          let dir = g.F.Files.map c.args.files.now in
          let same = g.met.F.Files.kept_map c.args.files.now c.loop-n.files told before.read.kept in
          one_more_below (IsThreadsRead dir) f (before.whole told) (c.in_ok-threads.threads, subst (λ (d : Dir). IsThreadFile f (d (thread_name f)) c.in_ok-threads.threads) same (c.in_ok-threads.ensures.read told));
      read = kept_then g.F.Files g.met.F.Files.kept_then c.args.files.now c.loop-n.files c.thread_file.new.files before.read (kept_read g.F.Files c.loop-n.files c.thread_file.new.files c.thread_file.result c.thread_file.ensures.reads);
      value = λ told posts is i.
          let dir = g.F.Files.map c.args.files.now in
          let same = g.met.F.Files.kept_map c.args.files.now c.loop-n.files told before.read.kept in
          let file = subst (λ (d : Dir). IsThreadFile f (d (thread_name f)) c.in_ok-threads.threads) same (c.in_ok-threads.ensures.read told) in
          c.in_ok-note_all.ensures i
          ∙ ap₂ (λ (us : List Thread) (n : ℕ). noted i us n) c.as_slice.ensures (before.value told posts is i)
          ∙ noted_file dir prefix posts is f low c.in_ok-threads.threads file i (noted_below prefix posts f i)
          ∙ noted_more prefix posts f i;
    }

pub returns-clause-read : goal.returns-clause-read
returns-clause-read g c told = λ i less. let end = c.loop-n-test.false in c.loop-n.invariant.whole told i (omega (arith, less, end))

pub returns-clause-value : goal.returns-clause-value
returns-clause-value g c told posts is =
    let prefix = c.args.prefix.now in
    let end = c.loop-n-test.false in
    let all : 256 ≤ c.loop-n.n = omega (arith, end) in
    c.in_ok-thread_list.ensures ∙ ap tally_threads c.as_slice-2.ensures
    ∙ threads_tallied prefix posts c.loop-n.tally (λ i. c.loop-n.invariant.value told posts is i ∙ noted_last prefix posts c.loop-n.n i all)
