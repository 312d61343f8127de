use Rattle.std.proofs.Common.{◌≡◌, ◌≤◌, ◌+◌, ◌∙◌, ℕ, List, length, map, drop, Option, None, sym, ap, subst, arith, rules, IfOk, IfSome, inl, inr}
use Rattle.std.proofs.Math.ListN.{drop_of_length-le}
use Rattle.ml_base.specs.Dir.{Dir, with_puts}
use Rattle.ml_base.specs.declared.puts.Put.{Put}
use Rattle.ml_digest.specs.declared.posts.Mark.{Mark}
use Rattle.ml_digest.specs.declared.posts.Range.{Range}
use Rattle.ml_plain.specs.Directory.{IsList}
use Rattle.ml_plain.specs.Timing.{digest_due, issue, moment_of_first}
use Rattle.ml_filing.specs.Archive.{IsNumberFile, number_name}
use Rattle.ml_acts.specs.Asked.{IsTooSmall}
use Rattle.ml_acts.specs.Doing.{HasIdsUpTo}
use Rattle.ml_acts.specs.Spelled.{AreSpelled}
use Rattle.ml_acts.proofs.Apart.{alike_fewer}
use Rattle.ml_acts.proofs.Damages.{ok_then}
use Rattle.ml_timed.specs.Digesting.{IsDamagedAfter, IsDamagedWithin}
use Rattle.ml_timed.specs.Reads.{is_of_posts_seen, is_seen_in_digesting}
use Rattle.ml_timed.proofs.Apart.{alike_kept, posts_digested, progress_there, told_digesting}
use Rattle.ml_timed.proofs.Counted.{agrees_by}
use Rattle.ml_timed.proofs.Issued.{none_due}
use Rattle.ml_timed.proofs.Runs.{always}
use Rattle.ml_timed.proofs.Within.{after_undigested, within_undigested}
use Rattle.ml_acts.proofs.Found.{found_then}
use Rattle.ml_timed.specs.Found.{FoundToDigest, FoundToIssue}
use Rattle.ml_timed.proofs.Joined.{both_kept, names_after, names_err, one_kept, reads_ok, reads_then}
use Rattle.ml_timed.proofs.digests.digest_due.Goals as goal

pub returns-in-Some-clause-drawn : goal.returns-in-Some-clause-drawn
returns-in-Some-clause-drawn g c told =
    let first = g.met.F.Files.kept_map c.args.files.now c.progress.new.files told c.progress.ensures.reads.kept in
    let second = g.met.F.Files.kept_map c.progress.new.files c.range_due.new.files told c.range_due.ensures.reads.kept in
    subst (λ (d : Dir). IfOk c.issue.result (λ txn. (most : ℕ) → HasIdsUpTo d most → HasIdsUpTo (with_puts d txn) (most + 1))) (second ∙ first) (c.issue.ensures.drawn told)

pub returns-in-None-clause-apart : goal.returns-in-None-clause-apart
returns-in-None-clause-apart g c told dir p alike is same =
    let old = g.F.Files.map c.args.files.now in
    let first = g.met.F.Files.kept_map c.args.files.now c.progress.new.files told c.progress.ensures.reads.kept in
    let told_of = progress_there old dir p c.in_ok-mark.mark c.in_ok-mark.count alike is (c.in_ok-mark.ensures.marked told) (c.in_ok-mark.ensures.read told) in
    let range = c.in_ok-range.ensures.apart told dir p (alike_kept is_of_posts_seen old (g.F.Files.map c.progress.new.files) dir first (alike_fewer is_of_posts_seen is_seen_in_digesting old dir posts_digested alike)) is (sym told_of.0) told_of.1 in
    subst (λ (o : Option Range). IsList (with_puts dir c.new-in-None.result) (issue c.args.now.seconds p o)) (sym c.in-None.is ∙ range)
    (subst (λ (t : List Put). IsList (with_puts dir t) p) (sym c.new-in-None.ensures) is)

pub issue-requires-clause-counted : goal.issue-requires-clause-counted
issue-requires-clause-counted g c told =
    let first = g.met.F.Files.kept_map c.args.files.now c.progress.new.files told c.progress.ensures.reads.kept in
    let second = g.met.F.Files.kept_map c.progress.new.files c.range_due.new.files told c.range_due.ensures.reads.kept in
    let up = subst (λ (o : Option Range). IfSome o (λ range. (range.first ≡ c.in_ok-mark.mark.last + 1) × (range.first ≤ range.last) × (range.last ≤ c.in_ok-mark.count))) c.in-Some.is c.in_ok-range.ensures.range in
    (c.in_ok-mark.count, subst (λ (d : Dir). IsNumberFile (d number_name) c.in_ok-mark.count) (sym (second ∙ first)) (c.in_ok-mark.ensures.read told), up.2)

pub returns-in-Some-clause-spelled : goal.returns-in-Some-clause-spelled
returns-in-Some-clause-spelled g c told =
    let first = g.met.F.Files.kept_map c.args.files.now c.progress.new.files told c.progress.ensures.reads.kept in
    let second = g.met.F.Files.kept_map c.progress.new.files c.range_due.new.files told c.range_due.ensures.reads.kept in
    subst (λ (d : Dir). IfOk c.issue.result (AreSpelled d)) (second ∙ first) (c.issue.ensures.spelled told)

pub returns-then-mark-count-clause-apart : goal.returns-then-mark-count-clause-apart
returns-then-mark-count-clause-apart g c told dir p alike is same =
    let told_of = progress_there (g.F.Files.map c.args.files.now) dir p c.in_ok-mark.mark c.in_ok-mark.count alike is (c.in_ok-mark.ensures.marked told) (c.in_ok-mark.ensures.read told) in
    let here = c.if-mark-count.true in
    let last = ap (λ (m : Mark). m.last) told_of.0 in
    let size = told_of.1 in
    let none : digest_due c.args.now.seconds p ≡ None =
    none_due p.mark.last (moment_of_first (drop p.mark.last p.posts)) c.args.now.seconds (map (λ post. length post.bytes) (drop p.mark.last p.posts))
    (ap (map (λ post. length post.bytes)) (drop_of_length-le p.posts (omega (arith, here, last, size)))) in
    subst (λ (o : Option Range). IsList (with_puts dir c.new.result) (issue c.args.now.seconds p o)) (sym none) (subst (λ (t : List Put). IsList (with_puts dir t) p) (sym c.new.ensures) is)

pub returns-in-Some-clause-apart : goal.returns-in-Some-clause-apart
returns-in-Some-clause-apart g c told =
    let old = g.F.Files.map c.args.files.now in
    let first = g.met.F.Files.kept_map c.args.files.now c.progress.new.files told c.progress.ensures.reads.kept in
    let second = g.met.F.Files.kept_map c.progress.new.files c.range_due.new.files told c.range_due.ensures.reads.kept in
    let up = subst (λ (o : Option Range). IfSome o (λ range. (range.first ≡ c.in_ok-mark.mark.last + 1) × (range.first ≤ range.last) × (range.last ≤ c.in_ok-mark.count))) c.in-Some.is c.in_ok-range.ensures.range in
    ok_then c.issue.result
    (λ txn value dir p alike is same.
    let told_of = progress_there old dir p c.in_ok-mark.mark c.in_ok-mark.count alike is (c.in_ok-mark.ensures.marked told) (c.in_ok-mark.ensures.read told) in
    let range = c.in_ok-range.ensures.apart told dir p (alike_kept is_of_posts_seen old (g.F.Files.map c.progress.new.files) dir first (alike_fewer is_of_posts_seen is_seen_in_digesting old dir posts_digested alike)) is (sym told_of.0) told_of.1 in
    let last = up.2 in
    let size = told_of.1 in
    let made = value dir p (alike_kept is_seen_in_digesting old (g.F.Files.map c.range_due.new.files) dir (second ∙ first) alike) is same (sym told_of.0) (omega (arith, last, size)) in
    subst (λ (o : Option Range). IsList (with_puts dir txn) (issue c.args.now.seconds p o)) (sym c.in-Some.is ∙ range) made)
    (c.issue.ensures.apart told)

pub returns-in_err-range-clause-names : goal.returns-in_err-range-clause-names
returns-in_err-range-clause-names g c =
    let mark = c.in_ok-mark.mark in
    let count = c.in_ok-mark.count in
    names_err (names_after (λ d. IsDamagedAfter d mark.last count) g.met.F.Files.kept_map (one_kept c.progress.ensures.reads) told_digesting
    (λ told name e bad. after_undigested (g.F.Files.map c.args.files.now) mark count name (c.in_ok-mark.ensures.marked told) (c.in_ok-mark.ensures.read told) bad) c.in_err-range.ensures.names) (search rules)

pub returns-in-Some-clause-names : goal.returns-in-Some-clause-names
returns-in-Some-clause-names g c =
    let mark = c.in_ok-mark.mark in
    let count = c.in_ok-mark.count in
    let range = c.in-Some.range in
    let up = subst (λ (o : Option Range). IfSome o (λ range. (range.first ≡ mark.last + 1) × (range.first ≤ range.last) × (range.last ≤ count))) c.in-Some.is c.in_ok-range.ensures.range in
    let from = up.0 in
    names_after (λ d. IsDamagedWithin d range.first range.last) g.met.F.Files.kept_map (both_kept g.met.F.Files.kept_then c.progress.ensures.reads c.range_due.ensures.reads) (λ name e. e)
    (λ told name e bad. within_undigested (g.F.Files.map c.args.files.now) mark count range.first range.last name (c.in_ok-mark.ensures.marked told) (c.in_ok-mark.ensures.read told) (omega (arith, from)) up.2 bad) c.issue.ensures.names

pub range_due-requires-clause-counted : goal.range_due-requires-clause-counted
range_due-requires-clause-counted g c told =
    let first = g.met.F.Files.kept_map c.args.files.now c.progress.new.files told c.progress.ensures.reads.kept in
    subst (λ (d : Dir). IsNumberFile (d number_name) c.in_ok-mark.count) (sym first) (c.in_ok-mark.ensures.read told)

-- what was read of the mark and of the number of posts
pub returns-then-mark-count-clause-agrees : goal.returns-then-mark-count-clause-agrees
returns-then-mark-count-clause-agrees g c told =
    let here = c.if-mark-count.true in
    agrees_by (g.F.Files.map c.args.files.now) c.in_ok-mark.mark c.in_ok-mark.count (c.in_ok-mark.ensures.marked told) (c.in_ok-mark.ensures.read told) (λ some near small. omega (arith, here, some))

pub returns-in-None-clause-agrees : goal.returns-in-None-clause-agrees
returns-in-None-clause-agrees g c told =
    let first = g.met.F.Files.kept_map c.args.files.now c.progress.new.files told c.progress.ensures.reads.kept in
    agrees_by (g.F.Files.map c.args.files.now) c.in_ok-mark.mark c.in_ok-mark.count (c.in_ok-mark.ensures.marked told) (c.in_ok-mark.ensures.read told)
    (λ some near small. c.in_ok-range.ensures.agrees told near (subst (λ (d : Dir). IsTooSmall d) (sym first) small))

pub returns-in-Some-clause-agrees : goal.returns-in-Some-clause-agrees
returns-in-Some-clause-agrees g c told =
    let first = g.met.F.Files.kept_map c.args.files.now c.progress.new.files told c.progress.ensures.reads.kept in
    always c.issue.result
    (λ txn. agrees_by (g.F.Files.map c.args.files.now) c.in_ok-mark.mark c.in_ok-mark.count (c.in_ok-mark.ensures.marked told) (c.in_ok-mark.ensures.read told)
    (λ some near small. c.in_ok-range.ensures.agrees told near (subst (λ (d : Dir). IsTooSmall d) (sym first) small)))

pub returns-in_err-range-clause-reads : goal.returns-in_err-range-clause-reads
returns-in_err-range-clause-reads g c =
    let read = reads_then g.met.F.Files.kept_then c.progress.ensures.reads c.range_due.ensures.reads in
    search rules

pub returns-in-None-clause-reads : goal.returns-in-None-clause-reads
returns-in-None-clause-reads g c = reads_ok (both_kept g.met.F.Files.kept_then c.progress.ensures.reads c.range_due.ensures.reads)

pub returns-in-Some-clause-reads : goal.returns-in-Some-clause-reads
returns-in-Some-clause-reads g c = reads_then g.met.F.Files.kept_then c.progress.ensures.reads (reads_then g.met.F.Files.kept_then c.range_due.ensures.reads c.issue.ensures.reads)

pub returns-then-mark-count-clause-found : goal.returns-then-mark-count-clause-found
returns-then-mark-count-clause-found g c told = inl c.new.ensures

pub returns-in-None-clause-found : goal.returns-in-None-clause-found
returns-in-None-clause-found g c told = inl c.new-in-None.ensures

pub returns-in-Some-clause-found : goal.returns-in-Some-clause-found
returns-in-Some-clause-found g c told =
    let first = g.met.F.Files.kept_map c.args.files.now c.progress.new.files told c.progress.ensures.reads.kept in
    let second = g.met.F.Files.kept_map c.progress.new.files c.range_due.new.files told c.range_due.ensures.reads.kept in
    let dir = g.F.Files.map c.args.files.now in
    found_then c.issue.result dir (g.F.Files.map c.range_due.new.files) FoundToIssue (FoundToDigest dir) (second ∙ first) (λ txn is. inr is) (c.issue.ensures.found told)
