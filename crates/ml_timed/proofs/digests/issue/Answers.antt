use Rattle.std.proofs.Common.{◌||◌, subst, rules, ◌∙◌, ◌++◌, ap, List, ◌+◌}
use Rattle.std.proofs.lemmas.Bool.{or_right}
use Rattle.ml_base.specs.Dir.{Dir, with_puts}
use Rattle.ml_base.specs.declared.names.Set.TheVariants as sets
use Rattle.ml_acts.specs.Damaged.{IsDamaged}
use Rattle.ml_acts.specs.Doing.{Alike, DrawsId}
use Rattle.ml_acts.proofs.Apart.{alike_fewer}
use Rattle.ml_timed.specs.Reads.{is_of_issue, is_of_posts_seen, is_of_posts_told, is_of_progress, is_seen_in_digesting}
use Rattle.ml_timed.proofs.Apart.{alike_kept, alike_then, issue_digested, posts_digested}
use Rattle.ml_timed.proofs.Within.{issue_other}
use Rattle.ml_timed.proofs.Given.{drawn_joined}
use Rattle.ml_timed.proofs.Issued.{issue_spelled, issue_unmarked, issues, own_issued, queue_unmarked}
use Rattle.ml_base.specs.declared.puts.Put.{Put}
use Rattle.ml_digest.specs.declared.posts.Mark.{Mark}
use Rattle.ml_acts.specs.Found.{QueuesToSet}
use Rattle.ml_timed.proofs.Joined.{both_kept, names_after, names_err, one_kept, reads_beside, reads_ok, reads_then}
use Rattle.ml_timed.proofs.digests.issue.Goals as goal

pub returns-clause-apart : goal.returns-clause-apart
returns-clause-apart g c told dir p alike is same marked there =
    let old = g.F.Files.map c.args.files.now in
    let txn = c.in_ok-txn.txn in
    let moved = with_puts dir txn in
    let issued : Alike is_of_issue old moved = alike_then is_of_issue old dir moved (alike_fewer is_of_issue is_seen_in_digesting old dir issue_digested alike) (issue_unmarked dir txn c.in_ok-txn.ensures.others) in
    let kept = g.met.F.Files.kept_map c.args.files.now c.issue_text.new.files told c.issue_text.ensures.reads.kept in
    issues dir p c.args.config.now c.args.now.seconds c.args.mark.now c.args.range c.in_ok-body.body c.in_ok-txn.txn c.in_ok-more.more c.join.new.self is same marked c.requires.agree c.requires.from c.requires.some there
    c.in_ok-txn.ensures.others (c.in_ok-txn.ensures.holds dir) (c.in_ok-body.ensures.apart told dir p (alike_fewer is_of_posts_seen is_seen_in_digesting old dir posts_digested alike) is same)
    (λ q on conf. c.in_ok-more.ensures.apart told moved q (alike_kept is_of_issue old (g.F.Files.map c.issue_text.new.files) moved kept issued) on conf) c.in_ok-join.ensures.ok

pub returns-clause-own : goal.returns-clause-own
returns-clause-own g c = own_issued c.in_ok-txn.txn c.in_ok-more.more c.join.new.self c.in_ok-txn.ensures.others c.in_ok-more.ensures.own c.in_ok-join.ensures.ok

pub returns-clause-drawn : goal.returns-clause-drawn
returns-clause-drawn g c told most =
    let dir = g.F.Files.map c.args.files.now in
    let kept = g.met.F.Files.kept_map c.args.files.now c.issue_text.new.files told c.issue_text.ensures.reads.kept in
    drawn_joined dir c.in_ok-txn.txn c.in_ok-more.more c.join.new.self most (queue_unmarked dir c.in_ok-txn.txn c.in_ok-txn.ensures.others)
    (subst (λ (o : Dir). DrawsId o c.in_ok-more.more) kept (c.in_ok-more.ensures.drawn told)) c.in_ok-join.ensures.ok

pub returns-clause-spelled : goal.returns-clause-spelled
returns-clause-spelled g c told =
    let dir = g.F.Files.map c.args.files.now in
    let kept = g.met.F.Files.kept_map c.args.files.now c.issue_text.new.files told c.issue_text.ensures.reads.kept in
    let draws = subst (λ (o : Dir). DrawsId o c.in_ok-more.more) kept (c.in_ok-more.ensures.drawn told) in
    issue_spelled dir c.args.mark.now c.args.range c.in_ok-txn.txn c.in_ok-more.more c.join.new.self c.requires.agree c.requires.from c.requires.some (c.requires.counted told) c.in_ok-txn.ensures.puts draws c.in_ok-join.ensures.ok

pub returns-clause-reads : goal.returns-clause-reads
returns-clause-reads g c = reads_ok (both_kept g.met.F.Files.kept_then c.issue_text.ensures.reads c.mail_issue.ensures.reads)

pub returns-in_err-more-clause-names : goal.returns-in_err-more-clause-names
returns-in_err-more-clause-names g c =
    names_err (names_after IsDamaged g.met.F.Files.kept_map (one_kept c.issue_text.ensures.reads) (λ name e. or_right (is_of_progress name || is_of_posts_told name) (is_of_issue name) e)
    (λ told name e bad. record { damaged = bad; own = λ of. absurd (issue_other name e of) }) c.in_err-more.ensures.names) (search rules)

pub returns-in_err-more-clause-reads : goal.returns-in_err-more-clause-reads
returns-in_err-more-clause-reads g c =
    let read = reads_then g.met.F.Files.kept_then c.issue_text.ensures.reads c.mail_issue.ensures.reads in
    search rules

pub returns-in_err-txn-clause-reads : goal.returns-in_err-txn-clause-reads
returns-in_err-txn-clause-reads g c = reads_beside (both_kept g.met.F.Files.kept_then c.issue_text.ensures.reads c.mail_issue.ensures.reads) (λ bad. search rules)

pub returns-in_err-join-clause-reads : goal.returns-in_err-join-clause-reads
returns-in_err-join-clause-reads g c = reads_beside (both_kept g.met.F.Files.kept_then c.issue_text.ensures.reads c.mail_issue.ensures.reads) (λ bad. search rules)

pub returns-clause-found : goal.returns-clause-found
returns-clause-found g c told =
    let kept = g.met.F.Files.kept_map c.args.files.now c.issue_text.new.files told c.issue_text.ensures.reads.kept in
    let mark : Mark = record { last = c.args.range.last; issue = c.args.mark.now.issue + 1 } in
    let more = c.in_ok-more.more in (
      mark,
      record {
        mail = more;
        is = c.in_ok-join.ensures.ok ∙ ap (λ (t : List Put). t ++ more) c.in_ok-txn.ensures.puts;
        queued = subst (λ (d : Dir). QueuesToSet d sets.Digest more) kept (c.in_ok-more.ensures.found told);
      },
    )
