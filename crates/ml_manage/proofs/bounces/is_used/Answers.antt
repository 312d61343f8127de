use Rattle.std.proofs.Common.{sym, subst, IfOk, ◌≡◌, true}
use Rattle.ml_base.specs.declared.names.Set.{Set}
use Rattle.ml_acts.proofs.Damages.{ok_then, same_self}
use Rattle.ml_manage.specs.Found.{TellsUsed}
use Rattle.ml_manage.proofs.Finding.{used_post}
use Rattle.ml_manage.proofs.Apart.{counted_same, used_apart}
use Rattle.ml_manage.proofs.Spared.{count_spared, none_named}
use Rattle.ml_base.specs.Dir.{Dir, same_name}
use Rattle.ml_digest.specs.Due.{mark_name}
use Rattle.ml_filing.specs.Archive.{number_name}
use Rattle.ml_plain.specs.Bouncing.{is_used as used}
use Rattle.ml_plain.specs.Directory.{IsList}
use Rattle.ml_plain.specs.Plain.{Plain}
use Rattle.ml_acts.specs.Asked.{Count, IsDamagedOf}
use Rattle.ml_acts.specs.Doing.{Alike}
use Rattle.ml_manage.specs.Reads.{is_counted_in}
use Rattle.ml_manage.proofs.bounces.is_used.Goals as goal

pub returns-in-Digest-clause-found : goal.returns-in-Digest-clause-found
returns-in-Digest-clause-found g c told = subst (λ (s : Set). IfOk c.is_issue.result (λ _. TellsUsed (g.F.Files.map c.args.files.now) s)) (sym c.in-Digest.is) (c.is_issue.ensures.found told)

pub returns-in_default-clause-found : goal.returns-in_default-clause-found
returns-in_default-clause-found g c told = ok_then c.is_post.result (λ b read. used_post (g.F.Files.map c.args.files.now) c.args.set c.in_default.not-Digest read) (c.is_post.ensures.found told)

pub returns-in-Digest-clause-apart : goal.returns-in-Digest-clause-apart
returns-in-Digest-clause-apart g c told =
    let old = g.F.Files.map c.args.files.now in
    subst (λ (s : Set). IfOk c.is_issue.result (λ is. (dir : Dir) (p : Plain) → Alike (is_counted_in s) old dir → IsList dir p → is ≡ used p s c.args.number)) (sym c.in-Digest.is)
    (ok_then c.is_issue.result (λ b tells dir p alike is. tells dir p (alike mark_name (same_self mark_name)) is) (c.is_issue.ensures.apart told))

pub returns-in_default-clause-apart : goal.returns-in_default-clause-apart
returns-in_default-clause-apart g c told =
    ok_then c.is_post.result
    (λ b tells dir p alike is. used_apart (g.F.Files.map c.args.files.now) dir c.args.set c.args.number p b c.in_default.not-Digest alike (λ same. tells dir p same is))
    (c.is_post.ensures.apart told)

pub returns-in-Digest-clause-spared : goal.returns-in-Digest-clause-spared
returns-in-Digest-clause-spared g c told dir p alike is =
    c.is_issue.ensures.spared told dir p (subst (λ (s : Set). Alike (is_counted_in s) (g.F.Files.map c.args.files.now) dir) c.in-Digest.is alike mark_name (same_self mark_name)) is

pub returns-in_default-clause-spared : goal.returns-in_default-clause-spared
returns-in_default-clause-spared g c told dir p alike is =
    let old = g.F.Files.map c.args.files.now in
    none_named g.F.Files c.is_post.result (λ name. same_name name number_name ≡ true) (IsDamagedOf old Count) told
    (λ name e bad. count_spared old dir p is name e (counted_same old dir c.args.set c.in_default.not-Digest alike) bad) c.is_post.ensures.names
