use Rattle.std.proofs.Common.{◌≡◌, true, false, rules, List, Option, Some, None, refl, sym, ap, subst}
use Rattle.ml_base.specs.Bytes.{Text}
use Rattle.std.specs.Option.{option_map}
use Rattle.ml_address.specs.Views.{who_view}
use Rattle.ml_acts.specs.Doing.{Alike, is_bucket_of}
use Rattle.ml_acts.proofs.Damages.{bucket_named}
use Rattle.ml_joining.specs.Operations.{asked_of}
use Rattle.std.specs.Prelude.{is_some}
use Rattle.ml_base.specs.Address.{key}
use Rattle.ml_subs.specs.Members.{member_of}
use Rattle.ml_subs.specs.Subscribers.{IsBucketOf}
use Rattle.ml_subs.specs.declared.member_list.Member.{Member}
use Rattle.ml_joining.specs.declared.subjects.Subject.{Subject}
use Rattle.ml_joining.proofs.Apart.{subject_apart}
use Rattle.ml_joining.proofs.subjects.find_subject.Goals as goal

pub returns-in_err-member-clause-names : goal.returns-in_err-member-clause-names
returns-in_err-member-clause-names g c =
    let asked = asked_of c.args.sender.now (option_map who_view c.args.who) in
    let names = bucket_named g.F.Files (λ name. is_bucket_of c.args.set asked name ≡ true) _ (g.F.Files.map c.args.files.now) c.args.set c.in_ok-named.named
    (λ name e. search rules) c.in_err-member.ensures.names in
    search rules

pub returns-in-Some-clause-found : goal.returns-in-Some-clause-found
returns-in-Some-clause-found g c told =
    let dir = g.F.Files.map c.args.files.now in
    let k = key c.in_ok-named.named in
    let read = subst (λ (o : Option Member). (ms : List Member) × IsBucketOf dir c.args.set k ms × (o ≡ member_of k ms)) c.in-Some.is (c.in_ok-member.ensures.read told) in
    (read.0, read.1, ap is_some read.2)

pub returns-in_ok-who-in-None-clause-found : goal.returns-in_ok-who-in-None-clause-found
returns-in_ok-who-in-None-clause-found g c told =
    let dir = g.F.Files.map c.args.files.now in
    let k = key c.in_ok-named.named in
    let read = subst (λ (o : Option Member). (ms : List Member) × IsBucketOf dir c.args.set k ms × (o ≡ member_of k ms)) c.in-None.is (c.in_ok-member.ensures.read told) in
    (read.0, read.1, ap is_some read.2)

pub returns-in-Some-clause-apart : goal.returns-in-Some-clause-apart
returns-in-Some-clause-apart g c told dir p alike is =
    let old = g.F.Files.map c.args.files.now in
    let set = c.args.set in
    let member = c.in-Some.member in
    let s : Subject = record { named = c.in_ok-named.named; who = member.who; member = true } in
    let read = subst (λ (o : Option Member). (ms : List Member) × IsBucketOf old set (key s.named) ms × (o ≡ member_of (key s.named) ms)) c.in-Some.is (c.in_ok-member.ensures.read told) in
    subject_apart old dir set s (Some member) p (subst (λ (t : Text). Alike (is_bucket_of set t) old dir) (sym c.in_ok-named.ensures) alike) read refl refl is

pub returns-in_ok-who-in-None-clause-apart : goal.returns-in_ok-who-in-None-clause-apart
returns-in_ok-who-in-None-clause-apart g c told dir p alike is =
    let old = g.F.Files.map c.args.files.now in
    let set = c.args.set in
    let s : Subject = record { named = c.in_ok-named.named; who = c.in_ok-who-in-None.who; member = false } in
    let read = subst (λ (o : Option Member). (ms : List Member) × IsBucketOf old set (key s.named) ms × (o ≡ member_of (key s.named) ms)) c.in-None.is (c.in_ok-member.ensures.read told) in
    subject_apart old dir set s None p (subst (λ (t : Text). Alike (is_bucket_of set t) old dir) (sym c.in_ok-named.ensures) alike) read c.in_ok-who-in-None.ensures refl is
