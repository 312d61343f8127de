use Rattle.std.proofs.Common.{◌≡◌, ◌∙◌, Bool, true, ◌&&◌, sym, ap}
use Rattle.ml_base.specs.Address.{key}
use Rattle.ml_subs.specs.Buckets.{bucket_of}
use Rattle.ml_subs.specs.Subscribers.{bucket_name}
use Rattle.ml_plain.specs.Plain.{is_moderator}
use Rattle.ml_acts.proofs.Apart.{member_apart}
use Rattle.std.proofs.lemmas.Bool.{and_from}
use Rattle.ml_base.specs.declared.names.Set.TheVariants as sets
use Rattle.ml_acts.specs.Doing.{is_bucket_of}
use Rattle.ml_acts.proofs.Damages.{bucket_named, ok_then, same_self}
use Rattle.ml_joining.proofs.subjects.is_moderator_if.Goals as goal

pub returns-clause-names : goal.returns-clause-names
returns-clause-names g c =
    bucket_named g.F.Files (λ name. (c.args.asked && is_bucket_of sets.Moderators c.args.sender.now name) ≡ true) c.member.result (g.F.Files.map c.args.files.now) sets.Moderators c.args.sender.now
    (λ name e. and_from c.args.asked (is_bucket_of sets.Moderators c.args.sender.now name) c.if-not-asked.false e) c.member.ensures.names

pub returns-clause-apart : goal.returns-clause-apart
returns-clause-apart g c told =
    let old = g.F.Files.map c.args.files.now in
    let sender = c.args.sender.now in
    let name = bucket_name sets.Moderators (bucket_of (key sender)) in
    ok_then c.member.result
    (λ has read dir p alike is.
    member_apart old dir sets.Moderators (key sender) has p (alike name (and_from c.args.asked (is_bucket_of sets.Moderators sender name) c.if-not-asked.false (same_self name))) read is
    ∙ sym (ap (λ (b : Bool). b && is_moderator p sender) c.if-not-asked.false)) (c.member.ensures.read told)
