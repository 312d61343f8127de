use Rattle.std.proofs.Common.{◌≡◌, true, nat_le, refl, ap, ◌∙◌, subst, sym, rules}
use Rattle.std.proofs.lemmas.Bool.{and_parts, or_left, or_right}
use Rattle.ml_base.specs.Dir.{Dir, same_name, with_puts}
use Rattle.ml_base.specs.declared.names.Set.TheVariants as sets
use Rattle.ml_config.specs.KeyFile.{key_name}
use Rattle.ml_base.proofs.Laid.{left_alone}
use Rattle.ml_drawn.specs.Names.{is_of_series}
use Rattle.ml_drawn.specs.declared.series.Series.TheVariants.{Tickets}
use Rattle.ml_plain.specs.declared.Reply.{Reply}
use Rattle.ml_plain.specs.Answers as answers
use Rattle.ml_plain.specs.KeptFiles.{may_be_kept}
use Rattle.ml_plain.specs.Mailing.{mail_moderators}
use Rattle.ml_acts.specs.Damaged.{IsDamaged}
use Rattle.ml_acts.specs.Doing.{DoesList, HasIds, is_mailed_by, is_of_posting}
use Rattle.ml_acts.proofs.Damages.{keys_named, ok_then, same_self}
use Rattle.ml_acts.proofs.OfActs.{act_after}
use Rattle.ml_acts.proofs.Queued.{held_own, queue_posting}
use Rattle.ml_post.specs.Holding.{is_asked_by}
use Rattle.ml_post.proofs.Waiting.{asks, held_beside_mail, held_posted}
use Rattle.ml_base.proofs.DamagedNames.{ok_both}
use Rattle.ml_acts.specs.Found.{AddsMailToSet, TellsKeys}
use Rattle.ml_post.proofs.held_posts.ask.Goals as goal

pub returns-in_err-keys-clause-act : goal.returns-in_err-keys-clause-act
returns-in_err-keys-clause-act g c =
    let names = keys_named g.F.Files (λ name. is_asked_by name ≡ true) _ (g.F.Files.map c.args.files.now) (or_left (same_name key_name key_name) (is_mailed_by sets.Moderators key_name) (same_self key_name)) c.in_err-keys.ensures.names in
    search rules

pub with_mail_to_moderators-requires-clause-room : goal.with_mail_to_moderators-requires-clause-room
with_mail_to_moderators-requires-clause-room g c told =
    subst (λ (d : Dir). HasIds d) (sym (g.met.F.Files.kept_map c.args.files.now c.list_keys.new.files told c.list_keys.ensures.reads.kept)) (c.requires.room told)

pub with_mail_to_moderators-requires-clause-others : goal.with_mail_to_moderators-requires-clause-others
with_mail_to_moderators-requires-clause-others g c = held_beside_mail c.args.txn c.requires.own

pub returns-clause-act : goal.returns-clause-act
returns-clause-act g c =
    let ticket = c.args.ticket in
    let mailed = c.with_mail_to_moderators.ensures in
    let drawn : may_be_kept (answers.held ticket) ≡ true = (and_parts (nat_le 1 ticket) (nat_le ticket 1_000_000_000_000_000) c.requires.ticket).1 in
    let reply = ok_then c.with_mail_to_moderators.result (λ done e. ap may_be_kept (e ∙ c.held.ensures) ∙ drawn) mailed.reply in
    act_after g.F.Files IsDamaged g.met.F.Files.kept_then g.met.F.Files.kept_map c.list_keys.ensures.reads (record { own = mailed.within is_of_posting queue_posting (held_posted c.args.txn (held_own c.args.txn c.requires.own)); files = mailed.files; reply = reply; names = mailed.names; reads = mailed.reads })
    (λ name e. or_right (same_name name key_name) (is_mailed_by sets.Moderators name) e) (λ told name e bad. bad)

pub returns-clause-found : goal.returns-clause-found
returns-clause-found g c told =
    let dir = g.F.Files.map c.args.files.now in
    let txn = c.args.txn in
    let kept = g.met.F.Files.kept_map c.args.files.now c.list_keys.new.files told c.list_keys.ensures.reads.kept in
    ok_both c.with_mail_to_moderators.result (λ done. AddsMailToSet (g.F.Files.map c.list_keys.new.files) sets.Moderators txn done.0) (λ done. done.1 ≡ c.held.result)
    (λ done. TellsKeys dir × AddsMailToSet dir sets.Moderators txn done.0 × (done.1 ≡ answers.held c.args.ticket))
    (λ done sent reply. ((c.in_ok-keys.keys, c.in_ok-keys.ensures.found told), subst (λ (d : Dir). AddsMailToSet d sets.Moderators txn done.0) kept sent, reply ∙ c.held.ensures))
    (c.with_mail_to_moderators.ensures.found told) c.with_mail_to_moderators.ensures.reply

pub returns-clause-apart : goal.returns-clause-apart
returns-clause-apart g c told =
    let config = c.args.config.now in
    let txn = c.args.txn in
    let mail = c.in_ok-mail.mail in
    let kept = g.met.F.Files.kept_map c.args.files.now c.list_keys.new.files told c.list_keys.ensures.reads.kept in
    ok_then c.with_mail_to_moderators.result (λ done does dir p alike is same.
    asks dir p config c.in_ok-keys.keys c.args.now.seconds c.args.ticket c.args.message mail txn done same
    (c.in_ok-keys.ensures.value told (with_puts dir txn) p (left_alone (is_of_series Tickets) dir txn key_name c.requires.own refl ∙ alike key_name (or_left (same_name key_name key_name) (is_mailed_by sets.Moderators key_name) refl)) is) c.in_ok-mail.ensures
    (subst (λ (r : Reply). DoesList dir done (mail_moderators c.args.now.seconds mail p, r)) c.held.ensures
    (does dir p (λ name e. alike name (or_right (same_name name key_name) (is_mailed_by sets.Moderators name) e) ∙ sym (ap (λ (d : Dir). d name) kept)) is same))) (c.with_mail_to_moderators.ensures.apart told)
