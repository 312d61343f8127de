use Rattle.std.proofs.Common.{◌≡◌, ◌≤◌, List, length, true, refl, Some, ap, ◌∙◌, subst, sym, rules, IfErr}
use Rattle.std.specs.Prelude.{not}
use Rattle.ml_base.specs.Address.{address_of}
use Rattle.ml_base.specs.Bytes.{Text}
use Rattle.ml_base.specs.Dir.{Dir}
use Rattle.ml_base.specs.PartErrors.{OnDamaged}
use Rattle.ml_base.specs.declared.puts.Put.{Put}
use Rattle.ml_base.proofs.Addresses.{address_read}
use Rattle.ml_base.proofs.DamagedNames.{err_both_damaged, on_both}
use Rattle.ml_plain.specs.Answers as answers
use Rattle.ml_plain.specs.declared.Reply.{Reply}
use Rattle.ml_plain.specs.Verdicts.{verdict}
use Rattle.ml_acts.specs.Asked.{Count, IsDamagedOf, Next}
use Rattle.ml_acts.specs.Damaged.{IsDamaged}
use Rattle.ml_acts.proofs.Asked.{asked_as, count_next, named_as}
use Rattle.ml_acts.proofs.Damages.{ok_then}
use Rattle.ml_acts.proofs.Found.{found_then}
use Rattle.ml_acts.proofs.OfActs.{act_after}
use Rattle.ml_filing.specs.Archive.{IsNumberFile, number_name}
use Rattle.ml_post.specs.Found.{FoundByPost, FoundOfPost, FoundToFollow, FoundToHold, FoundToTake, IsCounted}
use Rattle.ml_post.specs.Holding.{is_held_by}
use Rattle.ml_post.specs.Judging.{is_judged_by, may_be_found, row_of, verdict_of}
use Rattle.ml_post.specs.Outcomes.{Outcome}
use Rattle.ml_post.specs.Outcomes as fates
use Rattle.ml_post.specs.Posting.{TellsSender, code_of, is_posted_by, outcome_of}
use Rattle.ml_post.specs.Publishing.{sent_key}
use Rattle.ml_post.specs.declared.verdict_table.Judged.{Judged}
use Rattle.ml_post.specs.declared.verdicts.Verdict.TheVariants as found
use Rattle.ml_post.proofs.Apart.{held_alike, judged_alike, publish_alike, publish_kept}
use Rattle.ml_post.proofs.Beside.{held_other}
use Rattle.ml_post.proofs.Finding.{followed}
use Rattle.ml_post.proofs.Fitting.{holdable}
use Rattle.ml_post.proofs.Outcomes.{follows_held, follows_posted, follows_refused}
use Rattle.ml_post.proofs.Read.{of_held, of_judged, of_published}
use Rattle.ml_post.proofs.Spared.{held_spared, judged_spared}
use Rattle.ml_post.proofs.incoming_mail.post_with_config.Goals as goal

pub returns-in_err-found-clause-act : goal.returns-in_err-found-clause-act
returns-in_err-found-clause-act g c =
    let dir = g.F.Files.map c.args.files.now in
    let config = c.args.config.now in
    let sender = c.args.sender.now in
    let key = sent_key config c.args.message.now in
    let names = named_as g.F.Files (λ name. is_posted_by config sender name ≡ true) _ dir dir (λ name. is_judged_by config sender name ≡ true) (λ d. IsDamagedOf d Count) (IsDamagedOf dir (Next key)) (λ told. refl)
    (λ name e. of_judged config sender name e) (λ name e bad. asked_as dir Count (Next key) name (count_next dir key name) bad)
    c.in_err-found.ensures.names in
    search rules

pub returns-in-Held-clause-act : goal.returns-in-Held-clause-act
returns-in-Held-clause-act g c =
    let config = c.args.config.now in
    let waits : config.flags.m ≡ true = subst (λ (j : Judged). may_be_found config.flags.m (verdict_of j) ≡ true) c.in-Held.is c.in_ok-found.ensures.moderated in
    act_after g.F.Files IsDamaged g.met.F.Files.kept_then g.met.F.Files.kept_map c.judge_with_config.ensures.reads c.hold_post.ensures.act (λ name e. of_held config c.args.sender.now name waits e)
    (λ told name e bad. record { damaged = bad; own = λ of. absurd (held_other name e of) })

pub returns-in-Posted-clause-act : goal.returns-in-Posted-clause-act
returns-in-Posted-clause-act g c =
    let config = c.args.config.now in
    let free : not config.flags.m ≡ true = subst (λ (j : Judged). may_be_found config.flags.m (verdict_of j) ≡ true) c.in-Posted.is c.in_ok-found.ensures.moderated in
    let key = sent_key config c.args.message.now in
    act_after g.F.Files (λ d. IsDamagedOf d (Next key)) g.met.F.Files.kept_then g.met.F.Files.kept_map c.judge_with_config.ensures.reads c.post_message.ensures.act (λ name e. of_published config c.args.sender.now name free e) (λ told name e bad. bad)

pub hold_post-requires-clause-size : goal.hold_post-requires-clause-size
hold_post-requires-clause-size g c =
    let max = c.args.config.now.max in
    let fits = c.in_ok-found.ensures.fits (λ big. let bad : found.Held ≡ found.TooBig = sym (ap verdict_of c.in-Held.is) ∙ big in cc) in
    holdable _ max c.requires.config.max (subst (λ (t : Text). length t ≤ max) c.scan.ensures fits)

pub returns-in-Refused-clause-found : goal.returns-in-Refused-clause-found
returns-in-Refused-clause-found g c told =
    let dir = g.F.Files.map c.args.files.now in
    let config = c.args.config.now in
    let sender = c.args.sender.now in
    let v = c.in-Refused.verdict in
    let done : List Put × Reply = (c.new.result, c.plain.result) in
    let refused : outcome_of v ≡ fates.Refused (answers.plain (code_of v)) = subst (TellsSender (address_of sender)) c.in-Refused.is c.in_ok-found.ensures.sender in
    followed dir config sender c.args.message.now c.scan.result v done c.scan.ensures
    (subst (λ (j : Judged). FoundOfPost dir config sender c.scan.result (verdict_of j)) c.in-Refused.is (c.in_ok-found.ensures.found told))
    (subst (λ (o : Outcome). FoundToFollow dir config o done) (sym refused) (record { puts = c.new.ensures; is = c.plain.ensures ∙ ap answers.plain c.code_of.ensures }))

pub returns-in-Held-clause-found : goal.returns-in-Held-clause-found
returns-in-Held-clause-found g c told =
    let dir = g.F.Files.map c.args.files.now in
    let config = c.args.config.now in
    let sender = c.args.sender.now in
    let m = c.args.message.now in
    let kept = g.met.F.Files.kept_map c.args.files.now c.judge_with_config.new.files told c.judge_with_config.ensures.reads.kept in
    found_then c.hold_post.result dir (g.F.Files.map c.judge_with_config.new.files) FoundToHold (FoundByPost dir config sender m) kept
    (λ done is. followed dir config sender m c.scan.result found.Held done c.scan.ensures (subst (λ (j : Judged). FoundOfPost dir config sender c.scan.result (verdict_of j)) c.in-Held.is (c.in_ok-found.ensures.found told)) is)
    (c.hold_post.ensures.found told)

pub returns-in-Posted-clause-found : goal.returns-in-Posted-clause-found
returns-in-Posted-clause-found g c told =
    let dir = g.F.Files.map c.args.files.now in
    let config = c.args.config.now in
    let sender = c.args.sender.now in
    let m = c.args.message.now in
    let kept = g.met.F.Files.kept_map c.args.files.now c.judge_with_config.new.files told c.judge_with_config.ensures.reads.kept in
    found_then c.post_message.result dir (g.F.Files.map c.judge_with_config.new.files) (λ d done. FoundToTake d config.prefix done) (FoundByPost dir config sender m) kept
    (λ done is. followed dir config sender m c.scan.result found.Posted done c.scan.ensures (subst (λ (j : Judged). FoundOfPost dir config sender c.scan.result (verdict_of j)) c.in-Posted.is (c.in_ok-found.ensures.found told)) is)
    (c.post_message.ensures.found told)

pub returns-in-Refused-clause-apart : goal.returns-in-Refused-clause-apart
returns-in-Refused-clause-apart g c told dir p alike is same =
    let sender = c.args.sender.now in
    let m = c.args.message.now in
    let v = c.in-Refused.verdict in
    let row = sym (ap (λ (j : Judged). row_of (verdict_of j)) c.in-Refused.is) ∙ c.in_ok-found.ensures.apart told dir p (judged_alike c.args.config.now sender m (g.F.Files.map c.args.files.now) dir alike) is same ∙ ap (verdict p sender) c.scan.ensures in
    follows_refused dir p c.args.now.seconds sender m (c.new.result, c.plain.result) v (answers.plain (code_of v)) (subst (TellsSender (address_of sender)) c.in-Refused.is c.in_ok-found.ensures.sender) row c.new.ensures
    (c.plain.ensures ∙ ap answers.plain c.code_of.ensures) is

pub returns-in-Held-clause-apart : goal.returns-in-Held-clause-apart
returns-in-Held-clause-apart g c told =
    let old = g.F.Files.map c.args.files.now in
    let config = c.args.config.now in
    let sender = c.args.sender.now in
    let m = c.args.message.now in
    let who = c.in-Held.who in
    let read : address_of sender ≡ Some who = subst (TellsSender (address_of sender)) c.in-Held.is c.in_ok-found.ensures.sender in
    let waits : config.flags.m ≡ true = subst (λ (j : Judged). may_be_found config.flags.m (verdict_of j) ≡ true) c.in-Held.is c.in_ok-found.ensures.moderated in
    let kept = g.met.F.Files.kept_map c.args.files.now c.judge_with_config.new.files told c.judge_with_config.ensures.reads.kept in
    ok_then c.hold_post.result (λ done does dir p alike is same.
    follows_held dir p c.args.now.seconds sender m done who read
    (sym (ap (λ (j : Judged). row_of (verdict_of j)) c.in-Held.is) ∙ c.in_ok-found.ensures.apart told dir p (judged_alike config sender m old dir alike) is same ∙ ap (verdict p sender) c.scan.ensures)
    (does dir p (address_read sender who read) (λ name e. held_alike config sender m old dir alike waits name e ∙ sym (ap (λ (d : Dir). d name) kept)) is same)) (c.hold_post.ensures.apart told)

pub returns-in-Posted-clause-apart : goal.returns-in-Posted-clause-apart
returns-in-Posted-clause-apart g c told =
    let old = g.F.Files.map c.args.files.now in
    let config = c.args.config.now in
    let sender = c.args.sender.now in
    let m = c.args.message.now in
    let who = c.in-Posted.who in
    let read : address_of sender ≡ Some who = subst (TellsSender (address_of sender)) c.in-Posted.is c.in_ok-found.ensures.sender in
    let free : not config.flags.m ≡ true = subst (λ (j : Judged). may_be_found config.flags.m (verdict_of j) ≡ true) c.in-Posted.is c.in_ok-found.ensures.moderated in
    let kept = g.met.F.Files.kept_map c.args.files.now c.judge_with_config.new.files told c.judge_with_config.ensures.reads.kept in
    ok_then c.post_message.result (λ done does dir p alike is same.
    follows_posted dir p c.args.now.seconds sender m done who read
    (sym (ap (λ (j : Judged). row_of (verdict_of j)) c.in-Posted.is) ∙ c.in_ok-found.ensures.apart told dir p (judged_alike config sender m old dir alike) is same ∙ ap (verdict p sender) c.scan.ensures)
    (does dir p (publish_kept config m old (g.F.Files.map c.judge_with_config.new.files) dir kept (publish_alike config sender m old dir alike free)) is same)) (c.post_message.ensures.apart told)

pub returns-in_err-found-clause-spared : goal.returns-in_err-found-clause-spared
returns-in_err-found-clause-spared g c told dir p alike is =
    let e = c.in_err-found.field-0.0 in
    let old = g.F.Files.map c.args.files.now in
    let config = c.args.config.now in
    let sender = c.args.sender.now in
    let names = c.in_err-found.ensures.names in
    let none : OnDamaged e (λ _. ⊥) =
    on_both e (λ name. is_judged_by config sender name ≡ true) (IsDamagedOf old Count) (λ _. ⊥)
    (λ name looked bad. judged_spared old dir p is config sender (judged_alike config sender c.args.message.now old dir alike) name looked bad) names.named (names.damaged told) in
    search rules

pub returns-in-Held-clause-spared : goal.returns-in-Held-clause-spared
returns-in-Held-clause-spared g c told dir p alike is =
    let old = g.F.Files.map c.args.files.now in
    let config = c.args.config.now in
    let waits : config.flags.m ≡ true = subst (λ (j : Judged). may_be_found config.flags.m (verdict_of j) ≡ true) c.in-Held.is c.in_ok-found.ensures.moderated in
    let kept = g.met.F.Files.kept_map c.args.files.now c.judge_with_config.new.files told c.judge_with_config.ensures.reads.kept in
    let names = c.hold_post.ensures.act.names in
    err_both_damaged c.hold_post.result (λ name. is_held_by name ≡ true) (IsDamaged old) (λ _. ⊥)
    (λ name looked bad. held_spared old dir p is (held_alike config c.args.sender.now c.args.message.now old dir alike waits) name looked bad) names.named
    (subst (λ (d : Dir). IfErr c.hold_post.result (λ e. OnDamaged e (IsDamaged d))) kept (names.damaged told))

pub returns-in-Posted-clause-spared : goal.returns-in-Posted-clause-spared
returns-in-Posted-clause-spared g c told dir p alike is =
    let old = g.F.Files.map c.args.files.now in
    let config = c.args.config.now in
    let m = c.args.message.now in
    let free : not config.flags.m ≡ true = subst (λ (j : Judged). may_be_found config.flags.m (verdict_of j) ≡ true) c.in-Posted.is c.in_ok-found.ensures.moderated in
    let kept = g.met.F.Files.kept_map c.args.files.now c.judge_with_config.new.files told c.judge_with_config.ensures.reads.kept in
    c.post_message.ensures.spared told dir p (publish_kept config m old (g.F.Files.map c.judge_with_config.new.files) dir kept (publish_alike config c.args.sender.now m old dir alike free)) is

pub post_message-requires-clause-below : goal.post_message-requires-clause-below
post_message-requires-clause-below g c = (subst (IsCounted g.F.Files.tells (g.F.Files.map c.args.files.now)) c.in-Posted.is c.in_ok-found.ensures.counted).0

pub post_message-requires-clause-count : goal.post_message-requires-clause-count
post_message-requires-clause-count g c told =
    let kept = g.met.F.Files.kept_map c.args.files.now c.judge_with_config.new.files told c.judge_with_config.ensures.reads.kept in
    subst (λ (d : Dir). IsNumberFile (d number_name) c.in-Posted.count) (sym kept) ((subst (IsCounted g.F.Files.tells (g.F.Files.map c.args.files.now)) c.in-Posted.is c.in_ok-found.ensures.counted).1 told)
