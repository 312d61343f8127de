use Rattle.std.proofs.Common.{◌≡◌, ◌+◌, ◌||◌, true, IfErr, rules, refl, sym, ap, ap₂, ◌∙◌, subst}
use Rattle.std.proofs.lemmas.Bool.{or_left}
use Rattle.ml_base.specs.Bytes.{Text}
use Rattle.ml_base.specs.Dir.{Dir, same_name}
use Rattle.ml_base.specs.PartErrors.{OnDamaged}
use Rattle.ml_base.specs.declared.names.Set.TheVariants as sets
use Rattle.ml_base.proofs.DamagedNames.{err_both_damaged, on_damaged}
use Rattle.ml_base.proofs.ReadingLemmas.{kept_read, reading_then}
use Rattle.ml_filing.specs.Answers.{IsAppendName, IsAppended, IsBadForAppend, new_post}
use Rattle.ml_filing.specs.Archive.{number_name}
use Rattle.ml_filing.specs.Reads.{IsOfNext}
use Rattle.ml_filing.specs.Subjects.{subject, subject_key}
use Rattle.ml_filing.specs.declared.posts.Appended.TheVariants.{At}
use Rattle.ml_acts.specs.Asked.{IsDamagedOf, Next}
use Rattle.ml_acts.specs.Damaged.{IsDamaged, append}
use Rattle.ml_acts.specs.Found.{AddsMailToSet}
use Rattle.ml_acts.proofs.Damages.{ok_then}
use Rattle.ml_acts.proofs.Found.{found_then}
use Rattle.ml_acts.proofs.Spared.{mailed_spared}
use Rattle.ml_acts.specs.Doing.{is_index, is_mailed_by, is_thread_file}
use Rattle.ml_acts.proofs.Asked.{mailed_other, named_beside}
use Rattle.ml_post.specs.Found.{FoundToAppend}
use Rattle.ml_post.specs.Publishing.{is_published_by, sent_key}
use Rattle.ml_post.proofs.Posts.{append_read, appends_so, no_archive, publishes, reads_placed}
use Rattle.ml_post.proofs.Spared.{next_spared}
use Rattle.ml_post.proofs.publication.publish.Goals as goal

pub returns-in_err-filed-clause-names : goal.returns-in_err-filed-clause-names
returns-in_err-filed-clause-names g c =
    let e = c.in_err-filed.field-0.0 in
    let failed = c.in_err-filed.ensures.names in
    let key = sent_key c.args.config.now c.args.message.now in
    let own_key = subject_key c.as_slice-prefix.result.now (subject c.as_slice.result.now) in
    let key_is : own_key ≡ key = ap₂ (λ (p t : Text). subject_key p (subject t)) c.as_slice-prefix.ensures (c.as_slice.ensures ∙ c.in_ok-text.ensures.text) in
    record {
      named =
          let own : OnDamaged e (λ name. is_published_by name ≡ true) = on_damaged e IsAppendName (λ name. is_published_by name ≡ true) append_read failed.named in
          search rules;
      damaged = λ told.
          let dir = g.F.Files.map c.args.files.now in
          let bad : OnDamaged e (IsDamagedOf dir (Next key)) =
          on_damaged e (λ name. IsBadForAppend dir name × IsOfNext dir own_key name) (IsDamagedOf dir (Next key))
          (λ name is. record { damaged = append is.0 (no_archive dir name c.args.count (c.requires.count told) c.requires.below is.0); own = λ of. (subst (λ (k : Text). IsOfNext dir k name) key_is is.1, is.0) })
          (failed.damaged told) in
          search rules;
    }

pub returns-clause-names : goal.returns-clause-names
returns-clause-names g c =
    let mailed = is_mailed_by sets.List in
    named_beside g.F.Files (λ name. is_published_by name ≡ true) c.with_mail.result (g.F.Files.map c.args.files.now) (g.F.Files.map c.append_next.new.files) (Next (sent_key c.args.config.now c.args.message.now)) (λ name. mailed name ≡ true)
    (λ told. g.met.F.Files.kept_map c.args.files.now c.append_next.new.files told c.append_next.ensures.reads.kept)
    (λ name e.
    or_left (mailed name || same_name name number_name || is_index name) (is_thread_file name)
    (or_left (mailed name || same_name name number_name) (is_index name) (or_left (mailed name) (same_name name number_name) e)))
    (λ name e of. mailed_other name sets.List e of) c.with_mail.ensures.names

pub returns-clause-reads : goal.returns-clause-reads
returns-clause-reads g c =
    let one = kept_read g.F.Files c.args.files.now c.append_next.new.files c.append_next.result c.append_next.ensures.reads in
    reading_then g.F.Files g.met.F.Files.kept_then c.args.files.now c.append_next.new.files c.with_mail.new.files c.with_mail.result one c.with_mail.ensures.reads

pub returns-clause-found : goal.returns-clause-found
returns-clause-found g c told =
    let old = g.F.Files.map c.args.files.now in
    let kept = g.met.F.Files.kept_map c.args.files.now c.append_next.new.files told c.append_next.ensures.reads.kept in
    let post = new_post c.args.sender.now c.args.now.seconds c.as_slice.result.now in
    let filed = c.in_ok-filed.filed in
    let at = At (c.args.count + 1) filed in
    found_then c.with_mail.result old (g.F.Files.map c.append_next.new.files) (λ d done. AddsMailToSet d sets.List filed done) (FoundToAppend old c.args.config.now.prefix (c.args.count + 1)) kept
    (λ done sent. record {
      count = c.args.count;
      counted = c.requires.count told;
      next = refl;
      post = post;
      place = (c.args.count + 1);
      filed = filed;
      appended = subst (λ (p : Text). IsAppended old p post at) c.as_slice-prefix.ensures (c.in_ok-filed.ensures.read told);
      sent = sent;
    }) (c.with_mail.ensures.found told)

pub returns-clause-apart : goal.returns-clause-apart
returns-clause-apart g c told =
    let old = g.F.Files.map c.args.files.now in
    let config = c.args.config.now in
    let sender = c.args.sender.now in
    let m = c.args.message.now in
    let text = c.in_ok-text.text in
    let filed = c.in_ok-filed.filed in
    let at = At (c.args.count + 1) filed in
    let kept = g.met.F.Files.kept_map c.args.files.now c.append_next.new.files told c.append_next.ensures.reads.kept in
    ok_then c.with_mail.result (λ done mails dir p alike is same.
    let reads = reads_placed old dir p config c.args.now.seconds sender text m c.args.count alike.placed c.in_ok-text.ensures.text (c.requires.count told) c.requires.below is in
    publishes old dir p config c.args.now.seconds sender text reads is same m c.args.count (c.args.count + 1) filed done
    (c.requires.count told) c.in_ok-text.ensures.text c.in_ok-filed.ensures.others
    (appends_so c.args.now.seconds sender old old c.as_slice-prefix.result.now config.prefix c.as_slice.result.now text at at refl c.as_slice-prefix.ensures c.as_slice.ensures refl (c.in_ok-filed.ensures.value told))
    (λ q stands own. mails dir q (λ name needs. alike.mailed name needs ∙ sym (ap (λ (d : Dir). d name) kept)) stands own)) (c.with_mail.ensures.apart told)

pub returns-in_err-filed-clause-spared : goal.returns-in_err-filed-clause-spared
returns-in_err-filed-clause-spared g c told dir p alike is =
    let e = c.in_err-filed.field-0.0 in
    let old = g.F.Files.map c.args.files.now in
    let key = sent_key c.args.config.now c.args.message.now in
    let own_key = subject_key c.as_slice-prefix.result.now (subject c.as_slice.result.now) in
    let key_is : own_key ≡ key = ap₂ (λ (p t : Text). subject_key p (subject t)) c.as_slice-prefix.ensures (c.as_slice.ensures ∙ c.in_ok-text.ensures.text) in
    let none : OnDamaged e (λ _. ⊥) =
    on_damaged e (λ name. IsBadForAppend old name × IsOfNext old own_key name) (λ _. ⊥)
    (λ name bad. next_spared old dir p is key c.args.count alike.placed (c.requires.count told) c.requires.below name bad.0 (subst (λ (k : Text). IsOfNext old k name) key_is bad.1))
    (c.in_err-filed.ensures.names.damaged told) in
    search rules

pub returns-clause-spared : goal.returns-clause-spared
returns-clause-spared g c told dir p alike is =
    let old = g.F.Files.map c.args.files.now in
    let kept = g.met.F.Files.kept_map c.args.files.now c.append_next.new.files told c.append_next.ensures.reads.kept in
    let names = c.with_mail.ensures.names in
    err_both_damaged c.with_mail.result (λ name. is_mailed_by sets.List name ≡ true) (IsDamaged old) (λ _. ⊥) (λ name looked bad. mailed_spared old dir p is sets.List name looked (alike.mailed name looked) bad) names.named
    (subst (λ (d : Dir). IfErr c.with_mail.result (λ e. OnDamaged e (IsDamaged d))) kept (names.damaged told))
