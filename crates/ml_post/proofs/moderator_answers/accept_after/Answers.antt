use Rattle.std.proofs.Common.{◌≡◌, ◌+◌, inl, true, IfErr, refl, ap, ◌∙◌, subst, sym, rules}
use Rattle.std.proofs.lemmas.Bool.{or_left, or_right}
use Rattle.ml_base.specs.Bytes.{Text}
use Rattle.ml_base.specs.Dir.{Dir, are_files, touches_only, with_puts}
use Rattle.ml_base.specs.Name.{is_file}
use Rattle.ml_base.specs.PartErrors.{OnDamaged}
use Rattle.ml_base.proofs.ReadingLemmas.{kept_read, kept_then, reading_ok, reading_then}
use Rattle.ml_hold.specs.Answers.{Breaks}
use Rattle.ml_hold.specs.Held.{without_ticket}
use Rattle.ml_plain.specs.Directory.{held_kinds}
use Rattle.ml_plain.specs.Plain.{Plain}
use Rattle.ml_acts.specs.Asked.{IsDamagedOf, Next}
use Rattle.ml_acts.specs.Damaged.{waiting}
use Rattle.ml_acts.specs.Doing.{is_of_posting}
use Rattle.ml_acts.proofs.Asked.{named_as}
use Rattle.ml_acts.proofs.Queued.{touches_both, touches_weaker}
use Rattle.ml_post.specs.Answering.{is_accepted_by, is_taken_by}
use Rattle.ml_post.specs.Publishing.{Publishes, is_published_by, sent_key}
use Rattle.ml_post.proofs.Beside.{taken_other}
use Rattle.ml_post.proofs.Moderated.{accepts}
use Rattle.ml_post.proofs.Waiting.{held_posting}
use Rattle.ml_drawn.specs.Answers.{IsTaking}
use Rattle.ml_drawn.specs.declared.series.Series.TheVariants.{Tickets}
use Rattle.ml_post.specs.Alike.{AlikeToPublish, AlikeToTake}
use Rattle.ml_post.proofs.Decided.{publish_after}
use Rattle.ml_post.proofs.moderator_answers.accept_after.Goals as goal

pub returns-in_err-more-clause-act : goal.returns-in_err-more-clause-act
returns-in_err-more-clause-act g c =
    let dir = g.F.Files.map c.args.files.now in
    let config = c.args.config.now in
    let ticket = c.args.ticket in
    let names = named_as g.F.Files (λ name. is_accepted_by ticket name ≡ true) _ dir dir (λ name. is_published_by name ≡ true) (λ d. IsDamagedOf d (Next (sent_key config c.as_slice-message.result.now)))
    (IsDamagedOf dir (Next (sent_key config c.args.held.now.message))) (λ told. refl) (λ name e. or_left (is_published_by name) (is_taken_by ticket name) e)
    (λ name e bad. subst (λ (m : Text). IsDamagedOf dir (Next (sent_key config m)) name) c.as_slice-message.ensures bad) c.in_err-more.ensures.names in
    search rules

pub returns-in_err-txn-clause-act : goal.returns-in_err-txn-clause-act
returns-in_err-txn-clause-act g c =
    let dir = g.F.Files.map c.args.files.now in
    let ticket = c.args.ticket in
    let asked = Next (sent_key c.args.config.now c.args.held.now.message) in
    record {
      own = search rules;
      files = search rules;
      reply = search rules;
      names =
          let names = named_as g.F.Files (λ name. is_accepted_by ticket name ≡ true) _ dir (g.F.Files.map c.publish.new.files) (λ name. is_taken_by ticket name ≡ true) Breaks (IsDamagedOf dir asked)
          (λ told. g.met.F.Files.kept_map c.args.files.now c.publish.new.files told c.publish.ensures.reads.kept) (λ name e. or_right (is_published_by name) (is_taken_by ticket name) e)
          (λ name e bad. record { damaged = waiting bad; own = λ of. absurd (taken_other name ticket e of) }) c.in_err-txn.ensures.names in
          search rules;
      reads =
          let read = reading_then g.F.Files g.met.F.Files.kept_then c.args.files.now c.publish.new.files c.take_held.new.files c.take_held.result
          (kept_read g.F.Files c.args.files.now c.publish.new.files c.publish.result c.publish.ensures.reads) c.take_held.ensures.reads in
          search rules;
    }

pub returns-clause-act : goal.returns-clause-act
returns-clause-act g c =
    let txn = c.in_ok-txn.txn in
    let more = c.in_ok-more.more in
    record {
      own = ap (touches_only is_of_posting) c.in_ok-join.ensures.ok
          ∙ touches_both is_of_posting txn more (touches_weaker (λ name. held_kinds name.kind) is_of_posting txn held_posting c.in_ok-txn.ensures.own) c.in_ok-more.ensures.own;
      files = ap are_files c.in_ok-join.ensures.ok ∙ touches_both is_file txn more c.in_ok-txn.ensures.files c.in_ok-more.ensures.files;
      reply = search rules;
      names = search rules;
      reads = reading_ok g.F.Files c.args.files.now c.take_held.new.files _
          (kept_then g.F.Files g.met.F.Files.kept_then c.args.files.now c.publish.new.files c.take_held.new.files
          (kept_read g.F.Files c.args.files.now c.publish.new.files c.publish.result c.publish.ensures.reads)
          (kept_read g.F.Files c.publish.new.files c.take_held.new.files c.take_held.result c.take_held.ensures.reads));
    }

pub returns-in_err-join-clause-act : goal.returns-in_err-join-clause-act
returns-in_err-join-clause-act g c =
    let one = kept_read g.F.Files c.args.files.now c.publish.new.files c.publish.result c.publish.ensures.reads in
    let two = kept_then g.F.Files g.met.F.Files.kept_then c.args.files.now c.publish.new.files c.take_held.new.files one (kept_read g.F.Files c.publish.new.files c.take_held.new.files c.take_held.result c.take_held.ensures.reads) in
    record {
      own = search rules;
      files = search rules;
      reply = search rules;
      names = search rules;
      reads = record { kept = two.kept; later = two.later; cause = λ bad. absurd (search rules) };
    }

pub returns-clause-found : goal.returns-clause-found
returns-clause-found g c told =
    let kept = g.met.F.Files.kept_map c.args.files.now c.publish.new.files told c.publish.ensures.reads.kept in
    let txn = c.in_ok-txn.txn in
    inl (record {
      number = (c.args.count + 1);
      more = c.in_ok-more.more;
      appended = c.in_ok-more.ensures.found told;
      taken = txn;
      is = subst (λ (d : Dir). IsTaking d Tickets c.args.ticket txn) kept (c.in_ok-txn.ensures.found told);
      puts = c.in_ok-join.ensures.ok;
      reply = c.posted.ensures;
    })

pub returns-clause-apart : goal.returns-clause-apart
returns-clause-apart g c told dir p alike is same found =
    let old = g.F.Files.map c.args.files.now in
    let config = c.args.config.now in
    let held = c.args.held.now in
    let m = c.as_slice-message.result.now in
    let txn = c.in_ok-txn.txn in
    let more = c.in_ok-more.more in
    let kept = g.met.F.Files.kept_map c.args.files.now c.publish.new.files told c.publish.ensures.reads.kept in
    let after : Plain = record p { held = without_ticket c.args.ticket p.held } in
    let take = subst (λ (d : Dir). AlikeToTake c.args.ticket d dir) (sym kept) alike.0 in
    let stands = c.in_ok-txn.ensures.apart told dir p held take is found in
    let here = subst (λ (m : Text). AlikeToPublish config m old dir) (sym c.as_slice-message.ensures) alike.1 in
    let posted = c.in_ok-more.ensures.apart told (with_puts dir txn) after (publish_after config m old dir txn c.in_ok-txn.ensures.own here) stands same in
    accepts dir p c.args.now.seconds c.args.ticket held (c.args.count + 1) txn more (c.join.new.self, c.posted.result)
    (subst (λ (m : Text). Publishes (with_puts dir txn) c.args.now.seconds held.sender m after (c.args.count + 1) more) c.as_slice-message.ensures posted)
    c.in_ok-join.ensures.ok c.posted.ensures

pub returns-in_err-more-clause-spared : goal.returns-in_err-more-clause-spared
returns-in_err-more-clause-spared g c =
    let so : OnDamaged c.in_err-more.field-0.0 (λ _. ⊥) → IfErr c.from_residual.result (λ e. OnDamaged e (λ _. ⊥)) = λ none. search rules in
    λ told dir p alike is. so (c.in_err-more.ensures.spared told dir p (subst (λ (m : Text). AlikeToPublish c.args.config.now m (g.F.Files.map c.args.files.now) dir) (sym c.as_slice-message.ensures) alike.1) is)

pub returns-in_err-txn-clause-spared : goal.returns-in_err-txn-clause-spared
returns-in_err-txn-clause-spared g c told dir p alike is =
    let kept = g.met.F.Files.kept_map c.args.files.now c.publish.new.files told c.publish.ensures.reads.kept in
    let none : OnDamaged c.in_err-txn.field-0.0 (λ _. ⊥) = c.in_err-txn.ensures.spared told dir p (subst (λ (d : Dir). AlikeToTake c.args.ticket d dir) (sym kept) alike.0) is in
    search rules
