use Rattle.std.proofs.Common.{◌≡◌, ◌∙◌, true, sym, subst, IfOk, ◌/◌, ◌||◌, Bool, refl}
use Rattle.ml_address.specs.Views.{request_view}
use Rattle.ml_address.specs.declared.Request.{Request}
use Rattle.ml_plain.specs.Managing as spec
use Rattle.ml_acts.specs.Damaged.{IsDamaged}
use Rattle.ml_acts.specs.Doing.{DoesList}
use Rattle.std.proofs.lemmas.Bool.{and_parts, leb-true, or_left, or_right}
use Rattle.ml_base.specs.Dir.{same_name}
use Rattle.ml_plain.specs.Plain.{Plain}
use Rattle.ml_plain.specs.declared.Reply.{Reply}
use Rattle.ml_queue.specs.Answers.{ids_name}
use Rattle.ml_acts.proofs.Asked.{ids_other}
use Rattle.ml_manage.specs.Reads.{IsDamagedFor, is_asked_of, is_managed, is_of_index, is_of_members, is_of_posts, is_of_reader, is_of_thread, is_post_asked, is_post_file, is_post_within, is_seen_of, is_seen_of_posts, is_seen_of_thread}
use Rattle.ml_manage.specs.Written.{is_written_of}
use Rattle.ml_manage.proofs.Others.{is_helped}
use Rattle.ml_manage.proofs.ForRequests.{done_for, for_asked, for_looking, for_other, spared_for}
use Rattle.ml_manage.proofs.Sending.{room_ids}
use Rattle.ml_acts.proofs.OfActs.{act_so, act_wider}
use Rattle.ml_manage.specs.Found.{FoundManaged}
use Rattle.ml_acts.proofs.Damages.{ok_then}
use Rattle.ml_manage.proofs.Spared.{members_none, none_looked, none_named, part_none}
use Rattle.ml_manage.proofs.PostsSpared.{group_archived, group_none, posts_archived, range_none, thread_none, threads_archived}
use Rattle.ml_manage.proofs.Apart.{answer_part, answer_whole}
use Rattle.ml_acts.proofs.Spared.{ids_spared}
use Rattle.ml_acts.specs.Asked.{Group, IsDamagedOf, Range, ThreadOf}
use Rattle.ml_base.specs.declared.names.Name.{Name}
use Rattle.std.specs.Prelude.{nat_le, unwrap_or}
use Rattle.ml_config.specs.declared.configuration.Config.{Config}
use Rattle.ml_filing.specs.Threads.{IsArchive}
use Rattle.ml_manage.proofs.rules.manage_checked.Goals as goal

pub members-requires : goal.members-requires
members-requires g c = record { room = λ told. room_ids (g.F.Files.map c.args.files.now) (c.requires.room told) }

pub send_part-requires-clause-room : goal.send_part-requires-clause-room
send_part-requires-clause-room g c told = room_ids (g.F.Files.map c.args.files.now) (c.requires.room told)

pub send_part-requires-in-Index-clause-room : goal.send_part-requires-in-Index-clause-room
send_part-requires-in-Index-clause-room g c told = room_ids (g.F.Files.map c.args.files.now) (c.requires.room told)

pub send_part-requires-in-Thread-clause-room : goal.send_part-requires-in-Thread-clause-room
send_part-requires-in-Thread-clause-room g c told = room_ids (g.F.Files.map c.args.files.now) (c.requires.room told)

pub send_help-requires : goal.send_help-requires
send_help-requires g c = record { room = λ told. room_ids (g.F.Files.map c.args.files.now) (c.requires.room told) }

-- the parts of a request
in_range : (r s : Request) → r ≡ s → is_managed (request_view r) ≡ true → is_managed (request_view s) ≡ true
in_range r s e managed = subst (λ (t : Request). is_managed (request_view t) ≡ true) e managed

pub subscribe-requires : goal.subscribe-requires
subscribe-requires g c =
    let parts = and_parts _ _ (in_range _ _ c.in-Subscribe.is c.requires.request) in
    record { config = c.requires.config; asked = parts.0; range = parts.1; room = λ told. room_ids (g.F.Files.map c.args.files.now) (c.requires.room told) }

pub unsubscribe-requires : goal.unsubscribe-requires
unsubscribe-requires g c =
    let parts = and_parts _ _ (in_range _ _ c.in-Unsubscribe.is c.requires.request) in
    record { config = c.requires.config; asked = parts.0; range = parts.1; room = λ told. room_ids (g.F.Files.map c.args.files.now) (c.requires.room told) }

pub confirm-requires : goal.confirm-requires
confirm-requires g c =
    let parts = and_parts _ _ (in_range _ _ c.in-Confirm.is c.requires.request) in
    record { config = c.requires.config; asked = parts.0; range = (and_parts _ _ parts.1).1; room = λ told. room_ids (g.F.Files.map c.args.files.now) (c.requires.room told) }

pub returns-in-Members-clause-act : goal.returns-in-Members-clause-act
returns-in-Members-clause-act g c = for_other g.F.Files (is_written_of c.args.sender.now) (λ r name. is_asked_of c.args.config.now c.args.sender.now r name ≡ true) c.in-Members.is (λ name. tt) c.members.ensures.act

pub returns-in-Get-clause-act : goal.returns-in-Get-clause-act
returns-in-Get-clause-act g c = for_asked g.F.Files (is_written_of c.args.sender.now) (λ r name. is_asked_of c.args.config.now c.args.sender.now r name ≡ true) c.in-Get.is _ (λ name own. own) c.send_part.ensures.act

pub returns-in-Index-clause-act : goal.returns-in-Index-clause-act
returns-in-Index-clause-act g c = for_asked g.F.Files (is_written_of c.args.sender.now) (λ r name. is_asked_of c.args.config.now c.args.sender.now r name ≡ true) c.in-Index.is _ (λ name own. own) c.send_part-in-Index.ensures.act

pub returns-in-Thread-clause-act : goal.returns-in-Thread-clause-act
returns-in-Thread-clause-act g c = for_asked g.F.Files (is_written_of c.args.sender.now) (λ r name. is_asked_of c.args.config.now c.args.sender.now r name ≡ true) c.in-Thread.is _ (λ name own. own) c.send_part-in-Thread.ensures.act

pub returns-in-Subscribe-clause-act : goal.returns-in-Subscribe-clause-act
returns-in-Subscribe-clause-act g c = for_looking g.F.Files (is_written_of c.args.sender.now) (λ r name. is_asked_of c.args.config.now c.args.sender.now r name ≡ true) c.in-Subscribe.is (λ name. tt) c.subscribe.ensures.act

pub returns-in-Unsubscribe-clause-act : goal.returns-in-Unsubscribe-clause-act
returns-in-Unsubscribe-clause-act g c = for_looking g.F.Files (is_written_of c.args.sender.now) (λ r name. is_asked_of c.args.config.now c.args.sender.now r name ≡ true) c.in-Unsubscribe.is (λ name. tt) c.unsubscribe.ensures.act

pub returns-in-Confirm-clause-act : goal.returns-in-Confirm-clause-act
returns-in-Confirm-clause-act g c = for_looking g.F.Files (is_written_of c.args.sender.now) (λ r name. is_asked_of c.args.config.now c.args.sender.now r name ≡ true) c.in-Confirm.is (λ name. tt) c.confirm.ensures.act

pub returns-in-Help-clause-act : goal.returns-in-Help-clause-act
returns-in-Help-clause-act g c =
    let conf = c.args.config.now in
    let sender = c.args.sender.now in
    let r = request_view c.args.request.now in
    let dir = g.F.Files.map c.args.files.now in
    let of = is_helped c.args.request.now c.requires.request c.in-Help.is in
    act_wider
    (act_so g.F.Files c.send_help.result (λ name. is_asked_of conf sender r name ≡ true) (IsDamaged dir) (IsDamagedFor dir conf r) (λ name. same_name name ids_name ≡ true) c.args.files.now c.send_help.new.files
    (λ name e. of.reads conf sender name ∙ e) (λ name e bad. record { damaged = bad; own = of.own dir conf name (λ archive. ids_other name e archive) }) c.send_help.ensures.act)
    (λ name e. of.writes sender name ∙ e)

pub returns-in-Members-clause-found : goal.returns-in-Members-clause-found
returns-in-Members-clause-found g c told =
    subst (λ (r : Request). IfOk c.members.result (FoundManaged (g.F.Files.map c.args.files.now) c.args.config.now c.args.sender.now (request_view r))) (sym c.in-Members.is) (c.members.ensures.found told)

pub returns-in-Get-clause-found : goal.returns-in-Get-clause-found
returns-in-Get-clause-found g c told =
    subst (λ (r : Request). IfOk c.send_part.result (FoundManaged (g.F.Files.map c.args.files.now) c.args.config.now c.args.sender.now (request_view r))) (sym c.in-Get.is) (c.send_part.ensures.found told)

pub returns-in-Index-clause-found : goal.returns-in-Index-clause-found
returns-in-Index-clause-found g c told =
    subst (λ (r : Request). IfOk c.send_part-in-Index.result (FoundManaged (g.F.Files.map c.args.files.now) c.args.config.now c.args.sender.now (request_view r))) (sym c.in-Index.is) (c.send_part-in-Index.ensures.found told)

pub returns-in-Thread-clause-found : goal.returns-in-Thread-clause-found
returns-in-Thread-clause-found g c told =
    subst (λ (r : Request). IfOk c.send_part-in-Thread.result (FoundManaged (g.F.Files.map c.args.files.now) c.args.config.now c.args.sender.now (request_view r))) (sym c.in-Thread.is) (c.send_part-in-Thread.ensures.found told)

pub returns-in-Subscribe-clause-found : goal.returns-in-Subscribe-clause-found
returns-in-Subscribe-clause-found g c told =
    subst (λ (r : Request). IfOk c.subscribe.result (FoundManaged (g.F.Files.map c.args.files.now) c.args.config.now c.args.sender.now (request_view r))) (sym c.in-Subscribe.is) (c.subscribe.ensures.found told)

pub returns-in-Unsubscribe-clause-found : goal.returns-in-Unsubscribe-clause-found
returns-in-Unsubscribe-clause-found g c told =
    subst (λ (r : Request). IfOk c.unsubscribe.result (FoundManaged (g.F.Files.map c.args.files.now) c.args.config.now c.args.sender.now (request_view r))) (sym c.in-Unsubscribe.is) (c.unsubscribe.ensures.found told)

pub returns-in-Confirm-clause-found : goal.returns-in-Confirm-clause-found
returns-in-Confirm-clause-found g c told =
    subst (λ (r : Request). IfOk c.confirm.result (FoundManaged (g.F.Files.map c.args.files.now) c.args.config.now c.args.sender.now (request_view r))) (sym c.in-Confirm.is) (c.confirm.ensures.found told)

pub returns-in-Help-clause-found : goal.returns-in-Help-clause-found
returns-in-Help-clause-found g c told =
    ok_then c.send_help.result (λ done is. (is_helped c.args.request.now c.requires.request c.in-Help.is).found (g.F.Files.map c.args.files.now) c.args.config.now c.args.sender.now done is) (c.send_help.ensures.found told)

pub returns-in-Members-clause-apart : goal.returns-in-Members-clause-apart
returns-in-Members-clause-apart g c told = done_for c.members.result _ _ (is_seen_of c.args.config.now c.args.sender.now) (spec.managed c.args.now.seconds c.args.sender.now) c.in-Members.is (c.members.ensures.apart told)

pub returns-in-Get-clause-apart : goal.returns-in-Get-clause-apart
returns-in-Get-clause-apart g c told = done_for c.send_part.result _ _ (is_seen_of c.args.config.now c.args.sender.now) (spec.managed c.args.now.seconds c.args.sender.now) c.in-Get.is (c.send_part.ensures.apart told)

pub returns-in-Index-clause-apart : goal.returns-in-Index-clause-apart
returns-in-Index-clause-apart g c told = done_for c.send_part-in-Index.result _ _ (is_seen_of c.args.config.now c.args.sender.now) (spec.managed c.args.now.seconds c.args.sender.now) c.in-Index.is (c.send_part-in-Index.ensures.apart told)

pub returns-in-Thread-clause-apart : goal.returns-in-Thread-clause-apart
returns-in-Thread-clause-apart g c told = done_for c.send_part-in-Thread.result _ _ (is_seen_of c.args.config.now c.args.sender.now) (spec.managed c.args.now.seconds c.args.sender.now) c.in-Thread.is (c.send_part-in-Thread.ensures.apart told)

pub returns-in-Help-clause-apart : goal.returns-in-Help-clause-apart
returns-in-Help-clause-apart g c told =
    let conf = c.args.config.now in
    let sender = c.args.sender.now in
    let r = request_view c.args.request.now in
    let of = is_helped c.args.request.now c.requires.request c.in-Help.is in
    ok_then c.send_help.result
    (λ done does dir p alike is same.
    subst (λ (s : Plain × Reply). DoesList dir done s) (sym (of.step c.args.now.seconds sender p))
    (does dir p (alike ids_name (or_right (is_post_asked r ids_name) (is_asked_of conf sender r ids_name) (of.reads conf sender ids_name ∙ refl))) is same))
    (c.send_help.ensures.apart told)

pub returns-in-Members-clause-spared : goal.returns-in-Members-clause-spared
returns-in-Members-clause-spared g c told =
    let old = g.F.Files.map c.args.files.now in
    let conf = c.args.config.now in
    let sender = c.args.sender.now in
    let set = c.in-Members.set in
    spared_for c.members.result old conf (is_seen_of c.args.config.now c.args.sender.now) c.in-Members.is
    (λ dir p alike is same. none_named g.F.Files c.members.result (λ name. is_of_members conf sender set name ≡ true) (IsDamaged old) told
    (λ name e bad. members_none old dir p is conf sender set name e (alike name e) bad) c.members.ensures.act.names)

pub returns-in-Get-clause-spared : goal.returns-in-Get-clause-spared
returns-in-Get-clause-spared g c told =
    let old = g.F.Files.map c.args.files.now in
    let conf = c.args.config.now in
    let sender = c.args.sender.now in
    let a = c.in-Get.from in
    let b = unwrap_or c.in-Get.to a in
    let part : Name → Bool = is_of_posts a b in
    let posts : Name → Bool = is_post_within a b in
    let asked = Range a b in
    spared_for c.send_part.result old conf (is_seen_of c.args.config.now c.args.sender.now) c.in-Get.is
    (λ dir p alike is same.
    let seen = answer_part old dir conf sender (is_seen_of_posts a b) (answer_whole old dir conf sender part posts alike) in
    none_named g.F.Files c.send_part.result (λ name. (is_of_reader conf sender name || part name || same_name name ids_name) ≡ true) (IsDamagedOf old asked) told
    (λ name e bad. part_none old dir p is conf sender part asked
    (λ name own bad. range_none old dir p.posts (is.archive).filed a b seen name (or_left (part name) (posts name) own) (bad.own (posts_archived name a b (or_left (part name) (posts name) own)))) name e
    (alike name (or_right (posts name) (is_of_reader conf sender name || part name || same_name name ids_name) e)) bad) c.send_part.ensures.act.names)

pub returns-in-Index-clause-spared : goal.returns-in-Index-clause-spared
returns-in-Index-clause-spared g c told =
    let old = g.F.Files.map c.args.files.now in
    let conf = c.args.config.now in
    let sender = c.args.sender.now in
    let at = c.in-Index.at in
    let part : Name → Bool = is_of_index at in
    let asked = Group (at / 100) in
    spared_for c.send_part-in-Index.result old conf (is_seen_of c.args.config.now c.args.sender.now) c.in-Index.is
    (λ dir p alike is same. none_named g.F.Files c.send_part-in-Index.result (λ name. (is_of_reader conf sender name || part name || same_name name ids_name) ≡ true) (IsDamagedOf old asked) told
    (λ name e bad. part_none old dir p is conf sender part asked (λ name own bad. group_none old dir p.posts (is.archive).filed at name (answer_part old dir conf sender part alike) own (bad.own (group_archived name at own))) name e (alike name e) bad) c.send_part-in-Index.ensures.act.names)

pub returns-in-Thread-clause-spared : goal.returns-in-Thread-clause-spared
returns-in-Thread-clause-spared g c told =
    let old = g.F.Files.map c.args.files.now in
    let conf = c.args.config.now in
    let sender = c.args.sender.now in
    let at = c.in-Thread.at in
    let range = and_parts (nat_le 1 at) (nat_le at 99_999_999) (in_range _ _ c.in-Thread.is c.requires.request) in
    let low = leb-true 1 at range.0 in
    let most = leb-true at 99_999_999 range.1 in
    let part : Name → Bool = is_of_thread in
    let asked = ThreadOf conf.prefix at in
    spared_for c.send_part-in-Thread.result old conf (is_seen_of c.args.config.now c.args.sender.now) c.in-Thread.is
    (λ dir p alike is same.
    let seen = answer_part old dir conf sender is_seen_of_thread (answer_whole old dir conf sender part is_post_file alike) in
    none_named g.F.Files c.send_part-in-Thread.result (λ name. (is_of_reader conf sender name || part name || same_name name ids_name) ≡ true) (IsDamagedOf old asked) told
    (λ name e bad. part_none old dir p is conf sender part asked
    (λ name own bad. thread_none old dir conf.prefix p.posts (subst (λ (k : Config). IsArchive dir k.prefix p.posts) same is.archive) at low most seen name (bad.own (threads_archived name (or_left (part name) (is_post_file name) own)))) name e
    (alike name (or_right (is_post_file name) (is_of_reader conf sender name || part name || same_name name ids_name) e)) bad) c.send_part-in-Thread.ensures.act.names)

pub returns-in-Help-clause-spared : goal.returns-in-Help-clause-spared
returns-in-Help-clause-spared g c told dir p alike is same =
    let old = g.F.Files.map c.args.files.now in
    let conf = c.args.config.now in
    let sender = c.args.sender.now in
    let r = request_view c.args.request.now in
    let of = is_helped c.args.request.now c.requires.request c.in-Help.is in
    none_named g.F.Files c.send_help.result (λ name. same_name name ids_name ≡ true) (IsDamaged old) told
    (λ name e bad. ids_spared old dir p is name e (alike name (or_right (is_post_asked r name) (is_asked_of conf sender r name) (of.reads conf sender name ∙ e))) bad) c.send_help.ensures.act.names

pub returns-in-Subscribe-clause-apart : goal.returns-in-Subscribe-clause-apart
returns-in-Subscribe-clause-apart g c told = done_for c.subscribe.result _ _ (is_seen_of c.args.config.now c.args.sender.now) (spec.managed c.args.now.seconds c.args.sender.now) c.in-Subscribe.is (c.subscribe.ensures.apart told)

pub returns-in-Unsubscribe-clause-apart : goal.returns-in-Unsubscribe-clause-apart
returns-in-Unsubscribe-clause-apart g c told = done_for c.unsubscribe.result _ _ (is_seen_of c.args.config.now c.args.sender.now) (spec.managed c.args.now.seconds c.args.sender.now) c.in-Unsubscribe.is (c.unsubscribe.ensures.apart told)

pub returns-in-Confirm-clause-apart : goal.returns-in-Confirm-clause-apart
returns-in-Confirm-clause-apart g c told = done_for c.confirm.result _ _ (is_seen_of c.args.config.now c.args.sender.now) (spec.managed c.args.now.seconds c.args.sender.now) c.in-Confirm.is (c.confirm.ensures.apart told)

pub returns-in-Subscribe-clause-spared : goal.returns-in-Subscribe-clause-spared
returns-in-Subscribe-clause-spared g c told =
    spared_for c.subscribe.result (g.F.Files.map c.args.files.now) c.args.config.now (is_seen_of c.args.config.now c.args.sender.now) c.in-Subscribe.is
    (λ dir p alike is same. none_looked g.F.Files c.subscribe.result told c.subscribe.ensures.act.names dir p alike is)

pub returns-in-Unsubscribe-clause-spared : goal.returns-in-Unsubscribe-clause-spared
returns-in-Unsubscribe-clause-spared g c told =
    spared_for c.unsubscribe.result (g.F.Files.map c.args.files.now) c.args.config.now (is_seen_of c.args.config.now c.args.sender.now) c.in-Unsubscribe.is
    (λ dir p alike is same. none_looked g.F.Files c.unsubscribe.result told c.unsubscribe.ensures.act.names dir p alike is)

pub returns-in-Confirm-clause-spared : goal.returns-in-Confirm-clause-spared
returns-in-Confirm-clause-spared g c told =
    spared_for c.confirm.result (g.F.Files.map c.args.files.now) c.args.config.now (is_seen_of c.args.config.now c.args.sender.now) c.in-Confirm.is
    (λ dir p alike is same. none_looked g.F.Files c.confirm.result told c.confirm.ensures.act.names dir p alike is)
