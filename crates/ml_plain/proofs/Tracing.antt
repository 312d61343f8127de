-- What deliveries and the operator's items do to the ledgers.
use Rattle.std.proofs.Common.{◌≡◌, ℕ, Bool, true, false, ◌&&◌, Option, Some, None, refl, sym, ap, subst, ◌∙◌, codes, if◌then◌else◌, is_some}
use Rattle.std.proofs.lemmas.Bool.{and_parts, eqb-true, false≢true}
use Rattle.ml_base.specs.Bytes.{Text}
use Rattle.ml_base.specs.Address.{key, address_of}
use Rattle.ml_base.specs.Drawn.{thing_of}
use Rattle.ml_base.specs.declared.names.Set.{Set}
use Rattle.ml_address.specs.Requests.{PlainRequest, Post, Owner, Subscribe, Unsubscribe, Members, Confirm, Get, Index, Thread, Accept, Reject, Bounce, WarnBounce, ProbeBounce, ReplyBounce}
use Rattle.ml_address.specs.Reading.{request_of}
use Rattle.ml_bounce.specs.Ledger.{Ledger, entry_under, with_ledger}
use Rattle.ml_bounce.specs.declared.entries.Stage.{Stage}
use Rattle.ml_bounce.specs.declared.entries.Stage.TheVariants.{Unwarned, Warned, WarnFailed, Probed}
use Rattle.ml_bounce.specs.declared.entries.LedgerEntry.{LedgerEntry}
use Rattle.ml_bounce.specs.Changes.{can_note, noted, is_warned}
use Rattle.ml_hold.specs.declared.posts.Held.{Held}
use Rattle.ml_reply.specs.declared.mails.Mail.TheVariants as mails
use Rattle.ml_plain.specs.declared.Item.{Item}
use Rattle.ml_plain.specs.declared.Act.TheVariants.{Deliver}
use Rattle.ml_plain.specs.declared.Reply.{Reply}
use Rattle.ml_plain.specs.Answers as answers
use Rattle.ml_plain.specs.Bouncing as bouncing
use Rattle.ml_plain.specs.Laws.{IsBounce, IsWarningBounce}
use Rattle.ml_plain.specs.Mailing.{is_good}
use Rattle.ml_plain.specs.Managing as managing
use Rattle.ml_plain.specs.Plain.{Plain, is_in, is_full, is_worn, is_archive_full, added, removed, ledger_of, with_ledger_of}
use Rattle.ml_plain.specs.Posting as posting
use Rattle.ml_plain.specs.Steps as steps
use Rattle.ml_plain.specs.Verdicts.{Verdict, TooBig, BounceSender, Looped, Denied, NoSubject, CommandSubject, NotAddressed, UsersOnly, Held as HeldBack, Full, Posted, verdict}
use Rattle.ml_plain.proofs.Deliveries.{if_worn, delivered}
use Rattle.ml_plain.proofs.Leaving.{none_added}
use Rattle.ml_plain.proofs.Origins.{Origin, Noted, Failed, Traced, calm_same, calm_grown, traced_removed, traced_changed, traced_more, under_key}
use Rattle.ml_plain.proofs.Steps.{mailed_to, first_row_all}

verdict_traced : (now : ℕ) (sender m : Text) (p : Plain) (item : Item) (v : Verdict) → Traced p (posting.by_verdict now sender m p v).0 item
verdict_traced now sender m p item TooBig = calm_same p _ item refl refl refl
verdict_traced now sender m p item BounceSender = calm_same p _ item refl refl refl
verdict_traced now sender m p item Looped = calm_same p _ item refl refl refl
verdict_traced now sender m p item Denied = calm_same p _ item refl refl refl
verdict_traced now sender m p item NoSubject = calm_same p _ item refl refl refl
verdict_traced now sender m p item CommandSubject = calm_same p _ item refl refl refl
verdict_traced now sender m p item NotAddressed = calm_same p _ item refl refl refl
verdict_traced now sender m p item UsersOnly = calm_same p _ item refl refl refl
verdict_traced now sender m p item HeldBack = calm_same p _ item refl refl refl
verdict_traced now sender m p item Full = calm_same p _ item refl refl refl
verdict_traced now sender m p item Posted = calm_same p _ item refl refl refl

accepted_traced : (now ticket : ℕ) (h : Held) (p : Plain) (item : Item) (isfull : Bool) → Traced p (managing.accepted now ticket h p isfull).0 item
accepted_traced now ticket h p item true = calm_same p _ item refl refl refl
accepted_traced now ticket h p item false = calm_same p _ item refl refl refl

answered_traced : (now ticket : ℕ) (h : Held) (p : Plain) (item : Item) (accepts : Bool) → Traced p (managing.answered now ticket h p accepts).0 item
answered_traced now ticket h p item true = accepted_traced now ticket h p item (is_archive_full p)
answered_traced now ticket h p item false = calm_same p _ item refl refl refl

signed_traced : (now ticket : ℕ) (h : Held) (p : Plain) (item : Item) (accepts good : Bool) → Traced p (managing.if_signed now ticket h p accepts good).0 item
signed_traced now ticket h p item accepts true = answered_traced now ticket h p item accepts
signed_traced now ticket h p item accepts false = calm_same p _ item refl refl refl

answer_traced : (now ticket : ℕ) (letters : Text) (p : Plain) (item : Item) (accepts : Bool) (o : Option Held) → Traced p (managing.answer_held now ticket letters p accepts o).0 item
answer_traced now ticket letters p item accepts None = calm_same p _ item refl refl refl
answer_traced now ticket letters p item accepts (Some h) = signed_traced now ticket h p item accepts _

list_traced : (now : ℕ) (sender : Text) (set : Set) (p : Plain) (item : Item) (may : Bool) → Traced p (managing.list_members now sender set p may).0 item
list_traced now sender set p item true = calm_same p _ item refl refl refl
list_traced now sender set p item false = calm_same p _ item refl refl refl

archive_traced : (now : ℕ) (sender : Text) (p : Plain) (item : Item) (may : Bool) (text : Text) → Traced p (managing.from_archive now sender p may text).0 item
archive_traced now sender p item true text = calm_same p _ item refl refl refl
archive_traced now sender p item false text = calm_same p _ item refl refl refl

joined_traced : (now : ℕ) (set : Set) (x : Text) (isfull : Bool) (p : Plain) (item : Item) → Traced p (managing.joined now set x isfull p).0 item
joined_traced now set x true p item = calm_same p _ item refl refl refl
joined_traced now set x false p item = calm_grown p _ item refl refl (none_added p set x now)

done_traced : (now : ℕ) (set : Set) (sender x : Text) (p : Plain) (item : Item) (operation : managing.Operation) → Traced p (managing.done now set sender x p operation).0 item
done_traced now set sender x p item (managing.Only reply) = calm_same p _ item refl refl refl
done_traced now set sender x p item managing.TellAlready = calm_same p _ item refl refl refl
done_traced now set sender x p item managing.TellAbsent = calm_same p _ item refl refl refl
done_traced now set sender x p item (managing.AskSender word) = calm_same p _ item refl refl refl
done_traced now set sender x p item (managing.AskSubject word) = calm_same p _ item refl refl refl
done_traced now set sender x p item managing.AskModerators = calm_same p _ item refl refl refl
done_traced now set sender x p item managing.Join = joined_traced now set x (is_full p set) p item
done_traced now set sender x p item managing.Leave =
    traced_more p (removed set x p) _ item (traced_removed p set x item) (mailed_to (removed set x p) x now (mails.Goodbye x set x)) refl refl refl

managed_traced : (now : ℕ) (sender : Text) (p : Plain) (item : Item) (r : PlainRequest) → Traced p (managing.managed now sender p r).0 item
managed_traced now sender p item (Accept ticket letters) = answer_traced now ticket letters p item true _
managed_traced now sender p item (Reject ticket letters) = answer_traced now ticket letters p item false _
managed_traced now sender p item (Subscribe set who) = done_traced now set sender _ p item _
managed_traced now sender p item (Unsubscribe set who) = done_traced now set sender _ p item _
managed_traced now sender p item (Confirm word set s) = done_traced now set sender _ p item _
managed_traced now sender p item (Members set) = list_traced now sender set p item _
managed_traced now sender p item (Get from to) = archive_traced now sender p item _ _
managed_traced now sender p item (Index at) = archive_traced now sender p item _ _
managed_traced now sender p item (Thread at) = archive_traced now sender p item _ _
managed_traced now sender p item _ = calm_same p _ item refl refl refl

looped_traced : (now : ℕ) (sender : Text) (p : Plain) (item : Item) (r : PlainRequest) (isloop : Bool) → Traced p (managing.unless_looped now sender p r isloop).0 item
looped_traced now sender p item r true = calm_same p _ item refl refl refl
looped_traced now sender p item r false = managed_traced now sender p item r

sender_traced : (now : ℕ) (m : Text) (p : Plain) (item : Item) (r : PlainRequest) (o : Option Text) → Traced p (managing.by_sender now m p r o).0 item
sender_traced now m p item r None = calm_same p _ item refl refl refl
sender_traced now m p item r (Some s) = looped_traced now s p item r _

-- bounces

bounce_traced : (p : Plain) (item : Item) (set : Set) (number : ℕ) (x : Text) (test can : Bool)
    → (test ≡ true → can ≡ true → IsBounce p item set (key x) number × (is_in p set x ≡ true))
    → Traced p (bouncing.if_changed p set (if test then (if can then Some (with_ledger (noted number item.moment (entry_under (key x) (ledger_of p set))) (ledger_of p set)) else None) else None)).0 item
bounce_traced p item set number x false can h = calm_same p _ item refl refl refl
bounce_traced p item set number x true false h = calm_same p _ item refl refl refl
bounce_traced p item set number x true true h =
    let facts = h refl refl in
    let old = entry_under (key x) (ledger_of p set) in
    let new = noted number item.moment old in
    let q = with_ledger_of set (with_ledger new (ledger_of p set)) p in
    traced_changed p set new item (subst (λ k. Origin p q item set k new) (sym (under_key (key x) (ledger_of p set))) (Noted number facts.0 refl facts.1))

warned_at : (t : ℕ) (s : Stage) → is_warned t s ≡ true → s ≡ Warned t
warned_at t (Warned at) e = ap Warned (eqb-true at t e)
warned_at t Unwarned e = absurd (false≢true e)
warned_at t (WarnFailed at) e = absurd (false≢true e)
warned_at t (Probed at) e = absurd (false≢true e)

warning_traced : (p : Plain) (item : Item) (set : Set) (t : ℕ) (x : Text) (test is : Bool)
    → (test ≡ true → is ≡ true → IsWarningBounce p item set (key x) t) → (is ≡ true → (entry_under (key x) (ledger_of p set)).stage ≡ Warned t)
    → Traced p (bouncing.if_changed p set (if test then (if is then Some (with_ledger (record (entry_under (key x) (ledger_of p set)) { stage = WarnFailed item.moment }) (ledger_of p set)) else None) else None)).0 item
warning_traced p item set t x false is h w = calm_same p _ item refl refl refl
warning_traced p item set t x true false h w = calm_same p _ item refl refl refl
warning_traced p item set t x true true h w =
    let old = entry_under (key x) (ledger_of p set) in
    let new : LedgerEntry = record old { stage = WarnFailed item.moment } in
    let q = with_ledger_of set (with_ledger new (ledger_of p set)) p in
    traced_changed p set new item (subst (λ k. Origin p q item set k new) (sym (under_key (key x) (ledger_of p set))) (Failed t (h refl refl) (w refl) refl))

probed_traced : (p : Plain) (item : Item) (set : Set) (x : Text) (o : Option Ledger) → Traced p (bouncing.if_probed p set x o).0 item
probed_traced p item set x None = calm_same p _ item refl refl refl
probed_traced p item set x (Some ledger) = traced_removed p set x item

-- a bounce that changes a ledger is answered `bounce`
noted_answer : (p : Plain) (set : Set) (ledger : Ledger) (test can : Bool) → test ≡ true → can ≡ true
    → (bouncing.if_changed p set (if test then (if can then Some ledger else None) else None)).1 ≡ answers.bounce
noted_answer p set ledger true true t c = refl
noted_answer p set ledger false can t c = absurd (false≢true t)
noted_answer p set ledger true false t c = absurd (false≢true c)

module _ (p : Plain) (item : Item) (sender recipient m : Text) (act : item.act ≡ Deliver sender recipient m) (fresh : is_worn p ≡ false) where
  requested_traced : (r : PlainRequest) → request_of p.config.local p.config.host recipient ≡ Some r → Traced p (managing.by_request item.moment sender m p r).0 item
  requested_traced (Bounce set number who) is =
      let x = bouncing.address_named who in
      let test = is_in p set x && bouncing.is_used p set number in
      let old = entry_under (key x) (ledger_of p set) in
      bounce_traced p item set number x test (can_note number old) (λ t can.
      let parts = and_parts (is_in p set x) (bouncing.is_used p set number) t in (
        record {
          sender = sender;
          who = who;
          asks = record { recipient = recipient; message = m; act = act; request_is = is };
          is = refl;
          used = parts.1;
          told = delivered p item sender recipient m (Bounce set number who) act fresh is
              ∙ noted_answer p set (with_ledger (noted number item.moment old) (ledger_of p set)) test (can_note number old) t can;
        },
        parts.0,
      ))
  requested_traced (WarnBounce set s) is =
      let x = bouncing.address_named s.who in
      let old = entry_under (key x) (ledger_of p set) in
      let test = is_in p set x && is_good p (codes "warn") set s.time (key x) s.cookie item.moment in
      warning_traced p item set s.time x test (is_warned s.time old.stage) (λ t warned. record {
        sender = sender;
        signed = s;
        asks = record { recipient = recipient; message = m; act = act; request_is = is };
        is = refl;
        time_is = refl;
        good = (and_parts (is_in p set x) (is_good p (codes "warn") set s.time (key x) s.cookie item.moment) t).1;
        told = delivered p item sender recipient m (WarnBounce set s) act fresh is
            ∙ noted_answer p set (with_ledger (record old { stage = WarnFailed item.moment }) (ledger_of p set)) test (is_warned s.time old.stage) t warned;
      }) (warned_at s.time old.stage)
  requested_traced (ProbeBounce set s) is = probed_traced p item set _ _
  requested_traced (ReplyBounce set) is = calm_same p _ item refl refl refl
  requested_traced Owner is = calm_same p _ item refl refl refl
  requested_traced Post is = verdict_traced item.moment sender m p item (verdict p sender m)
  requested_traced r is = sender_traced item.moment m p item r (address_of sender)

  received_traced : (o : Option PlainRequest) → request_of p.config.local p.config.host recipient ≡ o → Traced p (managing.by_recipient item.moment sender m p o).0 item
  received_traced None e = calm_same p _ item refl refl refl
  received_traced (Some r) e = requested_traced r e

pub worn_traced : (p : Plain) (item : Item) (r : Plain × Reply) (worn : Bool) → (worn ≡ false → Traced p r.0 item) → Traced p (if_worn p r worn).0 item
worn_traced p item r true h = calm_same p _ item refl refl refl
worn_traced p item r false h = h refl

pub deliver_traced : (p : Plain) (item : Item) (sender recipient m : Text) → item.act ≡ Deliver sender recipient m → Traced p (managing.deliver item.moment sender recipient m p).0 item
deliver_traced p item sender recipient m act =
    worn_traced p item (managing.by_recipient item.moment sender m p (request_of p.config.local p.config.host recipient)) (is_worn p)
    (λ fresh. received_traced p item sender recipient m act fresh (request_of p.config.local p.config.host recipient) refl)

-- the operator's items

if_traced : (p : Plain) (item : Item) (a b : Plain × Reply) (t : Bool) → Traced p a.0 item → Traced p b.0 item → Traced p (if t then a else b).0 item
if_traced p item a b true h k = h
if_traced p item a b false h k = k

pub add_traced : (p : Plain) (item : Item) (set : Set) (who : Text) → Traced p (steps.add item.moment set who p).0 item
add_traced p item set who =
    first_row_all (λ qr. Traced p qr.0 item) (steps.add_cases p set who) (added set who item.moment p, answers.subscribed)
    (calm_same p p item refl refl refl, (calm_same p p item refl refl refl, tt)) (calm_grown p _ item refl refl (none_added p set who item.moment))

pub remove_traced : (p : Plain) (item : Item) (set : Set) (who : Text) → Traced p (steps.remove set who p).0 item
remove_traced p item set who = if_traced p item (removed set who p, answers.unsubscribed) (p, answers.absent) (is_in p set who) (traced_removed p set who item) (calm_same p p item refl refl refl)

pub sent_traced : (p : Plain) (item : Item) (id : ℕ) → Traced p (steps.sent id p).0 item
sent_traced p item id = if_traced p item _ _ (is_some (thing_of id p.queue)) (calm_same p _ item refl refl refl) (calm_same p p item refl refl refl)

pub rekey_traced : (p : Plain) (item : Item) (k : Text) → Traced p (steps.rekey item.moment k p).0 item
rekey_traced p item k = if_traced p item _ _ (steps.is_recent item.moment p.keys.former) (calm_same p p item refl refl refl) (calm_same p _ item refl refl refl)
