-- Which files requests write.
use Rattle.std.proofs.Common.{◌≡◌, true, false, Option, Some, None}
use Rattle.std.proofs.lemmas.Bool.{or_right}
use Rattle.ml_address.specs.Requests.{PlainRequest, Post, Help, Other, Owner, Subscribe, Unsubscribe, Confirm, Members, Get, Index, Thread, Accept, Reject, Bounce, WarnBounce, ProbeBounce, ReplyBounce}
use Rattle.ml_base.specs.Address.{address_of, key}
use Rattle.ml_base.specs.Bytes.{Text}
use Rattle.ml_base.specs.declared.names.Name.{Name}
use Rattle.ml_base.specs.declared.names.Set.{Set}
use Rattle.ml_plain.specs.Bouncing.{address_named}
use Rattle.ml_subs.specs.Subscribers.{is_touched}
use Rattle.ml_acts.specs.Doing.{is_beside_mark, is_entry_of}
use Rattle.ml_acts.proofs.Left.{changed_beside, left_beside}
use Rattle.ml_acts.proofs.Queued.{beside_mail, queue_beside}
use Rattle.ml_joining.specs.Operations.{asked_of}
use Rattle.ml_joining.proofs.Written.{confirm_beside, join_beside}
use Rattle.ml_manage.specs.Written.{is_written_for, is_written_for_sender, is_written_of}

-- a delivery may write all of this
of_beside : (sender : Text) (r : PlainRequest) (name : Name) → is_written_of sender r name ≡ true → is_beside_mark name ≡ true
of_beside sender Post name e = queue_beside name e
of_beside sender Help name e = queue_beside name e
of_beside sender Owner name e = queue_beside name e
of_beside sender (Subscribe set who) name e = join_beside set (asked_of sender who) name e
of_beside sender (Unsubscribe set who) name e = changed_beside set (asked_of sender who) name e
of_beside sender (Members set) name e = queue_beside name e
of_beside sender (Confirm word set s) name e = confirm_beside word set (address_named s.who) name e
of_beside sender (Get from to) name e = queue_beside name e
of_beside sender (Index at) name e = queue_beside name e
of_beside sender (Thread at) name e = queue_beside name e
of_beside sender (Accept ticket cookie) name e = queue_beside name e
of_beside sender (Reject ticket cookie) name e = queue_beside name e
of_beside sender (Bounce set number who) name e = queue_beside name e
of_beside sender (WarnBounce set s) name e = queue_beside name e
of_beside sender (ProbeBounce set s) name e = queue_beside name e
of_beside sender (ReplyBounce set) name e = queue_beside name e
of_beside sender Other name e = queue_beside name e

for_beside : (sender : Option Text) (r : PlainRequest) (name : Name) → is_written_for sender r name ≡ true → is_beside_mark name ≡ true
for_beside None r name e = absurd (let bad : false ≡ true = e in cc)
for_beside (Some who) r name e = of_beside who r name e

entry_beside : (set : Set) (who : Text) (name : Name) → is_entry_of set who name ≡ true → is_beside_mark name ≡ true
entry_beside set who name e = beside_mail name (left_beside set who name (or_right (is_touched set (key who) name) (is_entry_of set who name) e))

pub sender_beside : (sender : Text) (r : PlainRequest) (name : Name) → is_written_for_sender sender r name ≡ true → is_beside_mark name ≡ true
sender_beside sender Post name e = for_beside (address_of sender) Post name e
sender_beside sender Help name e = for_beside (address_of sender) Help name e
sender_beside sender Owner name e = queue_beside name e
sender_beside sender (Subscribe set who) name e = for_beside (address_of sender) (Subscribe set who) name e
sender_beside sender (Unsubscribe set who) name e = for_beside (address_of sender) (Unsubscribe set who) name e
sender_beside sender (Members set) name e = for_beside (address_of sender) (Members set) name e
sender_beside sender (Confirm word set s) name e = for_beside (address_of sender) (Confirm word set s) name e
sender_beside sender (Get from to) name e = for_beside (address_of sender) (Get from to) name e
sender_beside sender (Index at) name e = for_beside (address_of sender) (Index at) name e
sender_beside sender (Thread at) name e = for_beside (address_of sender) (Thread at) name e
sender_beside sender (Accept ticket cookie) name e = for_beside (address_of sender) (Accept ticket cookie) name e
sender_beside sender (Reject ticket cookie) name e = for_beside (address_of sender) (Reject ticket cookie) name e
sender_beside sender (Bounce set number who) name e = entry_beside set (address_named who) name e
sender_beside sender (WarnBounce set s) name e = entry_beside set (address_named s.who) name e
sender_beside sender (ProbeBounce set s) name e = beside_mail name (left_beside set (address_named s.who) name e)
sender_beside sender (ReplyBounce set) name e = absurd (let bad : false ≡ true = e in cc)
sender_beside sender Other name e = for_beside (address_of sender) Other name e
