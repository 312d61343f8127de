-- Which files mail to the list's other addresses may write.
use Rattle.std.specs.Prelude.{Bool, false, Option, Some, None}
use Rattle.ml_base.specs.Address.{address_of}
use Rattle.ml_base.specs.Bytes.{Text}
use Rattle.ml_base.specs.declared.names.Name.{Name}
use Rattle.ml_address.specs.Requests.{PlainRequest, Owner, Subscribe, Unsubscribe, Confirm, Bounce, WarnBounce, ProbeBounce, ReplyBounce}
use Rattle.ml_joining.specs.Operations.{asked_of}
use Rattle.ml_joining.specs.Written.{is_written_to_confirm, is_written_to_join}
use Rattle.ml_plain.specs.Bouncing.{address_named}
use Rattle.ml_acts.specs.Doing.{is_changed_for, is_entry_of, is_left_by, is_of_queue}

-- the files that a request of a sender whose address is checked may write: those of the address that joins a set or leaves it, and the queue
abbrev pub is_written_of : Text → PlainRequest → Name → Bool
is_written_of sender (Subscribe set who) name = is_written_to_join set (asked_of sender who) name
is_written_of sender (Unsubscribe set who) name = is_changed_for set (asked_of sender who) name
is_written_of sender (Confirm word set s) name = is_written_to_confirm word set (address_named s.who) name
is_written_of sender _ name = is_of_queue name

-- and one of a sender that may not be an address
abbrev pub is_written_for : Option Text → PlainRequest → Name → Bool
is_written_for None request name = false
is_written_for (Some who) request name = is_written_of who request name

-- the files that a sender's mail may write: a bounce writes only those of the address that it names in the set, and not the queue
abbrev pub is_written_for_sender : Text → PlainRequest → Name → Bool
is_written_for_sender sender (Bounce set number who) name = is_entry_of set (address_named who) name
is_written_for_sender sender (WarnBounce set s) name = is_entry_of set (address_named s.who) name
is_written_for_sender sender (ProbeBounce set s) name = is_left_by set (address_named s.who) name
is_written_for_sender sender (ReplyBounce set) name = false
is_written_for_sender sender Owner name = is_of_queue name
is_written_for_sender sender request name = is_written_for (address_of sender) request name
