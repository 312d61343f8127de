-- Which files an item may write, whatever the files hold.
use Rattle.std.specs.Prelude.{◌≡◌, ◌/◌, ℕ, Bool, true, false, not, ◌&&◌, ◌||◌, ◌==◌, nat_le, List, Option, Some, None}
use Rattle.ml_base.specs.Address.{key}
use Rattle.ml_base.specs.Bytes.{Text}
use Rattle.ml_base.specs.Dir.{Dir, same_name, touches_only}
use Rattle.ml_base.specs.Kinds.{replies_kind}
use Rattle.ml_base.specs.declared.names.Name.{Name}
use Rattle.ml_base.specs.declared.puts.Put.{Put}
use Rattle.ml_address.specs.Reading.{request_of}
use Rattle.ml_address.specs.Requests.{PlainRequest, Post, Accept, Reject}
use Rattle.ml_config.specs.ConfigFile.{IsConfigFile, config_name}
use Rattle.ml_config.specs.KeyFile.{key_name}
use Rattle.ml_config.specs.declared.configuration.Config.{Config}
use Rattle.ml_manage.specs.Written.{is_written_for_sender}
use Rattle.ml_queue.specs.Answers.{entry_name, ids_name}
use Rattle.ml_subs.specs.Subscribers.{is_touched}
use Rattle.ml_plain.specs.declared.Item.{Item}
use Rattle.ml_plain.specs.declared.Act.{Act}
use Rattle.ml_plain.specs.declared.Act.TheVariants.{Deliver, Timed, Add, Remove, Sent, Rekey, Floor}
use Rattle.ml_plain.specs.KeptFiles.{floor_name, replies_name}
use Rattle.ml_acts.specs.Doing.{is_beside_mark, is_left_by, is_of_posting}
use Rattle.ml_acts.specs.Growing.{is_of_time}

-- the floor's file, and the files of kept replies up to that of a block of 512 numbers
abbrev pub is_up_to : ℕ → Name → Bool
is_up_to block name = same_name name floor_name || ((name.kind == replies_kind) && nat_le name.at block)

-- The files that an act may write: a delivery any file of the list except the configuration, the key and the mark of the digests; a timed run
-- the mark, held posts, ledgers and the queue; and any other act those of what it changes.
abbrev pub is_written_by_act : Act → Name → Bool
is_written_by_act (Deliver sender recipient message) name = is_beside_mark name
is_written_by_act Timed name = is_of_time name
is_written_by_act (Add set who) name = is_touched set (key who) name
is_written_by_act (Remove set who) name = is_left_by set who name
is_written_by_act (Sent id) name = same_name name (entry_name id) || same_name name ids_name
is_written_by_act (Rekey new) name = same_name name key_name
is_written_by_act (Floor at) name = is_up_to (at / 512) name

-- the file of a number's kept reply, if the number isn't 0
abbrev pub is_reply_file : ℕ → Name → Bool
is_reply_file number name = not (number == 0) && same_name name (replies_name (number / 512))

-- the files that an item may write: those of its act, and that of its number's kept reply
abbrev pub is_written_by : Item → Name → Bool
is_written_by item name = is_written_by_act item.act name || is_reply_file item.number name

-- the files that a delivery from a sender may write, by what its recipient asks: a post or a moderator's answer those of posts, any other
-- request its own; none if the recipient isn't the list's
abbrev pub is_delivered_by : Text → Option PlainRequest → Name → Bool
is_delivered_by sender None name = false
is_delivered_by sender (Some Post) name = is_of_posting name
is_delivered_by sender (Some (Accept ticket cookie)) name = is_of_posting name
is_delivered_by sender (Some (Reject ticket cookie)) name = is_of_posting name
is_delivered_by sender (Some request) name = is_written_for_sender sender request name

-- the files that an act may write under a configuration, by which the recipient of a delivery is a request
abbrev pub is_written_under_act : Config → Act → Name → Bool
is_written_under_act c (Deliver sender recipient message) name = is_delivered_by sender (request_of c.local c.host recipient) name
is_written_under_act c act name = is_written_by_act act name

-- and those that an item may
abbrev pub is_written_under : Config → Item → Name → Bool
is_written_under c item name = is_written_under_act c item.act name || is_reply_file item.number name

-- an item's puts are of files that it may write under the configuration that the files hold, if they hold one
abbrev pub WritesAsAsked : Dir → Item → List Put → Type 0
WritesAsAsked dir item puts = (c : Config) → IsConfigFile (dir config_name) c → touches_only (is_written_under c item) puts ≡ true
