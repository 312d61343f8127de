-- Which files an item looks at, whatever the others hold.
use Rattle.std.specs.Prelude.{◌≡◌, ◌/◌, true, false, ◌||◌, Option, Some, None}
use Rattle.ml_base.specs.Address.{key}
use Rattle.ml_base.specs.Bytes.{Text}
use Rattle.ml_base.specs.Dir.{Dir, same_name}
use Rattle.ml_address.specs.Reading.{request_of}
use Rattle.ml_address.specs.Requests.{PlainRequest, Post, Accept, Reject}
use Rattle.ml_config.specs.ConfigFile.{IsConfigFile, config_name}
use Rattle.ml_config.specs.KeyFile.{key_name}
use Rattle.ml_config.specs.declared.configuration.Config.{Config}
use Rattle.ml_subs.specs.Subscribers.{is_touched}
use Rattle.ml_plain.specs.declared.Item.{Item}
use Rattle.ml_plain.specs.declared.Act.{Act}
use Rattle.ml_plain.specs.declared.Act.TheVariants.{Deliver, Timed, Add, Remove, Sent, Rekey, Floor}
use Rattle.ml_plain.specs.Directory.{IsState}
use Rattle.ml_plain.specs.Histories.{State}
use Rattle.ml_plain.specs.KeptFiles.{floor_name, replies_name}
use Rattle.ml_acts.specs.Doing.{Alike, is_left_by, is_of_queue}
use Rattle.ml_post.specs.Alike.{AlikeForAnswer, AlikeForPost}
use Rattle.ml_manage.specs.Reads.{is_seen_for_sender}
use Rattle.ml_timed.specs.Reads.{is_seen_in_timed}
use Rattle.ml_list.specs.Damage.{is_looked_up}
use Rattle.ml_list.specs.Delivering.{is_of_worn}

-- Two directories have the same files of those that a request looks at. A post looks at those of its verdict and of its own place in the archive,
-- and at those that it needs to be held or sent. A moderator's answer looks at the post that waits, at what decides whether its letters are the
-- cookie, and at what follows. Any other request looks at those that it may read, by its own numbers and addresses, and at the posts that it
-- asks for.
abbrev pub AlikeForRequest : Config → Text → Text → Option PlainRequest → Dir → Dir → Type 0
AlikeForRequest c sender m None old dir = Unit {0}
AlikeForRequest c sender m (Some Post) old dir = AlikeForPost c sender m old dir
AlikeForRequest c sender m (Some (Accept ticket cookie)) old dir = AlikeForAnswer c ticket true old dir
AlikeForRequest c sender m (Some (Reject ticket cookie)) old dir = AlikeForAnswer c ticket false old dir
AlikeForRequest c sender m (Some request) old dir = Alike (is_seen_for_sender c sender request) old dir

-- the same of those that a delivery looks at under a configuration: the counters of ids and tickets, and what its request looks at
pub record AlikeServed (c : Config) (sender m : Text) (request : Option PlainRequest) (old dir : Dir) : Type 0 where
  pub counters : Alike is_of_worn old dir
  pub asked : AlikeForRequest c sender m request old dir

-- and under the configuration that the files hold
pub record AlikeForMail (sender recipient m : Text) (old dir : Dir) : Type 0 where
  pub config : dir config_name ≡ old config_name
  pub served : (c : Config) → IsConfigFile (old config_name) c → AlikeServed c sender m (request_of c.local c.host recipient) old dir

-- the same of those that a timed run looks at, under the configuration that the files hold
pub record AlikeForRun (old dir : Dir) : Type 0 where
  pub config : dir config_name ≡ old config_name
  pub timed : (c : Config) → IsConfigFile (old config_name) c → Alike (is_seen_in_timed c.flags.d) old dir

-- The same of those that an act looks at. A report of sent mail looks at those of the queue, raising the floor at the floor's file and the one
-- file of kept replies that the new floor cuts, and an act on a set or the key at what it changes.
abbrev pub AlikeForAct : Act → Dir → Dir → Type 0
AlikeForAct (Deliver sender recipient message) old dir = AlikeForMail sender recipient message old dir
AlikeForAct Timed old dir = AlikeForRun old dir
AlikeForAct (Add set who) old dir = Alike (is_touched set (key who)) old dir
AlikeForAct (Remove set who) old dir = Alike (is_left_by set who) old dir
AlikeForAct (Sent id) old dir = Alike is_of_queue old dir
AlikeForAct (Rekey new) old dir = Alike (λ name. same_name name key_name) old dir
AlikeForAct (Floor at) old dir = Alike (λ name. same_name name floor_name || same_name name (replies_name (at / 512))) old dir

-- and of those that an item looks at: first the floor's and that of its number's reply, and then those of its act
pub record AlikeFor (item : Item) (old dir : Dir) : Type 0 where
  pub number : Alike (is_looked_up item.number) old dir
  pub act : AlikeForAct item.act old dir

-- no directory that has the files that an item looks at stands for a list
abbrev pub StandsForNone : Dir → Item → Type 0
StandsForNone files item = (dir : Dir) (q : State) → AlikeFor item files dir → ¬ IsState dir q
