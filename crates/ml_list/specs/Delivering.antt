-- Which files a delivery may read, by the configuration that the files hold.
use Rattle.std.specs.Prelude.{◌≡◌, ◌⊎◌, Bool, true, false, ◌||◌, Option, Some, None}
use Rattle.ml_base.specs.Bytes.{Text}
use Rattle.ml_base.specs.Dir.{Dir, same_name}
use Rattle.ml_base.specs.declared.names.Name.{Name}
use Rattle.ml_address.specs.Reading.{request_of}
use Rattle.ml_address.specs.Requests.{PlainRequest, Post, Accept, Reject}
use Rattle.ml_config.specs.ConfigFile.{IsConfigFile, config_name}
use Rattle.ml_config.specs.declared.configuration.Config.{Config}
use Rattle.ml_filing.specs.Threads.{is_of_archive}
use Rattle.ml_acts.specs.Asked.{IsBadFor, Next}
use Rattle.ml_acts.specs.Damaged.{IsDamaged}
use Rattle.ml_hold.specs.Answers.{tickets_name}
use Rattle.ml_manage.specs.Reads.{IsForRequest, is_read_for_sender}
use Rattle.ml_post.specs.Answering.{IsBadForTicket, IsReadOfTicket, accepts, is_answered_by}
use Rattle.ml_post.specs.Posting.{is_posted_by}
use Rattle.ml_post.specs.Publishing.{sent_key}
use Rattle.ml_queue.specs.Answers.{ids_name}
use Rattle.ml_list.specs.Moderating.{answer_to}
use Rattle.ml_list.specs.declared.deliveries.Task.{Task}
use Rattle.ml_list.specs.declared.deliveries.Task.TheVariants as tasks

-- the counters that are looked at before anything else
abbrev pub is_of_worn : Name → Bool
is_of_worn name = same_name name ids_name || same_name name tickets_name

-- a request that is neither a post nor a moderator's answer
abbrev pub is_other : PlainRequest → Bool
is_other Post = false
is_other (Accept ticket cookie) = false
is_other (Reject ticket cookie) = false
is_other request = true

-- what a request asks of a delivery: a post, a moderator's answer, or anything else
abbrev pub IsTaskOf : PlainRequest → Task → Type 0
IsTaskOf request tasks.Post = request ≡ Post
IsTaskOf request (tasks.Decide ticket cookie decision) = request ≡ answer_to ticket cookie (accepts decision)
IsTaskOf request tasks.Manage = is_other request ≡ true

-- the files that a request of an envelope sender may read: a post, a moderator's answer, or anything else
abbrev pub is_requested : Config → Text → PlainRequest → Name → Bool
is_requested c sender Post name = is_posted_by c sender name
is_requested c sender (Accept ticket cookie) name = is_answered_by ticket true name
is_requested c sender (Reject ticket cookie) name = is_answered_by ticket false name
is_requested c sender request name = is_read_for_sender c sender request name

-- What a request asks of the archive, with the message that came. A post, also one that waits under a ticket, asks for a place after the last
-- one, by the key of its own subject; any other request asks for what it says. A moderator's answer reads the post of its ticket; if one
-- waits there, the keys; and only if its letters are the cookie, what follows.
abbrev pub IsForMail : Dir → Config → Text → PlainRequest → Name → Type 0
IsForMail dir c m Post name = is_of_archive name ≡ true → IsBadFor dir (Next (sent_key c m)) name
IsForMail dir c m (Accept ticket cookie) name =
    (is_of_archive name ≡ true → IsBadForTicket dir c ticket name) × IsReadOfTicket dir ticket cookie true name
IsForMail dir c m (Reject ticket cookie) name =
    (is_of_archive name ≡ true → IsBadForTicket dir c ticket name) × IsReadOfTicket dir ticket cookie false name
IsForMail dir c m request name = IsForRequest dir c request name

-- A file that a request may read, if there is a request; one of the archive is damaged for what it asks. No file is read for a recipient
-- that isn't the list's.
abbrev pub IsRequested : Dir → Config → Text → Text → Option PlainRequest → Name → Type 0
IsRequested dir c sender m None name = ⊥
IsRequested dir c sender m (Some request) name = (is_requested c sender request name ≡ true) × IsForMail dir c m request name

-- a counter that is looked at first, or a file that the request may read
abbrev pub IsServed : Dir → Config → Text → Text → Option PlainRequest → Name → Type 0
IsServed dir c sender m request name = (is_of_worn name ≡ true) ⊎ IsRequested dir c sender m request name

-- a damaged one
pub record IsDamagedServed (dir : Dir) (c : Config) (sender m : Text) (request : Option PlainRequest) (name : Name) : Type 0 where
  pub damaged : IsDamaged dir name
  pub served : IsServed dir c sender m request name

-- A file that a delivery may read. By the configuration that the files hold, its recipient is a request, with certain numbers. A file of
-- the archive is damaged for what this asks of it.
pub record IsDelivered (dir : Dir) (sender recipient m : Text) (name : Name) : Type 0 where
  pub config : Config
  pub held : IsConfigFile (dir config_name) config
  pub served : IsServed dir config sender m (request_of config.local config.host recipient) name
