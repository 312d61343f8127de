-- What an item that is answered found in the files that it read, whatever the other files hold. Every file that decides what is done was in
-- its grammar, and what is done depends on what it spells: a damaged file isn't read as one that holds nothing.
use Rattle.std.specs.Prelude.{◌≡◌, ◌≢◌, ◌⊎◌, ℕ, Bool, true, false, List, [], ◌++◌, Option, Some, None, is_some, codes}
use Rattle.ml_address.specs.Reading.{request_of}
use Rattle.ml_address.specs.Requests.{PlainRequest, Post, Accept, Reject}
use Rattle.ml_base.specs.Address.{address_of, key}
use Rattle.ml_base.specs.Bytes.{Text}
use Rattle.ml_base.specs.Dir.{Dir}
use Rattle.ml_base.specs.declared.names.Set.{Set}
use Rattle.ml_base.specs.declared.puts.Put.{Put}
use Rattle.ml_config.specs.ConfigFile.{IsConfigFile, config_name}
use Rattle.ml_config.specs.declared.configuration.Config.{Config}
use Rattle.ml_header.specs.Fields.{has_field}
use Rattle.ml_plain.specs.Answers as answers
use Rattle.ml_plain.specs.declared.Act.{Act}
use Rattle.ml_plain.specs.declared.Act.TheVariants.{Deliver, Timed, Add, Remove, Sent, Rekey, Floor}
use Rattle.ml_plain.specs.declared.Item.{Item}
use Rattle.ml_plain.specs.declared.Reply.{Reply}
use Rattle.ml_queue.specs.Answers.{SendsBy}
use Rattle.ml_subs.specs.Answers.{puts_if, puts_of}
use Rattle.ml_subs.specs.declared.set_changes.AddAnswer.{AddAnswer}
use Rattle.ml_acts.specs.Found.{FoundToLeave, Says, TellsKeys, TellsWorn}
use Rattle.ml_joining.specs.Found.{FoundToAdd}
use Rattle.ml_post.specs.Found.{FoundByPost}
use Rattle.ml_post.specs.Deciding.{FoundByDecision}
use Rattle.ml_manage.specs.Found.{FoundByRequest}
use Rattle.ml_timed.specs.Found.{FoundInRun}
use Rattle.ml_list.specs.Again.{IsAgain}
use Rattle.ml_list.specs.Applying.{addition_reply}

-- an address is added to a set, or removed from it, by its bucket and the set's count
pub record FoundToAddMember (dir : Dir) (set : Set) (who : Text) (done : List Put × Reply) : Type 0 where
  pub answer : AddAnswer
  pub found : FoundToAdd dir set (key who) answer
  pub puts : done.0 ≡ puts_of answer
  pub reply : done.1 ≡ addition_reply answer

abbrev pub removal_reply : Option (List Put) → Reply
removal_reply None = answers.absent
removal_reply (Some puts) = answers.unsubscribed

pub record FoundToRemoveMember (dir : Dir) (set : Set) (who : Text) (done : List Put × Reply) : Type 0 where
  pub answer : Option (List Put)
  pub found : FoundToLeave dir set (key who) answer
  pub puts : done.0 ≡ puts_if answer
  pub reply : done.1 ≡ removal_reply answer

-- an entry of the queue was sent, by its file and the counter of ids
abbrev pub sending_reply : Option (List Put) → Reply
sending_reply None = answers.noentry
sending_reply (Some puts) = answers.dequeued

pub record FoundToSend (dir : Dir) (id : ℕ) (done : List Put × Reply) : Type 0 where
  pub answer : Option (List Put)
  pub found : SendsBy dir id answer
  pub puts : done.0 ≡ puts_if answer
  pub reply : done.1 ≡ sending_reply answer

-- a moderator's answer, from a usable sender that isn't a list
abbrev pub FoundModerated : Dir → Config → Text → Text → ℕ → Bool → List Put × Reply → Type 0
FoundModerated dir c sender m ticket accept done =
    ((is_some (address_of sender) ≡ false) × Says answers.nosender done)
    ⊎ (((has_field (codes "mailing-list") m ≡ true) × Says answers.looped done) ⊎ FoundByDecision dir c ticket accept done)

-- a request: a post, a moderator's answer, or anything else
abbrev pub FoundOfRequest : Dir → Config → Text → Text → PlainRequest → List Put × Reply → Type 0
FoundOfRequest dir c sender m Post done = FoundByPost dir c sender m done
FoundOfRequest dir c sender m (Accept ticket cookie) done = FoundModerated dir c sender m ticket true done
FoundOfRequest dir c sender m (Reject ticket cookie) done = FoundModerated dir c sender m ticket false done
FoundOfRequest dir c sender m request done = FoundByRequest dir c sender m request done

-- a recipient, which may not be the list's
abbrev pub FoundOfRecipient : Dir → Config → Text → Text → Option PlainRequest → List Put × Reply → Type 0
FoundOfRecipient dir c sender m None done = Says answers.notours done
FoundOfRecipient dir c sender m (Some request) done = FoundOfRequest dir c sender m request done

-- if ids or tickets are worn out, nothing is done
abbrev pub UnlessWorn : (List Put × Reply → Type 0) → Bool → List Put × Reply → Type 0
UnlessWorn Found true done = Says answers.full done
UnlessWorn Found false done = Found done

-- by the counters of ids and tickets, which are looked at first
pub record FoundByCounters (dir : Dir) (Found : List Put × Reply → Type 0) (done : List Put × Reply) : Type 0 where
  pub worn : Bool
  pub counters : TellsWorn dir worn
  pub follows : UnlessWorn Found worn done

-- a delivery and a timed run, by the configuration that the files hold
pub record FoundToDeliver (dir : Dir) (sender recipient m : Text) (done : List Put × Reply) : Type 0 where
  pub config : Config
  pub held : IsConfigFile (dir config_name) config
  pub found : FoundByCounters dir (FoundOfRecipient dir config sender m (request_of config.local config.host recipient)) done

pub record FoundToRun (dir : Dir) (done : List Put × Reply) : Type 0 where
  pub config : Config
  pub held : IsConfigFile (dir config_name) config
  pub found : FoundByCounters dir (λ d. FoundInRun dir [] d.0) done

-- what an act found
abbrev pub FoundByAct : Dir → Act → List Put × Reply → Type 0
FoundByAct dir (Deliver sender recipient message) done = FoundToDeliver dir sender recipient message done
FoundByAct dir Timed done = FoundToRun dir done
FoundByAct dir (Add set who) done = FoundToAddMember dir set who done
FoundByAct dir (Remove set who) done = FoundToRemoveMember dir set who done
FoundByAct dir (Sent id) done = FoundToSend dir id done
FoundByAct dir (Rekey new) done = TellsKeys dir
FoundByAct dir (Floor at) done = Unit {0}

-- an answer, with puts after it that keep its reply
pub record KeepsReply (own done : List Put × Reply) : Type 0 where
  pub kept : List Put
  pub puts : done.0 ≡ own.0 ++ kept
  pub reply : done.1 ≡ own.1

-- an item that counts, by its act
pub record FoundNow (dir : Dir) (act : Act) (done : List Put × Reply) : Type 0 where
  pub own : List Put × Reply
  pub found : FoundByAct dir act own
  pub with_reply : KeepsReply own done

-- one whose number has a reply, by the floor and the number's slot
pub record FoundAgain (dir : Dir) (number : ℕ) (done : List Put × Reply) : Type 0 where
  pub counted : number ≢ 0
  pub reply : Reply
  pub again : IsAgain dir number (Some reply)
  pub says : Says reply done

-- any
abbrev pub FoundWhole : Dir → Item → List Put × Reply → Type 0
FoundWhole dir item done = FoundAgain dir item.number done ⊎ FoundNow dir item.act done
