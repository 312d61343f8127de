-- What mail to the list's other addresses finds in the files that it reads, whatever the other files hold: these are in their grammar, and
-- the answer depends on what they spell.
use Rattle.std.specs.Prelude.{◌≡◌, ◌⊎◌, ◌/◌, ◌||◌, ℕ, Bool, true, false, not, List, [], Option, Some, None, unwrap_or, codes}
use Rattle.ml_address.specs.Requests.{PlainRequest, Owner, Subscribe, Unsubscribe, Confirm, Members, Get, Index, Thread, Bounce, WarnBounce, ProbeBounce, ReplyBounce}
use Rattle.ml_base.specs.Address.{address_of, key}
use Rattle.ml_base.specs.Bytes.{Text}
use Rattle.ml_base.specs.Dir.{Dir}
use Rattle.ml_base.specs.declared.names.Set.{Set}
use Rattle.ml_base.specs.declared.names.Set.TheVariants as sets
use Rattle.ml_base.specs.declared.puts.Put.{Put}
use Rattle.ml_bounce.specs.Answers.{IsBucketOf as IsLedgerOf}
use Rattle.ml_bounce.specs.Ledger.{Ledger}
use Rattle.ml_config.specs.declared.configuration.Config.{Config}
use Rattle.ml_digest.specs.Due.{IsMark}
use Rattle.ml_digest.specs.declared.posts.Mark.{Mark}
use Rattle.ml_filing.specs.Answers.{IsIndexByFiles, IsRangeByFiles, IsThreadAnswer}
use Rattle.ml_filing.specs.Archive.{IsNumberFile, number_name}
use Rattle.ml_filing.specs.declared.posts.Entry.{Entry}
use Rattle.ml_header.specs.Fields.{has_field}
use Rattle.ml_plain.specs.Answers as answers
use Rattle.ml_plain.specs.Bouncing.{address_named}
use Rattle.ml_plain.specs.declared.Reply.{Reply}
use Rattle.ml_acts.specs.Found.{EitherTells, FoundToLeave, QueuesMail, Says, SpellsAddresses, TellsKeys, TellsMember}
use Rattle.ml_joining.specs.Found.{FoundToConfirm, FoundToSubscribe, FoundToUnsubscribe, SendsMail}
use Rattle.ml_joining.specs.Operations.{asked_of}

-- whether a key is a subscriber's: a member's of the set list or digest
abbrev pub TellsSubscriber : Dir → Text → Bool → Type 0
TellsSubscriber dir k = EitherTells (TellsMember dir sets.List k) (TellsMember dir sets.Digest k)

-- whether the archive is closed to all but moderators
abbrev pub is_closed : Config → Bool
is_closed c = c.flags.b || not c.flags.p

-- whether the archive is open to somebody who isn't a moderator: if only subscribers may read it, by their buckets
abbrev pub TellsOpen : Dir → Config → Text → Bool → Type 0
TellsOpen dir c k true = (is_closed c ≡ false) × (c.flags.g ≡ true → TellsSubscriber dir k true)
TellsOpen dir c k false = (is_closed c ≡ true) ⊎ ((c.flags.g ≡ true) × TellsSubscriber dir k false)

-- whether it is open to a sender
abbrev pub TellsReader : Dir → Config → Text → Bool → Type 0
TellsReader dir c k = EitherTells (TellsMember dir sets.Moderators k) (TellsOpen dir c k)

-- whether a sender may be told who is in a set
abbrev pub TellsLister : Dir → Config → Text → Bool → Type 0
TellsLister dir c k true = (c.flags.l ≡ true) × TellsMember dir sets.Moderators k true
TellsLister dir c k false = c.flags.l ≡ true → TellsMember dir sets.Moderators k false

-- a mail with what was read goes to those who may have it, and for others there is only a reply
abbrev pub FoundIfMay : Dir → Type 0 → Reply → Bool → List Put × Reply → Type 0
FoundIfMay dir Read reply true done = Read × SendsMail dir [] reply done
FoundIfMay dir Read reply false done = Says answers.private done

-- what is found about somebody who asks for a part of the archive, and in that part
pub record FoundToRead (dir : Dir) (c : Config) (k : Text) (Read : Type 0) (done : List Put × Reply) : Type 0 where
  pub may : Bool
  pub tells : TellsReader dir c k may
  pub follows : FoundIfMay dir Read answers.archive may done

-- the posts a to b, the thread of a post, and the index of a group, by the files that have them
abbrev pub TellsRange : Dir → ℕ → ℕ → Type 0
TellsRange dir a b = (row : List ℕ) × IsRangeByFiles dir a b row

abbrev pub TellsThread : Dir → Text → ℕ → Type 0
TellsThread dir prefix n = (row : List ℕ) × IsThreadAnswer dir prefix n row

abbrev pub TellsIndex : Dir → ℕ → Type 0
TellsIndex dir group = (entries : List Entry) × IsIndexByFiles dir group entries

-- and about somebody who asks for the members of a set
pub record FoundToList (dir : Dir) (c : Config) (set : Set) (k : Text) (done : List Put × Reply) : Type 0 where
  pub may : Bool
  pub tells : TellsLister dir c k may
  pub follows : FoundIfMay dir ((to : List Text) × SpellsAddresses dir set to) answers.members may done

-- one mail, to the owner
pub record FoundToOwner (dir : Dir) (done : List Put × Reply) : Type 0 where
  pub queued : QueuesMail dir done.0
  pub is : done.1 ≡ answers.owner

-- whether a bounce counts: only if the key is a member's, and then by what else is read
abbrev pub IfMember : Dir → Set → Text → Type 0 → Bool → Type 0
IfMember dir set k Read true = TellsMember dir set k true × Read
IfMember dir set k Read false = TellsMember dir set k false ⊎ (TellsMember dir set k true × Read)

-- which numbers of a set's mail were used: by the mark of the digests, or the number of posts
abbrev pub TellsUsed : Dir → Set → Type 0
TellsUsed dir sets.Digest = (mark : Mark) × IsMark dir mark
TellsUsed dir _ = (count : ℕ) × IsNumberFile (dir number_name) count

-- the file of a set's ledger that has a key is in its grammar
abbrev pub TellsLedger : Dir → Set → Text → Type 0
TellsLedger dir set k = (entries : Ledger) × IsLedgerOf dir set k entries

-- what follows a bounce that counts, and one that doesn't
abbrev pub FoundIfCounts : (List Put × Reply → Type 0) → Bool → List Put × Reply → Type 0
FoundIfCounts Follows true done = Follows done
FoundIfCounts Follows false done = Says answers.ignored done

pub record FoundOfBounce (dir : Dir) (set : Set) (k : Text) (Read : Type 0) (Follows : List Put × Reply → Type 0) (done : List Put × Reply) : Type 0 where
  pub counts : Bool
  pub tells : IfMember dir set k Read counts
  pub follows : FoundIfCounts Follows counts done

-- a member leaves by a bounce
pub record FoundToDrop (dir : Dir) (set : Set) (k : Text) (done : List Put × Reply) : Type 0 where
  pub answer : Option (List Put)
  pub found : FoundToLeave dir set k answer

-- a bounce of mail, of a warning and of a probe
abbrev pub FoundToNote : Dir → Set → Text → List Put × Reply → Type 0
FoundToNote dir set k done = FoundOfBounce dir set k (TellsUsed dir set) (λ _. TellsLedger dir set k) done

abbrev pub FoundToWarn : Dir → Set → Text → List Put × Reply → Type 0
FoundToWarn dir set k done = FoundOfBounce dir set k (TellsKeys dir) (λ _. TellsLedger dir set k) done

abbrev pub FoundToProbe : Dir → Set → Text → List Put × Reply → Type 0
FoundToProbe dir set k done = FoundOfBounce dir set k (TellsKeys dir) (λ d. TellsLedger dir set k × (Says answers.ignored d ⊎ FoundToDrop dir set k d)) done

-- a request of a sender whose address is checked
abbrev pub FoundManaged : Dir → Config → Text → PlainRequest → List Put × Reply → Type 0
FoundManaged dir c sender (Subscribe set who) done = FoundToSubscribe dir c sender set (asked_of sender who) done
FoundManaged dir c sender (Unsubscribe set who) done = FoundToUnsubscribe dir c sender set (asked_of sender who) done
FoundManaged dir c sender (Confirm word set s) done = FoundToConfirm dir c word set (address_named s.who) done
FoundManaged dir c sender (Members set) done = FoundToList dir c set (key sender) done
FoundManaged dir c sender (Get from to) done = FoundToRead dir c (key sender) (TellsRange dir from (unwrap_or to from)) done
FoundManaged dir c sender (Index at) done = FoundToRead dir c (key sender) (TellsIndex dir (at / 100)) done
FoundManaged dir c sender (Thread at) done = FoundToRead dir c (key sender) (TellsThread dir c.prefix at) done
FoundManaged dir c sender _ done = SendsMail dir [] answers.help done

-- one of a sender that may not be an address, with a message that may be from a list
abbrev pub FoundBySender : Dir → Config → Option Text → Text → PlainRequest → List Put × Reply → Type 0
FoundBySender dir c None m request done = Says answers.nosender done
FoundBySender dir c (Some who) m request done = ((has_field (codes "mailing-list") m ≡ true) × Says answers.looped done) ⊎ FoundManaged dir c who request done

-- what an answer to a request found, whoever sent it
abbrev pub FoundByRequest : Dir → Config → Text → Text → PlainRequest → List Put × Reply → Type 0
FoundByRequest dir c sender m (Bounce set number who) done = FoundToNote dir set (key (address_named who)) done
FoundByRequest dir c sender m (WarnBounce set s) done = FoundToWarn dir set (key (address_named s.who)) done
FoundByRequest dir c sender m (ProbeBounce set s) done = FoundToProbe dir set (key (address_named s.who)) done
FoundByRequest dir c sender m (ReplyBounce set) done = Says answers.ignored done
FoundByRequest dir c sender m Owner done = FoundToOwner dir done
FoundByRequest dir c sender m request done = FoundBySender dir c (address_of sender) m request done
