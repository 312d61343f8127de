-- What acts find in the files that they read, whatever the other files hold: these are in their grammar, and what is done depends on what
-- they spell.
use Rattle.std.specs.Prelude.{◌≡◌, ◌≤◌, ◌⊎◌, ℕ, Bool, true, false, ◌++◌, IsTrue, List, [], map, Option, Some, None}
use Rattle.ml_base.specs.Bytes.{Text}
use Rattle.ml_base.specs.Dir.{Dir}
use Rattle.ml_base.specs.Drawn.{IsCounter}
use Rattle.ml_base.specs.declared.names.Set.{Set}
use Rattle.ml_base.specs.declared.puts.Put.{Put}
use Rattle.ml_bounce.specs.Answers.{has_ledger, IsBucketOf as IsLedgerOf}
use Rattle.ml_bounce.specs.Ledger.{Ledger}
use Rattle.ml_config.specs.KeyFile.{IsKeyFile, key_name}
use Rattle.ml_config.specs.declared.key_file.Keys.{Keys}
use Rattle.ml_drawn.specs.Answers.{IsDrawing}
use Rattle.ml_drawn.specs.declared.series.Series.TheVariants.{Ids}
use Rattle.ml_hold.specs.Answers.{tickets_name}
use Rattle.ml_plain.specs.declared.Reply.{Reply}
use Rattle.ml_queue.specs.Answers.{ids_name}
use Rattle.ml_queue.specs.Queue.{out_text}
use Rattle.ml_queue.specs.declared.entries.Out.{Out}
use Rattle.ml_subs.specs.Members.{has_key}
use Rattle.ml_subs.specs.Subscribers.{AreJoined, IsBucketOf, count_name, count_text}
use Rattle.ml_subs.specs.declared.member_list.Member.{Member}

-- a reply, and no puts
pub record Says (reply : Reply) (done : List Put × Reply) : Type 0 where
  pub puts : done.0 ≡ []
  pub is : done.1 ≡ reply

-- the bucket of a key in a set is in its grammar, and it has the key or not, as this says
abbrev pub TellsMember : Dir → Set → Text → Bool → Type 0
TellsMember dir set k has = (ms : List Member) × IsBucketOf dir set k ms × (has ≡ has_key k ms)

-- whether one of two things is so: the first says that it is, or the first says that it isn't and the second decides
abbrev pub EitherTells : (Bool → Type 0) → (Bool → Type 0) → Bool → Type 0
EitherTells One Other true = One true ⊎ (One false × Other true)
EitherTells One Other false = One false × Other false

-- all 53 buckets of a set are in their grammar, and spell these addresses together, in ascending order of key
abbrev pub SpellsAddresses : Dir → Set → List Text → Type 0
SpellsAddresses dir set to = (ms : List Member) × AreJoined dir set ms × (to ≡ map (λ m. m.who) ms)

-- puts of this entry of the queue, under the next id of the counter of ids, which is in its grammar
abbrev pub QueuesOut : Dir → Out → List Put → Type 0
QueuesOut dir out puts = (id : ℕ) × IsDrawing dir Ids (out_text out) id puts

-- puts of one entry of the queue
pub record QueuesMail (dir : Dir) (puts : List Put) : Type 0 where
  pub out : Out
  pub queued : QueuesOut dir out puts

-- puts of one entry of the queue, whose recipients are exactly the addresses that all 53 buckets of a set spell
pub record QueuesToSet (dir : Dir) (set : Set) (puts : List Put) : Type 0 where
  pub out : Out
  pub to : SpellsAddresses dir set out.to
  pub queued : QueuesOut dir out puts

-- puts with those of such an entry after them
pub record AddsMail (dir : Dir) (before puts : List Put) : Type 0 where
  pub mail : List Put
  pub is : puts ≡ before ++ mail
  pub queued : QueuesMail dir mail

pub record AddsMailToSet (dir : Dir) (set : Set) (before puts : List Put) : Type 0 where
  pub mail : List Put
  pub is : puts ≡ before ++ mail
  pub queued : QueuesToSet dir set mail

-- the counters of ids and of tickets are in their grammar; if ids are worn out, that of tickets isn't looked at
abbrev pub TellsCounter : Option Text → Type 0
TellsCounter file = (low next : ℕ) × IsCounter file low next

pub record TellsWorn (dir : Dir) (worn : Bool) : Type 0 where
  pub ids : TellsCounter (dir ids_name)
  pub tickets : worn ≡ false → TellsCounter (dir tickets_name)

-- the count of a set is in its grammar
abbrev pub TellsCount : Dir → Set → Type 0
TellsCount dir set = (n : ℕ) × (n ≤ 100_000) × (dir (count_name set) ≡ Some (count_text n))

-- the file of a set's ledger that has a key is in its grammar, if the set has a ledger
abbrev pub TellsEntry : Dir → Set → Text → Type 0
TellsEntry dir set k = IsTrue (has_ledger set) → (entries : Ledger) × IsLedgerOf dir set k entries

-- the file of the keys is in its grammar
abbrev pub TellsKeys : Dir → Type 0
TellsKeys dir = (keys : Keys) × IsKeyFile (dir key_name) keys

-- what is found when a key leaves a set: its bucket; and if that has it, the set's count, and its file of the ledger
abbrev pub FoundToLeave : Dir → Set → Text → Option (List Put) → Type 0
FoundToLeave dir set k None = TellsMember dir set k false
FoundToLeave dir set k (Some puts) = TellsMember dir set k true × TellsCount dir set × TellsEntry dir set k
