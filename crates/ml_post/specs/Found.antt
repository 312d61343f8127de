-- What posts find in the files that they read, whatever the other files hold: the files that are read are in their grammar, and the answer goes
-- by what they spell.
use Rattle.std.specs.Prelude.{◌≡◌, ◌<◌, ◌+◌, ℕ, Bool, true, false, IsTrue, List, Option, Some, None, length, codes}
use Rattle.ml_base.specs.Address.{key}
use Rattle.ml_base.specs.Bytes.{Text, is_empty, lower}
use Rattle.ml_base.specs.Dir.{Dir}
use Rattle.ml_base.specs.declared.names.Set.TheVariants as sets
use Rattle.ml_base.specs.declared.puts.Put.{Put}
use Rattle.ml_config.specs.declared.configuration.Config.{Config}
use Rattle.ml_drawn.specs.Answers.{IsDrawing}
use Rattle.ml_drawn.specs.declared.series.Series.TheVariants.{Tickets}
use Rattle.ml_filing.specs.Answers.{IsAppended}
use Rattle.ml_filing.specs.Archive.{IsNumberFile, number_name}
use Rattle.ml_filing.specs.Subjects.{subject}
use Rattle.ml_filing.specs.declared.posts.Appended.TheVariants.{At}
use Rattle.ml_filing.specs.declared.posts.Post.{Post}
use Rattle.ml_header.specs.Fields.{has_field}
use Rattle.ml_hold.specs.Held.{held_text}
use Rattle.ml_hold.specs.declared.posts.Held.{Held}
use Rattle.ml_plain.specs.Answers as answers
use Rattle.ml_plain.specs.Verdicts.{is_usable, is_command, is_addressed}
use Rattle.ml_plain.specs.declared.Reply.{Reply}
use Rattle.ml_acts.specs.Found.{AddsMailToSet, EitherTells, Says, TellsKeys, TellsMember}
use Rattle.ml_post.specs.Posting.{outcome_of}
use Rattle.ml_post.specs.Outcomes.{Outcome}
use Rattle.ml_post.specs.Outcomes as fates
use Rattle.ml_post.specs.declared.verdict_table.Judged.{Judged}
use Rattle.ml_post.specs.declared.verdict_table.Judged.TheVariants as judged
use Rattle.ml_post.specs.declared.verdicts.Verdict.{Verdict as Found}
use Rattle.ml_post.specs.declared.verdicts.Verdict.TheVariants as found

-- whether a key is a user's, by its buckets of the four sets whose members are users, up to the first that has it
abbrev pub TellsUser : Dir → Text → Bool → Type 0
TellsUser dir k = EitherTells (EitherTells (TellsMember dir sets.List k) (TellsMember dir sets.Digest k)) (EitherTells (TellsMember dir sets.Allow k) (TellsMember dir sets.Moderators k))

-- a sender is denied only if there is a deny list and his bucket of it has him; and if there is one and he isn't denied, that bucket, in its
-- grammar, doesn't have him
abbrev pub TellsDenied : Dir → Config → Text → Bool → Type 0
TellsDenied dir c k true = (c.flags.k ≡ true) × TellsMember dir sets.Deny k true
TellsDenied dir c k false = c.flags.k ≡ true → TellsMember dir sets.Deny k false

-- the same for users, if only they may post
abbrev pub TellsStranger : Dir → Config → Text → Bool → Type 0
TellsStranger dir c k true = (c.flags.u ≡ true) × TellsUser dir k false
TellsStranger dir c k false = c.flags.u ≡ true → TellsUser dir k true

-- why a post is refused for its text, if it is: it has no subject, its subject is a command, or it isn't addressed to the list
abbrev pub TellsText : Config → Text → Option Found → Type 0
TellsText c m (Some found.NoSubject) = is_empty (subject m) ≡ true
TellsText c m (Some found.CommandSubject) = (is_empty (subject m) ≡ false) × (is_command (lower (subject m)) ≡ true)
TellsText c m (Some found.NotAddressed) = (is_empty (subject m) ≡ false) × (is_command (lower (subject m)) ≡ false) × (is_addressed c m ≡ false)
TellsText c m (Some _) = ⊥
TellsText c m None = (is_empty (subject m) ≡ false) × (is_command (lower (subject m)) ≡ false) × (is_addressed c m ≡ true)

-- why a post is refused for its sender's sake or for its text, if it is
abbrev pub TellsRefusal : Dir → Config → Text → Text → Option Found → Type 0
TellsRefusal dir c k m (Some found.Denied) = TellsDenied dir c k true
TellsRefusal dir c k m (Some found.UsersOnly) = TellsDenied dir c k false × TellsText c m None × TellsStranger dir c k true
TellsRefusal dir c k m (Some v) = TellsDenied dir c k false × TellsText c m (Some v)
TellsRefusal dir c k m None = TellsDenied dir c k false × TellsText c m None × TellsStranger dir c k false

-- The verdict on a post, by the files that tell it: on one that its sender may send, on one whose text is taken, on one whose sender isn't
-- denied, on one that isn't too long, has a sender and didn't come from the list, and on any.
abbrev pub FoundOfRoom : Dir → Config → Found → Type 0
FoundOfRoom dir c found.Held = c.flags.m ≡ true
FoundOfRoom dir c found.Full = (c.flags.m ≡ false) × IsNumberFile (dir number_name) 99_999_999
FoundOfRoom dir c found.Posted = (c.flags.m ≡ false) × ((n : ℕ) × (n < 99_999_999) × IsNumberFile (dir number_name) n)
FoundOfRoom dir c _ = ⊥

abbrev pub FoundOfUser : Dir → Config → Text → Found → Type 0
FoundOfUser dir c k found.UsersOnly = TellsStranger dir c k true
FoundOfUser dir c k v = TellsStranger dir c k false × FoundOfRoom dir c v

abbrev pub FoundOfText : Dir → Config → Text → Text → Found → Type 0
FoundOfText dir c k m found.NoSubject = is_empty (subject m) ≡ true
FoundOfText dir c k m found.CommandSubject = is_command (lower (subject m)) ≡ true
FoundOfText dir c k m found.NotAddressed = is_addressed c m ≡ false
FoundOfText dir c k m v = FoundOfUser dir c k v

abbrev pub FoundOfSender : Dir → Config → Text → Text → Found → Type 0
FoundOfSender dir c k m found.Denied = TellsDenied dir c k true
FoundOfSender dir c k m v = TellsDenied dir c k false × FoundOfText dir c k m v

abbrev pub FoundOfPost : Dir → Config → Text → Text → Found → Type 0
FoundOfPost dir c sender m found.TooBig = c.max < length m
FoundOfPost dir c sender m found.BounceSender = is_usable sender ≡ false
FoundOfPost dir c sender m found.Looped = has_field (codes "mailing-list") m ≡ true
FoundOfPost dir c sender m v = (is_usable sender ≡ true) × FoundOfSender dir c (key sender) m v

-- if a post is posted, this is the number of those before it, and there is room for it
abbrev pub IsCounted : Bool → Dir → Judged → Type 0
IsCounted tells dir (judged.Posted who count) = (count < 99_999_999) × (IsTrue tells → IsNumberFile (dir number_name) count)
IsCounted tells dir _ = Unit {0}

-- A post is held: it got the next ticket, by the counter of tickets; there are keys; and the question goes to exactly the addresses that the moderators'
-- buckets spell.
pub record FoundToHold (dir : Dir) (done : List Put × Reply) : Type 0 where
  pub ticket : ℕ
  pub held : Held
  pub waiting : List Put
  pub drawn : IsDrawing dir Tickets (held_text held) ticket waiting
  pub keys : TellsKeys dir
  pub asked : AddsMailToSet dir sets.Moderators waiting done.0
  pub reply : done.1 ≡ answers.held ticket

-- A post gets the next number, by the file of the number: it goes into the archive by the files that this reads, and to exactly the addresses that
-- the buckets of the set list spell.
pub record FoundToAppend (dir : Dir) (prefix : Text) (number : ℕ) (puts : List Put) : Type 0 where
  pub count : ℕ
  pub counted : IsNumberFile (dir number_name) count
  pub next : number ≡ count + 1
  pub post : Post
  pub place : ℕ
  pub filed : List Put
  pub appended : IsAppended dir prefix post (At place filed)
  pub sent : AddsMailToSet dir sets.List filed puts

-- A post is taken.
pub record FoundToTake (dir : Dir) (prefix : Text) (done : List Put × Reply) : Type 0 where
  pub number : ℕ
  pub appended : FoundToAppend dir prefix number done.0
  pub reply : done.1 ≡ answers.posted number

-- what follows a verdict, by the files that tell it
abbrev pub FoundToFollow : Dir → Config → Outcome → List Put × Reply → Type 0
FoundToFollow dir c (fates.Refused reply) done = Says reply done
FoundToFollow dir c fates.Held done = FoundToHold dir done
FoundToFollow dir c fates.Posted done = FoundToTake dir c.prefix done

-- what an answer to a post found
pub record FoundByPost (dir : Dir) (c : Config) (sender m : Text) (done : List Put × Reply) : Type 0 where
  pub verdict : Found
  pub found : FoundOfPost dir c sender m verdict
  pub follows : FoundToFollow dir c (outcome_of verdict) done
