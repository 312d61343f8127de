-- When two directories are the same for a post, or for a moderator's answer: if the files that it looks at are the same. What the others hold,
-- and whether they are damaged, doesn't matter.
use Rattle.std.specs.Prelude.{◌≡◌, ◌<◌, ℕ, Bool, true, false, IsTrue, is_some}
use Rattle.ml_base.specs.Bytes.{Text}
use Rattle.ml_base.specs.Dir.{Dir}
use Rattle.ml_base.specs.Ranges.{is_drawn}
use Rattle.ml_base.specs.declared.names.Name.{Name}
use Rattle.ml_base.specs.declared.names.Set.TheVariants as sets
use Rattle.ml_filing.specs.Reads.{IsOfNext}
use Rattle.ml_filing.specs.Threads.{is_of_archive}
use Rattle.ml_config.specs.declared.configuration.Config.{Config}
use Rattle.ml_hold.specs.Answers.{post_name, tickets_name}
use Rattle.ml_hold.specs.Held.{IsHeldFile}
use Rattle.ml_hold.specs.declared.posts.Held.{Held}
use Rattle.ml_queue.specs.Answers.{ids_name}
use Rattle.ml_acts.specs.Doing.{Alike, is_mailed_by}
use Rattle.ml_post.specs.Answering.{is_answered_by}
use Rattle.ml_post.specs.Posting.{is_posted_by}
use Rattle.ml_post.specs.Publishing.{sent_key}

-- in the files that taking a post reads: those of a mail to the set list, and of the archive those of the post's own place
pub record AlikeToPublish (c : Config) (m : Text) (old dir : Dir) : Type 0 where
  pub mailed : Alike (is_mailed_by sets.List) old dir
  pub placed : (name : Name) → IsOfNext old (sent_key c m) name → dir name ≡ old name

-- in the files that a post may read, but of the archive only in those of its own place: the number of posts, the index of the next
-- number's group, and the one thread file of its subject's key
abbrev pub AlikeForPost : Config → Text → Text → Dir → Dir → Type 0
AlikeForPost c sender m old dir =
    (name : Name) → is_posted_by c sender name ≡ true → (is_of_archive name ≡ true → IsOfNext old (sent_key c m) name) → dir name ≡ old name

-- in what is read to take out the post of a ticket: the next ticket, and under which tickets after it posts wait
pub record AlikeToTake (ticket : ℕ) (old dir : Dir) : Type 0 where
  pub next : dir tickets_name ≡ old tickets_name
  pub waits : (other : ℕ) → ticket < other → IsTrue (is_drawn other) → is_some (dir (post_name other)) ≡ is_some (old (post_name other))

-- and in what is read if a moderator accepts a post, or rejects it
abbrev pub AlikeToFollow : Config → ℕ → Text → Bool → Dir → Dir → Type 0
AlikeToFollow c ticket m true old dir = AlikeToTake ticket old dir × AlikeToPublish c m old dir
AlikeToFollow c ticket m false old dir = AlikeToTake ticket old dir × (dir ids_name ≡ old ids_name)

-- the files of the archive that the post of a ticket is put after and into
abbrev pub IsNextOfTicket : Dir → Config → ℕ → Name → Type 0
IsNextOfTicket dir c ticket name = (held : Held) × IsHeldFile (dir (post_name ticket)) held × IsOfNext dir (sent_key c held.message) name

-- in the files that a moderator's answer may read, but of the archive only in those of the place of the post that waits, and in under which
-- tickets after its own posts wait
pub record AlikeForAnswer (c : Config) (ticket : ℕ) (accept : Bool) (old dir : Dir) : Type 0 where
  pub same : (name : Name) → is_answered_by ticket accept name ≡ true → (is_of_archive name ≡ true → IsNextOfTicket old c ticket name)
      → dir name ≡ old name
  pub waits : (other : ℕ) → ticket < other → IsTrue (is_drawn other) → is_some (dir (post_name other)) ≡ is_some (old (post_name other))
