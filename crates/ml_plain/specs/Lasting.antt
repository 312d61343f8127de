-- What every step leaves of what was there before it: posts, the queue and held posts.
use Rattle.std.specs.Prelude.{◌≡◌, ◌≢◌, ◌≤◌, ◌-◌, ◌⊎◌, ◌==◌, ℕ, true, nat_le, List, [], ◌∷◌, ◌++◌, Some, codes}
use Rattle.std.specs.List.{AllByRecursion, list_any}
use Rattle.std.specs.Fmt.{decimal}
use Rattle.ml_base.specs.Bytes.{Text}
use Rattle.ml_base.specs.Drawn.{Drawn, Drawing}
use Rattle.ml_base.specs.declared.names.Set.TheVariants as sets
use Rattle.ml_address.specs.Requests.{Accept, Reject}
use Rattle.ml_filing.specs.declared.posts.Post.{Post}
use Rattle.ml_hold.specs.Held.{held_post}
use Rattle.ml_hold.specs.declared.posts.Held.{Held}
use Rattle.ml_queue.specs.declared.entries.Out.{Out}
use Rattle.ml_plain.specs.declared.Item.{Item}
use Rattle.ml_plain.specs.declared.Act.TheVariants.{Timed, Sent}
use Rattle.ml_plain.specs.declared.Reply.{Reply}
use Rattle.ml_plain.specs.Answers.{dequeued, rejected}
use Rattle.ml_plain.specs.Laws.{Asks}
use Rattle.ml_plain.specs.Mailing.{is_cookie}
use Rattle.ml_plain.specs.Plain.{Plain}
use Rattle.ml_plain.specs.Steps.{step0}
use Rattle.ml_plain.specs.Timing.{old_held}

-- some of these are left, as they were and in their order; every other one has P
abbrev pub AreLeft : {E : Type 0} → (E → Type 0) → List E → List E → Type 0
AreLeft P [] left = left ≡ []
AreLeft P (e ∷ es) left = ((more : List _) × (left ≡ e ∷ more) × AreLeft P es more) ⊎ (P e × AreLeft P es left)

-- what was there is left, except for some that have P; what is new comes after it, under numbers that weren't drawn before
pub record Lasts {E : Type 0} (P : Drawn E → Type 0) (old new : Drawing E) : Type 0 where
  pub left : List (Drawn E)
  pub more : List (Drawn E)
  pub all : new.all ≡ left ++ more
  pub stays : AreLeft P old.all left
  pub fresh : AllByRecursion (λ e. old.next ≤ e.number) more
  pub next : old.next ≤ new.next

-- A moderator answers the held post of a ticket, with its cookie: he accepts it, and it is posted, or he rejects it, and it goes back.
pub record IsAnswered (p : Plain) (item : Item) (reply : Reply) (ticket : ℕ) : Type 0 where
  pub sender : Text
  pub letters : Text
  pub post : Held
  pub there : held_post ticket p.held ≡ Some post
  pub good : is_cookie p (codes "hold") sets.Moderators post.moment (decimal ticket) letters ≡ true
  pub which : (Asks p item sender (Accept ticket letters) × (reply.code ≡ 1)) ⊎ (Asks p item sender (Reject ticket letters) × (reply ≡ rejected))

-- a timed run gives back a held post that is old
pub record IsGivenBack (p : Plain) (item : Item) (ticket : ℕ) : Type 0 where
  pub act : item.act ≡ Timed
  pub old : list_any (λ e. ticket == e.number) (old_held item.moment p) ≡ true

-- the ways in which a held post is taken out
abbrev pub TakesHeld : Plain → Item → Reply → Drawn Held → Type 0
TakesHeld p item reply e = IsAnswered p item reply e.number ⊎ IsGivenBack p item e.number

-- a report takes the entry of its id out of the queue, and is answered `dequeued`
abbrev pub TakesEntry : Item → Reply → Drawn Out → Type 0
TakesEntry item reply e = (item.act ≡ Sent e.number) × (reply ≡ dequeued)

-- What a step leaves: every post; every entry of the queue, except for one whose id is reported sent, and that one is gone; and every held
-- post, except for those that a moderator answers or that are old. What is left is as it was and in its order; what is new comes after it.
pub record StepLeaves (p : Plain) (item : Item) (q : Plain) (reply : Reply) : Type 0 where
  pub posts : (more : List Post) × (q.posts ≡ p.posts ++ more)
  pub queue : Lasts (TakesEntry item reply) p.queue q.queue
  pub gone : (id : ℕ) → item.act ≡ Sent id → reply ≡ dequeued → AllByRecursion (λ e. e.number ≢ id) q.queue.all
  pub held : Lasts (TakesHeld p item reply) p.held q.held

-- every step leaves what was there before it
abbrev pub LawLasting : Type 0
LawLasting = (p : Plain) (item : Item) → StepLeaves p item (step0 p item).0 (step0 p item).1
