-- What the list owes to people: laws of every history from a new list.
use Rattle.std.specs.Prelude.{◌≡◌, ◌≢◌, ◌<◌, ◌≤◌, ◌+◌, ◌-◌, ◌⊎◌, ◌==◌, ℕ, true, false, nat_le, List, [], ◌∷◌, ◌++◌, length, map, take, filter, slice_get, Option, Some, codes, option_map}
use Rattle.std.specs.Option.{option_map_or}
use Rattle.std.specs.List.{AllByRecursion, list_any}
use Rattle.std.specs.Str.{bytes_eq}
use Rattle.ml_base.specs.Bytes.{Text}
use Rattle.ml_base.specs.Address.{key}
use Rattle.ml_base.specs.Drawn.{Drawn}
use Rattle.ml_base.specs.declared.names.Set.{Set}
use Rattle.ml_base.specs.declared.names.Set.TheVariants as sets
use Rattle.ml_address.specs.Requests.{PlainWho, Signed, PlainRequest, Unsubscribe, Confirm, Bounce, WarnBounce, ProbeBounce}
use Rattle.ml_address.specs.Reading.{request_of}
use Rattle.ml_address.specs.declared.Word.TheVariants as words
use Rattle.ml_filing.specs.declared.posts.Post.{Post}
use Rattle.ml_bounce.specs.Ledger.{entry_under}
use Rattle.ml_bounce.specs.declared.entries.Stage.TheVariants.{Probed}
use Rattle.ml_config.specs.declared.configuration.Config.{Config}
use Rattle.ml_digest.specs.Digest.{digest_text}
use Rattle.ml_digest.specs.declared.posts.Range.{Range}
use Rattle.ml_queue.specs.declared.entries.Out.{Out}
use Rattle.ml_reply.specs.Dates.{date_text}
use Rattle.ml_reply.specs.Mails.{mail_text}
use Rattle.ml_reply.specs.declared.mails.Mail.{Mail}
use Rattle.ml_reply.specs.declared.mails.Mail.TheVariants as mails
use Rattle.ml_subs.specs.Members.{has_key, member_of}
use Rattle.ml_plain.specs.declared.Item.{Item}
use Rattle.ml_plain.specs.declared.Act.TheVariants.{Deliver, Timed, Remove}
use Rattle.ml_plain.specs.declared.Reply.{Reply}
use Rattle.ml_plain.specs.Answers.{posted, bounce, dropped}
use Rattle.ml_plain.specs.Bouncing.{address_named, is_used}
use Rattle.ml_plain.specs.Histories.{fold_plain}
use Rattle.ml_plain.specs.Mailing.{post_path, digest_path, bounce_path, is_good}
use Rattle.ml_plain.specs.Plain.{Plain, new_list, addresses, ledger_of}
use Rattle.ml_plain.specs.Steps.{step0}
use Rattle.ml_plain.specs.Timing.{digest_post, posts_in}

-- the list after a history that began with a new list
abbrev pub after : Config → Text → List Item → Plain
after c k items = fold_plain (new_list c k) items

-- at this place of a history is an item of this moment, and it passes a test on the list before it
pub record Happened (c : Config) (key : Text) (h : List Item) (at moment : ℕ) (P : Plain → Item → Type 0) : Type 0 where
  pub item : Item
  pub here : slice_get h at ≡ Some item
  pub moment_is : item.moment ≡ moment
  pub passes : P (after c key (take at h)) item

-- the queue entries that a step made: those with ids from the next id of the list before it on
abbrev pub made : Plain → Plain → List (Drawn Out)
made p q = filter (λ e. nat_le p.queue.next e.number) q.queue.all

-- an entry whose base isn't that of a post
abbrev pub IsOfNoPost : Config → Out → Type 0
IsOfNoPost c out = (n : ℕ) → out.path.base ≢ (post_path c n).base

-- A step that posts: the posts grow by one at the end, the reply has its number, and the one entry that the step made has the
-- post's bytes as its body and the set list as its recipients.
pub record Posts (p q : Plain) (reply : Reply) : Type 0 where
  pub post : Post
  pub grown : q.posts ≡ p.posts ++ post ∷ []
  pub told : reply ≡ posted (length p.posts + 1)
  pub entry : made p q ≡ record { number = p.queue.next; thing = record { path = post_path p.config (length p.posts + 1); body = post.bytes; to = addresses p sets.List } } ∷ []

-- a step that doesn't: the posts stay, the reply is another one, and no entry that the step made has the base of a post
pub record PostsNothing (p q : Plain) (reply : Reply) : Type 0 where
  pub same : q.posts ≡ p.posts
  pub told : reply.code ≢ 1
  pub entries : AllByRecursion (λ e. IsOfNoPost p.config e.thing) (made p q)

-- every step posts or doesn't
abbrev pub LawPosts : Type 0
LawPosts = (c : Config) (k : Text) (h : List Item) (item : Item)
    → Posts (after c k h) (step0 (after c k h) item).0 (step0 (after c k h) item).1
    ⊎ PostsNothing (after c k h) (step0 (after c k h) item).0 (step0 (after c k h) item).1

-- the entries that a step made with the base of an issue
abbrev pub made_for : ℕ → Plain → Plain → List (Drawn Out)
made_for issue p q = filter (λ e. bytes_eq e.thing.path.base (digest_path p.config issue).base) (made p q)

-- the digest of an issue and a range of posts, for the digest set
abbrev pub digest_of : Plain → ℕ → Range → ℕ → Out
digest_of p issue r now = record {
  path = digest_path p.config issue;
  body = digest_text p.config issue r.first (map digest_post (posts_in r p.posts)) (date_text now);
  to = addresses p sets.Digest;
}

-- A step that makes a digest: the next issue, of at least one post, which begins with the post after the last of the issue before it. One
-- entry that the step made is that digest, and none is of another issue.
pub record MakesDigest (p q : Plain) (now : ℕ) : Type 0 where
  pub range : Range
  pub from : range.first ≡ p.mark.last + 1
  pub some : range.first ≤ range.last
  pub there : range.last ≤ length p.posts
  pub moved : q.mark ≡ record { last = range.last; issue = p.mark.issue + 1 }
  pub id : ℕ
  pub entry : made_for (p.mark.issue + 1) p q ≡ record { number = id; thing = digest_of p (p.mark.issue + 1) range now } ∷ []
  pub others : (i : ℕ) → (digest_path p.config i).base ≢ (digest_path p.config (p.mark.issue + 1)).base → made_for i p q ≡ []

-- a step that makes none
pub record MakesNoDigest (p q : Plain) : Type 0 where
  pub same : q.mark ≡ p.mark
  pub entries : (i : ℕ) → made_for i p q ≡ []

-- every step makes the next digest or none
abbrev pub MakesDigests : Type 0
MakesDigests = (c : Config) (k : Text) (h : List Item) (item : Item)
    → MakesDigest (after c k h) (step0 (after c k h) item).0 item.moment ⊎ MakesNoDigest (after c k h) (step0 (after c k h) item).0

-- an issue of the digest in a history: the place and the moment of the item that made it, and its posts
pub record Issue : Type 0 where
  pub at : ℕ
  pub moment : ℕ
  pub range : Range

-- an issue has a post
pub record HasPost (issue : Issue) (post : ℕ) : Type 0 where
  pub from : issue.range.first ≤ post
  pub to : post ≤ issue.range.last

-- A step makes the issue of this number, of at least one post, all of which are there. One entry that the step made is that digest, for
-- the digest set as it then is.
pub record MakesIssue (number : ℕ) (r : Range) (p : Plain) (item : Item) : Type 0 where
  pub some : r.first ≤ r.last
  pub there : r.last ≤ length p.posts
  pub id : ℕ
  pub entry : made_for number p (step0 p item).0 ≡ record { number = id; thing = digest_of p number r item.moment } ∷ []

-- one of these issues was made at a place, and its entry has the base of a number
pub record IsOneOf (c : Config) (issues : List Issue) (at number : ℕ) : Type 0 where
  pub before : ℕ
  pub issue : Issue
  pub listed : slice_get issues before ≡ Some issue
  pub at_is : issue.at ≡ at
  pub base_is : (digest_path c number).base ≡ (digest_path c (before + 1)).base

-- a post is in one of these issues
pub record IsIn (issues : List Issue) (post : ℕ) : Type 0 where
  pub before : ℕ
  pub issue : Issue
  pub listed : slice_get issues before ≡ Some issue
  pub has : HasPost issue post

-- The issues that a history made, in the order of their numbers 1, 2, 3 and so on. The first begins with post 1. Every other one begins
-- with the post after the last of the one before it, and is made after that one. So no post is in two issues, and none is left out up to
-- the last that is in one. No step made any other entry with the base of an issue.
pub record AreIssues (c : Config) (key : Text) (h : List Item) (issues : List Issue) : Type 0 where
  pub made : (before : ℕ) (issue : Issue) → slice_get issues before ≡ Some issue → Happened c key h issue.at issue.moment (MakesIssue (before + 1) issue.range)
  pub first : (issue : Issue) → slice_get issues 0 ≡ Some issue → issue.range.first ≡ 1
  pub next : (before : ℕ) (one two : Issue) → slice_get issues before ≡ Some one → slice_get issues (before + 1) ≡ Some two
      → (two.range.first ≡ one.range.last + 1) × (one.at < two.at)
  pub once : (i j post : ℕ) (one two : Issue) → slice_get issues i ≡ Some one → slice_get issues j ≡ Some two → HasPost one post → HasPost two post → i ≡ j
  pub each : (post : ℕ) → 1 ≤ post → post ≤ (after c key h).mark.last → IsIn issues post
  pub others : (at number : ℕ) (item : Item) → slice_get h at ≡ Some item
      → (made_for number (after c key (take at h)) (step0 (after c key (take at h)) item).0 ≡ []) ⊎ IsOneOf c issues at number

-- every history has its issues
abbrev pub HasIssues : Type 0
HasIssues = (c : Config) (key : Text) (h : List Item) → (issues : List Issue) × AreIssues c key h issues

-- a key was in a set before a step, and isn't after it
pub record LeavesSet (p q : Plain) (set : Set) (k : Text) : Type 0 where
  pub there : has_key k (p.sets set) ≡ true
  pub gone : has_key k (q.sets set) ≡ false

-- an item that delivers a message from this sender, which asks this of the list
pub record Asks (p : Plain) (item : Item) (sender : Text) (request : PlainRequest) : Type 0 where
  pub recipient : Text
  pub message : Text
  pub act : item.act ≡ Deliver sender recipient message
  pub request_is : request_of p.config.local p.config.host recipient ≡ Some request

-- the operator removes it
pub record IsRemoval (item : Item) (set : Set) (k : Text) : Type 0 where
  pub who : Text
  pub act : item.act ≡ Remove set who
  pub is : key who ≡ k

-- he asks for it himself, on a list that asks for no confirmation
pub record IsOwnLeave (p : Plain) (item : Item) (set : Set) (k : Text) : Type 0 where
  pub sender : Text
  pub who : Option PlainWho
  pub asks : Asks p item sender (Unsubscribe set who)
  pub allowed : p.config.flags.j ≡ true
  pub is : key (option_map_or address_named who sender) ≡ k
  pub own : key sender ≡ k

-- it is confirmed with a good cookie
pub record IsConfirmedLeave (p : Plain) (item : Item) (set : Set) (k : Text) : Type 0 where
  pub sender : Text
  pub signed : Signed
  pub asks : Asks p item sender (Confirm words.Uc set signed)
  pub is : key (address_named signed.who) ≡ k
  pub good : is_good p (codes "uc") set signed.time k signed.cookie item.moment ≡ true

-- it was probed at this moment, and that probe bounces, with a good cookie; the set is list or digest, and the answer `dropped`
pub record IsDrop (p : Plain) (item : Item) (set : Set) (k : Text) (time : ℕ) : Type 0 where
  pub sender : Text
  pub signed : Signed
  pub which : (set ≡ sets.List) ⊎ (set ≡ sets.Digest)
  pub asks : Asks p item sender (ProbeBounce set signed)
  pub is : key (address_named signed.who) ≡ k
  pub time_is : signed.time ≡ time
  pub good : is_good p (codes "probe") set time k signed.cookie item.moment ≡ true
  pub stage : (entry_under k (ledger_of p set)).stage ≡ Probed time
  pub told : (step0 p item).1 ≡ dropped

-- the ways in which a key leaves a set; the moderators' set is left only in the first
abbrev pub Ways : Plain → Item → Set → Text → Type 0
Ways p item set k =
    IsRemoval item set k
    ⊎ ((set ≢ sets.Moderators) × (IsOwnLeave p item set k ⊎ (IsConfirmedLeave p item set k ⊎ ((probed : ℕ) × IsDrop p item set k probed))))

-- a key leaves a set only in one of these ways
abbrev pub LawLeaving : Type 0
LawLeaving = (p : Plain) (item : Item) (set : Set) (k : Text) → LeavesSet p (step0 p item).0 set k → Ways p item set k

-- the warning of this moment bounces, with a good cookie, and that is noted
pub record IsWarningBounce (p : Plain) (item : Item) (set : Set) (k : Text) (time : ℕ) : Type 0 where
  pub sender : Text
  pub signed : Signed
  pub asks : Asks p item sender (WarnBounce set signed)
  pub is : key (address_named signed.who) ≡ k
  pub time_is : signed.time ≡ time
  pub good : is_good p (codes "warn") set time k signed.cookie item.moment ≡ true
  pub told : (step0 p item).1 ≡ bounce

-- mail to it with the number of a post or of an issue that existed bounces, and that is noted
pub record IsBounce (p : Plain) (item : Item) (set : Set) (k : Text) (number : ℕ) : Type 0 where
  pub sender : Text
  pub who : PlainWho
  pub asks : Asks p item sender (Bounce set number who)
  pub is : key (address_named who) ≡ k
  pub used : is_used p set number ≡ true
  pub told : (step0 p item).1 ≡ bounce

-- the queue entry of a mail of this kind to the member of a key: he alone is its recipient, and its path has the key's cookie
abbrev pub bounce_entry : Plain → Text → Set → Text → Text → ℕ → Mail → Out
bounce_entry p kind set k who now mail = record { path = bounce_path p kind set k now; body = mail_text p.config mail now; to = who ∷ [] }

-- a timed run puts a mail of this kind into the queue, to the member of a key as the set spells him
pub record IsTimedMail (p : Plain) (item : Item) (kind : Text) (mail : Text → Mail) (set : Set) (k : Text) : Type 0 where
  pub act : item.act ≡ Timed
  pub who : Text
  pub is : key who ≡ k
  pub spelled : option_map (λ m. m.who) (member_of k (p.sets set)) ≡ Some who
  pub place : ℕ
  pub id : ℕ
  pub queued : slice_get (made p (step0 p item).0) place ≡ Some (record { number = id; thing = bounce_entry p kind set k who item.moment (mail who) })

-- the warning to an address, which names the numbers that it missed
abbrev pub warning_to : Plain → Set → Text → Text → Mail
warning_to p set k who = mails.Warn who set who (entry_under k (ledger_of p set)).missed

-- the probe to an address
abbrev pub probe_to : Set → Text → Mail
probe_to set who = mails.Probe who set who

-- a timed run warns the member of a key, and this number is among those that the warning names
pub record IsWarning (set : Set) (k : Text) (number : ℕ) (p : Plain) (item : Item) : Type 0 where
  pub mail : IsTimedMail p item (codes "warn") (warning_to p set k) set k
  pub named : list_any (λ n. n == number) (entry_under k (ledger_of p set)).missed ≡ true

-- a timed run probes the member of a key
abbrev pub IsProbe : Set → Text → Plain → Item → Type 0
IsProbe set k p item = IsTimedMail p item (codes "probe") (probe_to set) set k

-- The course before the bounce of a probe of this moment drops a key: its mail bounced, which was noted; at least 1,000,000 seconds
-- later the member was warned, also of that bounce; the warning bounced, which was noted; at least 1,000,000 seconds later the member
-- was probed; and the key was a member's all the while.
pub record Course (c : Config) (key : Text) (h : List Item) (set : Set) (k : Text) (probed : ℕ) : Type 0 where
  pub number : ℕ
  pub bounced : ℕ
  pub warned : ℕ
  pub failed : ℕ
  pub first : ℕ
  pub second : ℕ
  pub third : ℕ
  pub fourth : ℕ
  pub second_later : first < second
  pub third_later : second < third
  pub fourth_later : third < fourth
  pub bounce_at : Happened c key h first bounced (λ p item. IsBounce p item set k number)
  pub warning_at : Happened c key h second warned (IsWarning set k number)
  pub bounced_long_ago : 1_000_000 ≤ warned - bounced
  pub warning_bounce_at : Happened c key h third failed (λ p item. IsWarningBounce p item set k warned)
  pub probe_at : Happened c key h fourth probed (IsProbe set k)
  pub failed_long_ago : 1_000_000 ≤ probed - failed
  pub member : (i : ℕ) → first ≤ i → i ≤ length h → has_key k ((after c key (take i h)).sets set) ≡ true

-- the probe drops it, at the end of such a course
pub record IsDroppedByCourse (c : Config) (key : Text) (h : List Item) (item : Item) (set : Set) (k : Text) : Type 0 where
  pub probed : ℕ
  pub drop : IsDrop (after c key h) item set k probed
  pub course : Course c key h set k probed

-- an address leaves a set in one of four ways, and the moderators' set only in the first
abbrev pub LawChain : Type 0
LawChain = (c : Config) (key : Text) (h : List Item) (item : Item) (set : Set) (k : Text)
    → LeavesSet (after c key h) (step0 (after c key h) item).0 set k
    → IsRemoval item set k
    ⊎ ((set ≢ sets.Moderators) × (IsOwnLeave (after c key h) item set k ⊎ (IsConfirmedLeave (after c key h) item set k ⊎ IsDroppedByCourse c key h item set k)))
