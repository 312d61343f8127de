-- What a timed run's parts read is the same on every directory that has the files that they look at.
use Rattle.std.proofs.Common.{◌≡◌, ◌⊎◌, inl, inr, ◌&&◌, ◌||◌, ◌<◌, ℕ, Bool, true, cond, List, [], ◌∷◌, length, Option, Some, None, IsTrue, nat_le, refl, sym, ap, ◌∙◌, subst, arith}
use Rattle.std.proofs.lemmas.Bool.{and_from, and_parts, eq-eqb, leb-true, lt-ltb, or_cases, or_left, or_right}
use Rattle.std.proofs.lemmas.Nat.{mod_below}
use Rattle.ml_base.specs.Address.{key}
use Rattle.ml_base.specs.Bytes.{Text}
use Rattle.ml_base.specs.Dir.{Dir, same_name, with_put, with_puts}
use Rattle.ml_base.specs.Drawn.{IsCounter}
use Rattle.ml_base.specs.Hash.{hash_of}
use Rattle.ml_base.specs.Name.{is_in_table, set_kind}
use Rattle.ml_base.specs.declared.names.Name.{Name}
use Rattle.ml_base.specs.declared.names.Set.{Set}
use Rattle.ml_base.specs.declared.puts.Put.{Put}
use Rattle.ml_bounce.specs.Answers.{has_ledger, ledger_kind}
use Rattle.ml_bounce.specs.Files.{IsLedger, IsLedgerFile, ledger_name}
use Rattle.ml_bounce.specs.Ledger.{Ledger}
use Rattle.ml_digest.specs.Due.{IsMark, mark_name}
use Rattle.ml_digest.specs.declared.posts.Mark.{Mark}
use Rattle.ml_digest.proofs.Marks.{mark_one}
use Rattle.ml_drawn.proofs.Reading.{counter_one}
use Rattle.ml_filing.specs.Archive.{ArePosts, IsIndexFile, IsNumberFile, index_name, number_name, post_name}
use Rattle.ml_filing.specs.Posts.{index_of}
use Rattle.ml_filing.specs.declared.posts.Post.{Post}
use Rattle.ml_filing.proofs.Looking.{counted_is}
use Rattle.ml_hold.specs.Answers as waiting
use Rattle.ml_hold.specs.Answers.{IsTaken, tickets_name}
use Rattle.ml_hold.specs.Held.{IsPending, Pending, without_ticket}
use Rattle.ml_hold.specs.declared.posts.Held.{Held}
use Rattle.ml_plain.specs.Directory.{IsList}
use Rattle.ml_plain.specs.Plain.{Plain}
use Rattle.ml_queue.specs.Answers.{ids_name}
use Rattle.ml_subs.specs.Buckets.{IsBucketFile, bucket_of}
use Rattle.ml_subs.specs.Members.{member_of}
use Rattle.ml_subs.specs.Subscribers.{IsBucketOf, bucket_name}
use Rattle.ml_subs.specs.declared.member_list.Member.{Member}
use Rattle.ml_subs.proofs.Represented.{found_in_bucket}
use Rattle.ml_acts.specs.Doing.{Alike, HasRoom, is_bucket, is_held_post, is_index}
use Rattle.ml_acts.proofs.Apart.{alike_fewer}
use Rattle.ml_acts.proofs.Placed.{index_placed}
use Rattle.ml_timed.specs.Reads.{is_followed_by, is_ledger, is_of_digesting, is_of_following, is_of_giving_back, is_of_issue, is_of_posts_seen, is_of_posts_told, is_of_progress, is_of_timed, is_post_file, is_seen_in_digesting, is_seen_in_timed, is_waiting}
use Rattle.ml_timed.proofs.Named.{followed_of, in_ledger}

module _ (is : Name → Bool) where
  -- directories that are alike are so under the same puts
  pub alike_laid : (old dir : Dir) (puts : List Put) → Alike is old dir → Alike is (with_puts old puts) (with_puts dir puts)
  alike_laid old dir [] alike = alike
  alike_laid old dir (put ∷ puts) alike = alike_laid (with_put old put) (with_put dir put) puts (λ name e. ap (λ (o : Option Text). cond (same_name name put.name) put.bytes o) (alike name e))

  pub alike_back : (old dir : Dir) → Alike is old dir → Alike is dir old
  alike_back old dir alike name e = sym (alike name e)

  pub alike_then : (a b c : Dir) → Alike is a b → Alike is b c → Alike is a c
  alike_then a b c one two name e = two name e ∙ one name e

  -- files that were kept, and with the same puts over them
  pub alike_kept : (old new dir : Dir) → new ≡ old → Alike is old dir → Alike is new dir
  alike_kept old new dir kept alike = subst (λ (d : Dir). Alike is d dir) (sym kept) alike

  pub alike_over : (old new dir : Dir) (puts : List Put) → new ≡ old → Alike is old dir → Alike is (with_puts new puts) (with_puts dir puts)
  alike_over old new dir puts kept alike = alike_laid new dir puts (alike_kept old new dir kept alike)

-- the same held posts
pub waiting_given : (name : Name) → is_waiting name ≡ true → is_of_giving_back name ≡ true
waiting_given name e = or_left (is_waiting name) (same_name name ids_name) e

pending_there : (old dir : Dir) (held : Pending) → Alike is_waiting old dir → IsPending old held → IsPending dir held
pending_there old dir held alike is = record {
  low = is.low;
  counted = subst (λ (f : Option Text). IsCounter f is.low held.next) (sym (alike tickets_name refl)) is.counted;
  sorted = is.sorted;
  numbers = is.numbers;
  things = is.things;
  files = λ n drawn. alike (waiting.post_name n) (or_left (is_held_post (waiting.post_name n)) (same_name (waiting.post_name n) tickets_name) drawn) ∙ is.files n drawn;
}

module _ (old dir : Dir) (alike : Alike is_of_giving_back old dir) where
  waits : Alike is_waiting old dir
  waits = alike_fewer is_waiting is_of_giving_back old dir waiting_given alike

  -- as puts leave them
  pub pending_begun : (puts : List Put) (held : Pending) → IsPending (with_puts dir puts) held → IsPending (with_puts old puts) held
  pending_begun puts held is = pending_there (with_puts dir puts) (with_puts old puts) held (alike_back is_waiting (with_puts old puts) (with_puts dir puts) (alike_laid is_waiting old dir puts waits)) is

  -- what is taken from the one is taken from the other
  pub taken_there : (p : Plain) (ticket : ℕ) (answer found : Option (Held × List Put)) → found ≡ answer → IsList dir p → ((pending : Pending) → IsPending old pending → IsTaken old pending ticket found)
      → IsTaken dir p.held ticket answer
  taken_there p ticket answer found same is taken = go answer (subst (λ (o : Option (Held × List Put)). IsTaken old p.held ticket o) same (taken p.held (pending_begun [] p.held is.held)))
    where
      go : (answer : Option (Held × List Put)) → IsTaken old p.held ticket answer → IsTaken dir p.held ticket answer
      go None none = none
      go (Some r) gone = (gone.0, pending_there (with_puts old r.1) (with_puts dir r.1) (without_ticket ticket p.held) (alike_laid is_waiting old dir r.1 waits) gone.1)

-- the same ledger
ledger_back : (old dir : Dir) (set : Set) (ledger : Ledger) → Alike (is_ledger set) old dir → IsLedger dir (ledger_kind set) ledger → IsLedger old (ledger_kind set) ledger
ledger_back old dir set ledger alike is = record {
  sorted = is.sorted;
  buckets = is.buckets;
  files = λ n less. subst (λ (f : Option Text). IsLedgerFile n f (is.buckets n)) (alike (ledger_name (ledger_kind set) n) (and_from _ _ (eq-eqb (ledger_kind set) (ledger_kind set) refl) (lt-ltb n 53 less))) (is.files n less);
  by_key = is.by_key;
}

pub ledger_over : (old dir : Dir) (puts : List Put) (set : Set) (ledger : Ledger) → has_ledger set ≡ true → Alike is_of_following old dir → IsLedger (with_puts dir puts) (ledger_kind set) ledger → IsLedger (with_puts old puts) (ledger_kind set) ledger
ledger_over old dir puts set ledger has alike is =
    ledger_back (with_puts old puts) (with_puts dir puts) set ledger
    (alike_laid (is_ledger set) old dir puts (alike_fewer (is_ledger set) is_of_following old dir (λ name e. followed_of set has name (in_ledger set name e)) alike)) is

-- the same member of a set
pub bucket_followed_by : (set : Set) (name : Name) → is_bucket set name ≡ true → is_followed_by set name ≡ true
bucket_followed_by set name e = or_left (is_ledger set name || is_bucket set name) (same_name name ids_name) (or_right (is_ledger set name) (is_bucket set name) e)

pub member_there : (old dir : Dir) (set : Set) (who : Text) (found : Option Member) (p : Plain) → Alike (is_followed_by set) old dir → IsList dir p
    → ((ms : List Member) × IsBucketOf old set (key who) ms × (found ≡ member_of (key who) ms)) → found ≡ member_of (key who) (p.sets set)
member_there old dir set who found p alike is read =
    let k = key who in
    let n = bucket_of k in
    let low : n < 53 = mod_below (hash_of k) 53 (omega arith) in
    let same : dir (bucket_name set n) ≡ old (bucket_name set n) = alike (bucket_name set n) (bucket_followed_by set (bucket_name set n) (and_from _ _ (eq-eqb (set_kind set) (set_kind set) refl) (lt-ltb n 53 low))) in
    read.2 ∙ sym (found_in_bucket dir set (p.sets set) read.0 k (is.sets set).members (subst (λ (f : Option Text). IsBucketFile n f read.0) (sym same) read.1))

-- the same posts
post_seen : (n : ℕ) → IsTrue (is_in_table (post_name n)) → is_of_posts_seen (post_name n) ≡ true
post_seen n table = or_right (is_of_posts_told (post_name n)) (is_post_file (post_name n)) table

index_seen : (g : ℕ) → IsTrue (is_in_table (index_name g)) → is_of_posts_seen (index_name g) ≡ true
index_seen g table =
    let up = leb-true g 999_999 (and_parts (nat_le 0 g) (nat_le g 999_999) table).1 in
    or_left (is_of_posts_told (index_name g)) (is_post_file (index_name g)) (or_right (same_name (index_name g) number_name) (is_index (index_name g)) (index_placed g (index_name g) (omega (arith, up)) refl))

pub posts_back : (old dir : Dir) (posts : List Post) → Alike is_of_posts_seen old dir → ArePosts dir posts → ArePosts old posts
posts_back old dir posts alike is = record {
  each = is.each;
  files = λ n table. sym (alike (post_name n) (post_seen n table)) ∙ is.files n table;
  indexes = λ g table. subst (λ (f : Option Text). IsIndexFile g f (index_of g posts)) (alike (index_name g) (index_seen g table)) (is.indexes g table);
  counted = subst (λ (f : Option Text). IsNumberFile f (length posts)) (alike number_name refl) is.counted;
}

-- what is looked at when a digest is made
pub told_digesting : (name : Name) → is_of_posts_told name ≡ true → is_of_digesting name ≡ true
told_digesting name e = or_left (is_of_progress name || is_of_posts_told name) (is_of_issue name) (or_right (is_of_progress name) (is_of_posts_told name) e)

pub posts_digested : (name : Name) → is_of_posts_seen name ≡ true → is_seen_in_digesting name ≡ true
posts_digested name e = go (or_cases (is_of_posts_told name) (is_post_file name) e)
  where
    go : ((is_of_posts_told name ≡ true) ⊎ (is_post_file name ≡ true)) → is_seen_in_digesting name ≡ true
    go (inl told) = or_left (is_of_digesting name) (is_post_file name) (told_digesting name told)
    go (inr post) = or_right (is_of_digesting name) (is_post_file name) post

pub issue_digested : (name : Name) → is_of_issue name ≡ true → is_seen_in_digesting name ≡ true
issue_digested name e = or_left (is_of_digesting name) (is_post_file name) (or_right (is_of_progress name || is_of_posts_told name) (is_of_issue name) e)

-- the same mark, and the same number of posts
pub progress_there : (old dir : Dir) (p : Plain) (mark : Mark) (count : ℕ) → Alike is_seen_in_digesting old dir → IsList dir p → IsMark old mark → IsNumberFile (old number_name) count
    → (mark ≡ p.mark) × (count ≡ length p.posts)
progress_there old dir p mark count alike is marked counted = (
  mark_one dir mark p.mark (record { last = marked.last; issue = marked.issue; text = alike mark_name refl ∙ marked.text }) is.mark,
  counted_is dir p.posts (is.archive).filed count (subst (λ (f : Option Text). IsNumberFile f count) (sym (alike number_name refl)) counted),
)

-- what each part reads, the run reads
module _ (digests : Bool) (name : Name) where
  pub given_read : is_of_giving_back name ≡ true → is_of_timed digests name ≡ true
  given_read e = or_left (is_of_giving_back name || (digests && is_of_digesting name)) (is_of_following name) (or_left (is_of_giving_back name) (digests && is_of_digesting name) e)

  pub digested_read : (digests && is_of_digesting name) ≡ true → is_of_timed digests name ≡ true
  digested_read e = or_left (is_of_giving_back name || (digests && is_of_digesting name)) (is_of_following name) (or_right (is_of_giving_back name) (digests && is_of_digesting name) e)

  pub followed_read : is_of_following name ≡ true → is_of_timed digests name ≡ true
  followed_read e = or_right (is_of_giving_back name || (digests && is_of_digesting name)) (is_of_following name) e

-- and what each part looks at, the run looks at
module _ (digests : Bool) where
  timed_seen : (name : Name) → is_of_timed digests name ≡ true → is_seen_in_timed digests name ≡ true
  timed_seen name e = or_left (is_of_timed digests name) (digests && is_post_file name) e

  pub given_timed : (name : Name) → is_of_giving_back name ≡ true → is_seen_in_timed digests name ≡ true
  given_timed name e = timed_seen name (given_read digests name e)

  pub digested_timed : (name : Name) → (digests && is_seen_in_digesting name) ≡ true → is_seen_in_timed digests name ≡ true
  digested_timed name e = go (or_cases (is_of_digesting name) (is_post_file name) parts.1)
    where
      parts : (digests ≡ true) × (is_seen_in_digesting name ≡ true)
      parts = and_parts digests (is_seen_in_digesting name) e

      go : (is_of_digesting name ≡ true) ⊎ (is_post_file name ≡ true) → is_seen_in_timed digests name ≡ true
      go (inl read) = timed_seen name (digested_read digests name (and_from digests (is_of_digesting name) parts.0 read))
      go (inr post) = or_right (is_of_timed digests name) (digests && is_post_file name) (and_from digests (is_post_file name) parts.0 post)

  pub followed_timed : (name : Name) → is_of_following name ≡ true → is_seen_in_timed digests name ≡ true
  followed_timed name e = timed_seen name (followed_read digests name e)

  module _ (old dir : Dir) (alike : Alike (is_seen_in_timed digests) old dir) where
    -- so is the next id, as puts leave it
    pub next_there : (new : Dir) (puts : List Put) (p : Plain) (next : ℕ) → new ≡ old → IsList (with_puts dir puts) p → ((low : ℕ) × IsCounter (with_puts new puts ids_name) low next) → next ≡ p.queue.next
    next_there new puts p next kept is counted =
        let same = alike_over (is_seen_in_timed digests) old new dir puts kept alike ids_name (given_timed ids_name refl) in
        (counter_one (with_puts new puts ids_name) counted.0 next (is.queue).low p.queue.next counted.1 (subst (λ (f : Option Text). IsCounter f (is.queue).low p.queue.next) same (is.queue).counted)).1

    pub room_there : HasRoom old → HasRoom dir
    room_there room = record {
      ids = λ low next counted. room.ids low next (subst (λ (f : Option Text). IsCounter f low next) (alike ids_name (given_timed ids_name refl)) counted);
      tickets = λ low next counted. room.tickets low next (subst (λ (f : Option Text). IsCounter f low next) (alike tickets_name (given_timed tickets_name refl)) counted);
    }
