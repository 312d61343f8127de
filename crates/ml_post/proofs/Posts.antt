-- A post in the archive and in the queue.
use Rattle.std.proofs.Common.{◌≡◌, ◌⊎◌, inl, inr, ◌<◌, ◌+◌, ◌/◌, ℕ, Bool, true, false, eqb, ◌||◌, not, List, [], ◌∷◌, ◌++◌, length, length-append, Option, refl, sym, ap, ◌∙◌, subst, arith}
use Rattle.std.proofs.lemmas.Bool.{or_cases, or_left, or_right, eqb-true, lt-leb}
use Rattle.ml_base.specs.Bytes.{Text}
use Rattle.ml_base.specs.Dir.{Dir, same_name, with_puts, touches_only}
use Rattle.ml_base.specs.declared.names.Name.{Name}
use Rattle.ml_base.specs.declared.names.Set.{Set}
use Rattle.ml_base.specs.declared.names.Set.TheVariants as sets
use Rattle.ml_base.specs.declared.puts.Put.{Put}
use Rattle.ml_base.proofs.Laid.{laid_joined, left_alone}
use Rattle.ml_filing.specs.Answers.{AppendsTo, IsAppendName, IsBadForAppend, ReadsAlike, new_post, post_thread}
use Rattle.ml_filing.specs.Appending.{next_number}
use Rattle.ml_filing.specs.Archive.{IsNumberFile, index_name, number_name}
use Rattle.ml_filing.specs.Reads.{IsOfNext}
use Rattle.ml_filing.specs.Subjects.{subject, subject_key}
use Rattle.ml_filing.specs.Threads.{IsArchive, is_of_archive, thread_name, thread_place}
use Rattle.ml_filing.specs.declared.posts.Appended.{Appended}
use Rattle.ml_filing.specs.declared.posts.Appended.TheVariants.{At}
use Rattle.ml_filing.specs.declared.posts.Post.{Post}
use Rattle.ml_filing.proofs.Lengthened.{no_bad_next}
use Rattle.ml_filing.proofs.Looking.{counted_is, no_bad_index}
use Rattle.ml_config.specs.declared.configuration.Config.{Config}
use Rattle.ml_plain.specs.Directory.{IsList, archive_kinds, held_kinds}
use Rattle.ml_plain.specs.Mailing.{post_path, send}
use Rattle.ml_plain.specs.Plain.{Plain, addresses}
use Rattle.ml_plain.specs.Posting.{sent_text, with_text}
use Rattle.ml_plain.proofs.PartChanges.{posts_changed}
use Rattle.ml_acts.specs.Doing.{Alike, is_index, is_mailed_by, is_of_posting, is_of_queue, is_thread_file, is_with_queue}
use Rattle.ml_acts.proofs.Apart.{mailed_with}
use Rattle.ml_acts.proofs.Placed.{index_placed, threads_placed}
use Rattle.ml_post.specs.Publishing.{Publishes, is_beside_held, is_published_by, sent_key}

-- a name of a kind is of no file that a mail to a set needs, if no name of that kind is
of_kind : (set : Set) (name : Name) (k : ℕ) → eqb name.kind k ≡ true → is_with_queue set (record { kind = k; at = name.at }) ≡ false → is_with_queue set name ≡ false
of_kind set name k e none = ap (λ kind. is_with_queue set (record { kind = kind; at = name.at })) (eqb-true name.kind k e) ∙ none

-- the archive's files are none of those
archive_apart : (name : Name) → is_of_archive name ≡ true → is_with_queue sets.List name ≡ false
archive_apart name e = any (or_cases (eqb name.kind 9 || eqb name.kind 10 || eqb name.kind 11) (eqb name.kind 20) e)
  where
    two : ((eqb name.kind 9 ≡ true) ⊎ (eqb name.kind 10 ≡ true)) → is_with_queue sets.List name ≡ false
    two (inl k) = of_kind sets.List name 9 k refl
    two (inr k) = of_kind sets.List name 10 k refl

    three : (((eqb name.kind 9 || eqb name.kind 10) ≡ true) ⊎ (eqb name.kind 11 ≡ true)) → is_with_queue sets.List name ≡ false
    three (inl k) = two (or_cases (eqb name.kind 9) (eqb name.kind 10) k)
    three (inr k) = of_kind sets.List name 11 k refl

    any : (((eqb name.kind 9 || eqb name.kind 10 || eqb name.kind 11) ≡ true) ⊎ (eqb name.kind 20 ≡ true)) → is_with_queue sets.List name ≡ false
    any (inl k) = three (or_cases (eqb name.kind 9 || eqb name.kind 10) (eqb name.kind 11) k)
    any (inr k) = of_kind sets.List name 20 k refl

-- nor are the held posts
pub held_apart : (set : Set) (name : Name) → held_kinds name.kind ≡ true → is_with_queue set name ≡ false
held_apart set name e = go (or_cases (eqb name.kind 13) (eqb name.kind 14) e)
  where
    thirteen : (set : Set) → is_with_queue set (record { kind = 13; at = name.at }) ≡ false
    thirteen sets.List = refl
    thirteen sets.Digest = refl
    thirteen sets.Allow = refl
    thirteen sets.Deny = refl
    thirteen sets.Moderators = refl

    fourteen : (set : Set) → is_with_queue set (record { kind = 14; at = name.at }) ≡ false
    fourteen sets.List = refl
    fourteen sets.Digest = refl
    fourteen sets.Allow = refl
    fourteen sets.Deny = refl
    fourteen sets.Moderators = refl

    go : ((eqb name.kind 13 ≡ true) ⊎ (eqb name.kind 14 ≡ true)) → is_with_queue set name ≡ false
    go (inl k) = of_kind set name 13 k (thirteen set)
    go (inr k) = of_kind set name 14 k (fourteen set)

both_ways : (a b : Bool) → (a ≡ true → b ≡ false) → b ≡ true → a ≡ false
both_ways true b apart e = absurd (let no = apart refl in let bad : true ≡ false = sym e ∙ no in cc)
both_ways false b apart e = refl

pub needs_no_post : (name : Name) → is_with_queue sets.List name ≡ true → is_of_archive name ≡ false
needs_no_post name e = both_ways (is_of_archive name) (is_with_queue sets.List name) (archive_apart name) e

pub needs_none_held : (set : Set) (name : Name) → is_with_queue set name ≡ true → is_beside_held name ≡ true
needs_none_held set name e = ap not (both_ways (held_kinds name.kind) (is_with_queue set name) (held_apart set name) e)

-- appending reads the same if the files of the post's own place are the same
pub reads_placed : (old dir : Dir) (p : Plain) (c : Config) (now : ℕ) (sender text m : Text) (count : ℕ) → ((name : Name) → IsOfNext old (sent_key c m) name → dir name ≡ old name) → text ≡ sent_text c m
    → IsNumberFile (old number_name) count → count < 99_999_999 → IsList dir p → ReadsAlike old dir c.prefix (new_post sender now text) p.posts
reads_placed old dir p c now sender text m count placed same file less is = record {
  number = number;
  index = placed (index_name (next_number p.posts / 100)) (inr (inl (count, file, less, ap (λ (n : ℕ). index_name ((n + 1) / 100)) (sym counted))));
  thread = placed (post_thread c.prefix (new_post sender now text)) (inr (inr (ap (λ (t : Text). thread_name (thread_place (subject_key c.prefix (subject t)))) same)));
}
  where
    number : dir number_name ≡ old number_name
    number = placed number_name (inl refl)

    counted : count ≡ length p.posts
    counted = counted_is dir p.posts (is.archive).filed count (subst (λ (f : Option Text). IsNumberFile f count) (sym number) file)

module _ (old dir : Dir) (p : Plain) (c : Config) (now : ℕ) (sender text : Text) (reads : ReadsAlike old dir c.prefix (new_post sender now text) p.posts) (is : IsList dir p) (same : p.config ≡ c) where
  -- the number of posts, by its file, which is the same
  count_here : (count : ℕ) → IsNumberFile (old number_name) count → count ≡ length p.posts
  count_here count file = counted_is dir p.posts (is.archive).filed count (subst (λ (f : Option Text). IsNumberFile f count) (sym reads.number) file)

  -- what the archive's call says of every directory that reads alike, it says of this one
  pub appended_here : (answer : Appended)
      → ((dir : Dir) (posts : List Post) → IsArchive dir c.prefix posts → ReadsAlike old dir c.prefix (new_post sender now text) posts → AppendsTo dir c.prefix posts (new_post sender now text) answer)
      → AppendsTo dir c.prefix p.posts (new_post sender now text) answer
  appended_here answer appends = appends dir p.posts archive reads
    where
      archive : IsArchive dir c.prefix p.posts
      archive = subst (λ (d : Config). IsArchive dir d.prefix p.posts) same is.archive

  abbrev after : Plain
  after = record p { posts = p.posts ++ new_post sender now text ∷ [] }

  -- the post in the archive, and the mail after it
  pub publishes : (m : Text) (count n : ℕ) (txn done : List Put) → IsNumberFile (old number_name) count → text ≡ sent_text c m → touches_only is_of_archive txn ≡ true
      → ((dir : Dir) (posts : List Post) → IsArchive dir c.prefix posts → ReadsAlike old dir c.prefix (new_post sender now text) posts → AppendsTo dir c.prefix posts (new_post sender now text) (At n txn))
      → ((q : Plain) → IsList (with_puts dir txn) q → q.config ≡ c → IsList (with_puts dir done) (send (post_path q.config (count + 1)) text (addresses q sets.List) q))
      → Publishes dir now sender m p (count + 1) done
  publishes m count n txn done file e only appends mails = (
    lt-leb 99_999_999 (length p.posts) appended.0,
    ap (λ k. k + 1) (count_here count file),
    subst (λ (t : Text). IsList (with_puts dir done) (with_text now sender t (count + 1) p)) (e ∙ ap (λ (d : Config). sent_text d m) (sym same)) (mails after stands same),
  )
    where
      appended : AppendsTo dir c.prefix p.posts (new_post sender now text) (At n txn)
      appended = appended_here (At n txn) appends

      stands : IsList (with_puts dir txn) after
      stands =
          let digested = is.digested in
          posts_changed dir p txn (p.posts ++ new_post sender now text ∷ []) is only
          (subst (λ (d : Config). IsArchive (with_puts dir txn) d.prefix (p.posts ++ new_post sender now text ∷ [])) (sym same) appended.2)
          (omega (arith, digested, length-append p.posts (new_post sender now text ∷ [])))

-- what appending reads
pub append_read : (name : Name) → IsAppendName name → is_published_by name ≡ true
append_read name (inl e) = ap is_published_by e
append_read name (inr (inl g)) =
    let mailed = is_mailed_by sets.List name || same_name name number_name in
    or_left (mailed || is_index name) (is_thread_file name) (or_right mailed (is_index name) (index_placed g.0 name g.1 g.2))
append_read name (inr (inr n)) = or_right (is_mailed_by sets.List name || same_name name number_name || is_index name) (is_thread_file name) (threads_placed n.0 name n.1 n.2)

-- a file that is damaged for the next post, if there is room for one, is damaged whatever list the files stand for
pub no_archive : (dir : Dir) (name : Name) (count : ℕ) → IsNumberFile (dir number_name) count → count < 99_999_999 → IsBadForAppend dir name → (prefix : Text) (posts : List Post) → IsArchive dir prefix posts → ⊥
no_archive dir name count file less (inl (e, inl none)) prefix posts is = none (length posts) is.filed.counted
no_archive dir name count file less (inl (e, inr (k, counted, other))) prefix posts is =
    let filed = is.filed in
    let mine = counted_is dir posts filed count file in
    let theirs = counted_is dir posts filed k counted in
    no_bad_next dir posts (k + 1) name filed (omega (arith, theirs)) (omega (arith, mine, theirs, less)) (inl (e, other))
no_archive dir name count file less (inr (inl bad)) prefix posts is = no_bad_index dir posts is.filed bad.0 bad.1 bad.3
no_archive dir name count file less (inr (inr bad)) prefix posts is = bad.3 (is.threaded.threads bad.0) (is.threaded.files bad.0 bad.1)

-- a mail to the set list after the puts of the archive, if the files that it looks at are the same
pub mailed_apart : (old dir : Dir) (p : Plain) (c : Config) (number : ℕ) (text : Text) (txn mail done : List Put) → Alike (is_mailed_by sets.List) old dir → touches_only is_of_archive txn ≡ true → p.config ≡ c
    → done ≡ txn ++ mail → ((dir : Dir) (p : Plain) → Alike (is_mailed_by sets.List) old dir → IsList dir p → p.config ≡ c → IsList (with_puts dir mail) (send (post_path c number) text (addresses p sets.List) p))
    → IsList (with_puts dir txn) p → IsList (with_puts dir done) (send (post_path p.config number) text (addresses p sets.List) p)
mailed_apart old dir p c number text txn mail done alike only same e mails is =
    subst (λ (d : Config). IsList (with_puts dir done) (send (post_path d number) text (addresses p sets.List) p)) (sym same)
    (subst (λ (d : Dir). IsList d (send (post_path c number) text (addresses p sets.List) p)) (sym (ap (λ (t : List Put). with_puts dir t) e ∙ laid_joined dir txn mail))
    (mails (with_puts dir txn) p (λ name needs. left_alone is_of_archive dir txn name only (needs_no_post name (mailed_with sets.List name needs)) ∙ alike name needs) is same))

-- what appending says, in terms of the files, the prefix, the text and the answer
module _ (now : ℕ) (sender : Text) where
  abbrev pub Appends : Dir → Text → Text → Appended → Type 0
  Appends old prefix text answer =
      (dir : Dir) (posts : List Post) → IsArchive dir prefix posts → ReadsAlike old dir prefix (new_post sender now text) posts → AppendsTo dir prefix posts (new_post sender now text) answer

  pub appends_so : (old new : Dir) (a b s t : Text) (x y : Appended) → new ≡ old → a ≡ b → s ≡ t → x ≡ y → Appends new a s x → Appends old b t y
  appends_so old new a b s t x y kept prefix text answer is =
      subst (λ (d : Dir). Appends d b t y) kept (subst (λ (p : Text). Appends new p t y) prefix (subst (λ (q : Text). Appends new a q y) text (subst (λ (r : Appended). Appends new a s r) answer is)))

-- a post may write the archive's files
pub archive_posting : (name : Name) → is_of_archive name ≡ true → is_of_posting name ≡ true
archive_posting name e = or_left (archive_kinds name.kind || held_kinds name.kind) (is_of_queue name) (or_left (archive_kinds name.kind) (held_kinds name.kind) e)
