-- No file that a timed run looks at is damaged in a directory that has, of these files, those that a list has.
use Rattle.std.proofs.Common.{◌≡◌, ◌⊎◌, inl, inr, ◌==◌, ◌&&◌, ◌||◌, ◌≤◌, ◌/◌, ℕ, Bool, true, List, [], length, Option, refl, sym, ap, ◌∙◌, subst, arith}
use Rattle.std.specs.Prelude.{nat_lt}
use Rattle.std.proofs.lemmas.Bool.{and_from, and_parts, eqb-true, ltb-true, or_cases}
use Rattle.std.proofs.lemmas.Nat.{div_below}
use Rattle.ml_base.specs.Bytes.{Text}
use Rattle.ml_base.specs.Dir.{Dir, same_name}
use Rattle.ml_base.specs.Name.{set_kind}
use Rattle.ml_base.specs.Ranges.{is_drawn}
use Rattle.ml_base.specs.declared.names.Name.{Name}
use Rattle.ml_base.specs.declared.names.Set.{Set}
use Rattle.ml_base.specs.declared.names.Set.TheVariants as sets
use Rattle.ml_base.proofs.Bools.{one_name}
use Rattle.ml_bounce.specs.Answers.{has_ledger, ledger_kind}
use Rattle.ml_bounce.specs.Files.{IsLedgerFile, ledger_name}
use Rattle.ml_config.specs.KeyFile.{key_name}
use Rattle.ml_digest.specs.Due.{IsMark, mark_name}
use Rattle.ml_filing.specs.Answers.{IsBadBelow, IsBadForPost}
use Rattle.ml_filing.specs.Archive.{ArePosts, IsNumberFile, index_name, number_name}
use Rattle.ml_filing.specs.Subjects.{subject_key}
use Rattle.ml_filing.specs.Threads.{is_of_archive, thread_name, thread_place}
use Rattle.ml_filing.specs.declared.posts.Post.{Post}
use Rattle.ml_filing.proofs.Looking.{counted_is, no_bad_count, no_bad_index, no_missing, right_size}
use Rattle.ml_hold.specs.Answers.{Breaks, tickets_name}
use Rattle.ml_hold.proofs.OfFiles.{broken}
use Rattle.ml_plain.specs.Directory.{IsList}
use Rattle.ml_plain.specs.Plain.{Plain}
use Rattle.ml_queue.specs.Answers as queue
use Rattle.ml_queue.specs.Answers.{ids_name}
use Rattle.ml_subs.specs.Buckets.{bucket_of}
use Rattle.ml_subs.specs.Subscribers.{bucket_name, count_name}
use Rattle.ml_acts.specs.Asked.{IsBadFor, IsDamagedOf, IsTooSmall, Undigested}
use Rattle.ml_acts.specs.Damaged.{IsDamaged}
use Rattle.ml_acts.specs.Damaged as damage
use Rattle.ml_acts.specs.Doing.{Alike, is_bucket, is_held_post, is_index}
use Rattle.ml_acts.proofs.Agreeing.{ledger_agrees}
use Rattle.ml_acts.proofs.Apart.{alike_fewer}
use Rattle.ml_acts.proofs.Spared.{buckets_spared, ids_spared, keys_spared, tickets_spared}
use Rattle.ml_acts.proofs.Spelled.{ledger_least}
use Rattle.ml_acts.proofs.Undamaged.{mark_undamaged, set_low}
use Rattle.ml_timed.specs.Reads.{is_followed_by, is_ledger, is_of_digesting, is_of_following, is_of_giving_back, is_of_issue, is_of_posts_seen, is_of_posts_told, is_of_progress, is_of_timed, is_seen_in_digesting, is_seen_in_timed, is_waiting}
use Rattle.ml_timed.proofs.Apart.{digested_timed, followed_timed, given_timed, issue_digested, pending_begun, posts_back, posts_digested}
use Rattle.ml_timed.proofs.Changed.{ledger_there}
use Rattle.ml_timed.proofs.Counted.{no_posts}

-- a held post that is damaged is outside its grammar: the other causes are of files of other kinds
module _ (dir : Dir) (name : Name) (held : name.kind ≡ 13) where
  apart : {A : Type 0} (that : Name) (k : ℕ) → name ≡ that → that.kind ≡ k → (k ≡ 13 → ⊥) → A
  apart that k is kind different = absurd (different (sym kind ∙ sym (ap (λ (n : Name). n.kind) is) ∙ held))

  no_set : {A : Type 0} (set : Set) (n : ℕ) → name ≡ bucket_name set n → A
  no_set set n is = let low = set_low set in apart (bucket_name set n) (set_kind set) is refl (λ e. omega (arith, e, low))

  no_number : {A : Type 0} → name ≡ number_name → A
  no_number is = apart number_name 11 is refl (λ e. omega (arith, e))

  no_index : {A : Type 0} (g : ℕ) → name ≡ index_name g → A
  no_index g is = apart (index_name g) 10 is refl (λ e. omega (arith, e))

  no_threads : {A : Type 0} (n : ℕ) → name ≡ thread_name n → A
  no_threads n is = apart (thread_name n) 20 is refl (λ e. omega (arith, e))

  of_below : {A : Type 0} (prefix : Text) (n : ℕ) → IsBadBelow dir prefix n name → A
  of_below prefix n (inl bad) = no_index bad.0 bad.2
  of_below prefix n (inr (inl bad)) = no_threads bad.0 bad.2
  of_below prefix n (inr (inr l)) = no_threads (thread_place (subject_key prefix (l.entry).subject)) l.named

  held_breaks : IsDamaged dir name → Breaks dir name
  held_breaks (damage.waiting bad) = bad
  held_breaks (damage.keys e none) = apart key_name 2 e refl (λ e. omega (arith, e))
  held_breaks (damage.bucket set bad) = no_set set bad.0 bad.2
  held_breaks (damage.count set e none) = apart (count_name set) 8 e refl (λ e. omega (arith, e))
  held_breaks (damage.change set k has (inl bad)) = no_set set (bucket_of k) bad.0
  held_breaks (damage.change set k has (inr bad)) = apart (count_name set) 8 bad.0 refl (λ e. omega (arith, e))
  held_breaks (damage.ledger set has bad) =
      let least = ledger_least set has in
      let b = ap (λ (n : Name). n.kind) bad.2 in
      let h = held in
      absurd (omega (arith, least, h, b))
  held_breaks (damage.queued (inl bad)) = apart ids_name 18 bad.0 refl (λ e. omega (arith, e))
  held_breaks (damage.queued (inr bad)) = apart (queue.entry_name bad.0) 17 bad.1 refl (λ e. omega (arith, e))
  held_breaks (damage.mark e none) = apart mark_name 12 e refl (λ e. omega (arith, e))
  held_breaks (damage.ahead m n e file is over) = apart mark_name 12 e refl (λ e. omega (arith, e))
  held_breaks (damage.number e none) = no_number e
  held_breaks (damage.index group e none empty) = no_index group e
  held_breaks (damage.post n (inl bad) empty) = no_number bad.0
  held_breaks (damage.post n (inr bad) empty) = no_index (n / 100) bad.0
  held_breaks (damage.range a b (inl bad) empty) = no_number bad.0
  held_breaks (damage.range a b (inr bad) empty) = no_index bad.0 bad.2
  held_breaks (damage.thread c n file (inl bad) empty) = no_number bad.0
  held_breaks (damage.thread c n file (inr bad) empty) = of_below c.prefix n bad
  held_breaks (damage.append (inl bad) empty) = no_number bad.0
  held_breaks (damage.append (inr (inl bad)) empty) = no_index bad.0 bad.2
  held_breaks (damage.append (inr (inr bad)) empty) = no_threads bad.0 bad.2

-- none of an archive's files is damaged for the posts in no digest
module _ (dir : Dir) (posts : List Post) (are : ArePosts dir posts) where
  counts : (count : ℕ) → IsNumberFile (dir number_name) count → count ≡ length posts
  counts count file = counted_is dir posts are count file

  post_spared : (n count : ℕ) (name : Name) → 1 ≤ n → n ≤ count → IsNumberFile (dir number_name) count → IsBadForPost dir n name → ⊥
  post_spared n count name low high counted (inl (e, inl none)) = no_bad_count dir posts are none
  post_spared n count name low high counted (inl (e, inr lost)) =
      let c = counts lost.count lost.counted in
      let h = lost.high in
      no_missing dir posts are n lost.low (omega (arith, c, h)) (lost.entries, lost.index, lost.lacks)
  post_spared n count name low high counted (inr (e, inl none)) =
      let few = counted.few in
      no_bad_index dir posts are (n / 100) (div_below n 100 1_000_000 (omega arith) (omega (arith, high, few))) none
  post_spared n count name low high counted (inr (e, inr lost)) = right_size dir posts are n count lost.entry low high counted (lost.entries, lost.index, lost.found) lost.lacks

  small_spared : IsTooSmall dir → ⊥
  small_spared (count, counted, entries, index, above) = no_posts dir (count / 100) count entries (omega arith) counted index above posts are

  undigested_spared : (name : Name) → IsBadFor dir Undigested name → ⊥
  undigested_spared name (inl (e, inl none)) = no_bad_count dir posts are none
  undigested_spared name (inl (e, inr small)) = small_spared small
  undigested_spared name (inr (mark, marked, count, counted, (n, from, to, bad))) = post_spared n count name (omega (arith, from)) to counted bad

module _ (old dir : Dir) (p : Plain) (is : IsList dir p) where
  given_spared : Alike is_of_giving_back old dir → (name : Name) → is_of_giving_back name ≡ true → IsDamaged old name → ⊥
  given_spared alike name e bad = go (or_cases (is_waiting name) (same_name name ids_name) e)
    where
      held : (is_held_post name ≡ true) ⊎ (same_name name tickets_name ≡ true) → ⊥
      held (inl a) = broken old name p.held (held_breaks old name (eqb-true name.kind 13 (and_parts (name.kind == 13) (is_drawn name.at) a).0) bad) (pending_begun old dir alike [] p.held is.held)
      held (inr b) = tickets_spared old dir p is name b (alike name e) bad

      go : (is_waiting name ≡ true) ⊎ (same_name name ids_name ≡ true) → ⊥
      go (inl a) = held (or_cases (is_held_post name) (same_name name tickets_name) a)
      go (inr b) = ids_spared old dir p is name b (alike name e) bad

  ledger_spared : (set : Set) → has_ledger set ≡ true → (name : Name) → is_ledger set name ≡ true → dir name ≡ old name → IsDamaged old name → ⊥
  ledger_spared set has name e same bad =
      let parts = and_parts (name.kind == ledger_kind set) (nat_lt name.at 53) e in
      let n = name.at in
      let less = ltb-true n 53 parts.1 in
      let named : name ≡ ledger_name (ledger_kind set) n = ap (λ (k : ℕ). let n : Name = record { kind = k; at = name.at } in n) (eqb-true name.kind (ledger_kind set) parts.0) in
      let ledger = ledger_there dir set p has is in
      let here = subst (λ (m : Name). dir m ≡ old m) named same in
      ledger_agrees old set n (ledger.buckets n) has (subst (λ (f : Option Text). IsLedgerFile n f (ledger.buckets n)) here (ledger.files n less)) (subst (λ (m : Name). IsDamaged old m) named bad)

  followed_spared : (set : Set) → has_ledger set ≡ true → (name : Name) → is_followed_by set name ≡ true → dir name ≡ old name → IsDamaged old name → ⊥
  followed_spared set has name e same bad = go (or_cases (is_ledger set name || is_bucket set name) (same_name name ids_name) e)
    where
      own : (is_ledger set name ≡ true) ⊎ (is_bucket set name ≡ true) → ⊥
      own (inl a) = ledger_spared set has name a same bad
      own (inr b) = buckets_spared old dir p is set name b same bad

      go : ((is_ledger set name || is_bucket set name) ≡ true) ⊎ (same_name name ids_name ≡ true) → ⊥
      go (inl a) = own (or_cases (is_ledger set name) (is_bucket set name) a)
      go (inr b) = ids_spared old dir p is name b same bad

  following_spared : (name : Name) → is_of_following name ≡ true → dir name ≡ old name → IsDamaged old name → ⊥
  following_spared name e same bad = go (or_cases (same_name name key_name || is_followed_by sets.List name) (is_followed_by sets.Digest name) e)
    where
      first : (same_name name key_name ≡ true) ⊎ (is_followed_by sets.List name ≡ true) → ⊥
      first (inl a) = keys_spared old dir p is name a same bad
      first (inr b) = followed_spared sets.List refl name b same bad

      go : ((same_name name key_name || is_followed_by sets.List name) ≡ true) ⊎ (is_followed_by sets.Digest name ≡ true) → ⊥
      go (inl a) = first (or_cases (same_name name key_name) (is_followed_by sets.List name) a)
      go (inr b) = followed_spared sets.Digest refl name b same bad

  digested_spared : Alike is_seen_in_digesting old dir → (name : Name) → is_of_digesting name ≡ true → IsDamagedOf old Undigested name → ⊥
  digested_spared alike name e bad = go (or_cases (is_of_progress name || is_of_posts_told name) (is_of_issue name) e)
    where
      posts : ArePosts old p.posts
      posts = posts_back old dir p.posts (alike_fewer is_of_posts_seen is_seen_in_digesting old dir posts_digested alike) (is.archive).filed

      marked : IsMark old p.mark
      marked = let there = is.mark in record { last = there.last; issue = there.issue; text = sym (alike mark_name refl) ∙ there.text }

      archived : is_of_archive name ≡ true → ⊥
      archived of = undigested_spared old p.posts posts name (bad.own of)

      number : same_name name number_name ≡ true → ⊥
      number a = archived (ap is_of_archive (one_name name number_name a))

      progress : (same_name name mark_name ≡ true) ⊎ (same_name name number_name ≡ true) → ⊥
      progress (inl a) = mark_undamaged old p.mark (length p.posts) marked posts.counted is.issued is.digested (subst (λ (m : Name). IsDamaged old m) (one_name name mark_name a) bad.damaged)
      progress (inr b) = number b

      told : (same_name name number_name ≡ true) ⊎ (is_index name ≡ true) → ⊥
      told (inl a) = number a
      told (inr b) = archived (indexed b)
        where
          indexed : is_index name ≡ true → is_of_archive name ≡ true
          indexed e = ap (λ (k : ℕ). is_of_archive (record { kind = k; at = name.at })) (eqb-true name.kind 10 (and_parts (name.kind == 10) (nat_lt name.at 1_000_000) e).0)

      issued : (is_bucket sets.Digest name ≡ true) ⊎ (same_name name ids_name ≡ true) → dir name ≡ old name → ⊥
      issued (inl a) same = buckets_spared old dir p is sets.Digest name a same bad.damaged
      issued (inr b) same = ids_spared old dir p is name b same bad.damaged

      read : (is_of_progress name ≡ true) ⊎ (is_of_posts_told name ≡ true) → ⊥
      read (inl a) = progress (or_cases (same_name name mark_name) (same_name name number_name) a)
      read (inr b) = told (or_cases (same_name name number_name) (is_index name) b)

      go : ((is_of_progress name || is_of_posts_told name) ≡ true) ⊎ (is_of_issue name ≡ true) → ⊥
      go (inl a) = read (or_cases (is_of_progress name) (is_of_posts_told name) a)
      go (inr b) = issued (or_cases (is_bucket sets.Digest name) (same_name name ids_name) b) (alike name (issue_digested name b))

-- none that a timed run names
pub timed_spared : (digests : Bool) (old dir : Dir) (p : Plain) → IsList dir p → Alike (is_seen_in_timed digests) old dir → (name : Name) → is_of_timed digests name ≡ true → IsDamagedOf old Undigested name → ⊥
timed_spared digests old dir p is alike name e bad = go (or_cases (is_of_giving_back name || (digests && is_of_digesting name)) (is_of_following name) e)
  where
    seen : Name → Bool
    seen = is_seen_in_timed digests

    digested : digests ≡ true → Alike is_seen_in_digesting old dir
    digested on name e = alike name (digested_timed digests name (and_from digests (is_seen_in_digesting name) on e))

    part : (is_of_giving_back name ≡ true) ⊎ ((digests && is_of_digesting name) ≡ true) → ⊥
    part (inl a) = given_spared old dir p is (λ n t. alike n (given_timed digests n t)) name a bad.damaged
    part (inr b) = let parts = and_parts digests (is_of_digesting name) b in digested_spared old dir p is (digested parts.0) name parts.1 bad

    go : ((is_of_giving_back name || (digests && is_of_digesting name)) ≡ true) ⊎ (is_of_following name ≡ true) → ⊥
    go (inl a) = part (or_cases (is_of_giving_back name) (digests && is_of_digesting name) a)
    go (inr b) = following_spared old dir p is name b (alike name (followed_timed digests name b)) bad.damaged
