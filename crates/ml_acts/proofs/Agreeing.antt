-- A file in its grammar that agrees with the files of lower kind isn't damaged, whatever the other files are.
use Rattle.std.proofs.Common.{arith, ◌≡◌, ◌⊎◌, inl, inr, ℕ, Bool, true, false, cond, ◌==◌, ◌+◌, ◌/◌, ◌≤◌, ◌<◌, List, [], ◌∷◌, length, Option, Some, None, IsTrue, refl, sym, ap, ◌∙◌, subst}
use Rattle.std.specs.Prelude.{if◌then◌else◌}
use Rattle.std.specs.List.{AllByRecursion, IsAmong}
use Rattle.std.specs.Option.{option_map}
use Rattle.ml_base.specs.Bytes.{Text}
use Rattle.ml_base.specs.Dir.{Dir}
use Rattle.ml_base.specs.Drawn.{IsCounter}
use Rattle.ml_base.specs.Kinds.{floor_name, replies_name}
use Rattle.ml_base.specs.declared.names.Name.{Name}
use Rattle.ml_base.specs.declared.names.Set.{Set}
use Rattle.ml_base.specs.declared.names.Set.TheVariants as sets
use Rattle.ml_filing.specs.Answers.{HasNoEntry, HasOtherCount, IsBadForAppend, IsBadForPost, IsBadForRange, IsBadForThread, IsEntryByFiles, IsNoIndex, IsNoNumber, IsNoThreads, LacksEntry, LacksPost, LacksThread}
use Rattle.ml_filing.specs.Archive.{IsIndexFile, IsNumberFile, index_name, number_name, post_name}
use Rattle.ml_filing.specs.Subjects.{subject_key}
use Rattle.ml_filing.specs.Threads.{IsThreadFile, entry_at, numbers_under, thread_name, thread_place}
use Rattle.ml_filing.specs.declared.posts.Entry.{Entry}
use Rattle.ml_filing.specs.declared.posts.Thread.{Thread}
use Rattle.ml_filing.proofs.Exact.{count_one, index_one, threads_one}
use Rattle.ml_filing.proofs.Looking.{entry_named}
use Rattle.ml_bounce.specs.Answers.{has_ledger, IsNoFile, ledger_kind}
use Rattle.ml_bounce.specs.Files.{IsLedgerFile, ledger_name}
use Rattle.ml_bounce.specs.Ledger.{Ledger}
use Rattle.ml_config.specs.ConfigFile.{IsConfigFile, config_name}
use Rattle.ml_config.specs.KeyFile.{IsKeyFile, key_name}
use Rattle.ml_config.specs.declared.configuration.Config.{Config}
use Rattle.ml_config.specs.declared.key_file.Keys.{Keys}
use Rattle.ml_drawn.specs.Answers.{IsNoCounter}
use Rattle.ml_drawn.specs.declared.series.Series.TheVariants.{Ids, Tickets}
use Rattle.ml_hold.specs.Answers as held
use Rattle.ml_hold.specs.Held.{IsHeldFile}
use Rattle.ml_hold.specs.declared.posts.Held.{Held}
use Rattle.ml_queue.specs.Answers as queue
use Rattle.ml_queue.specs.Queue.{IsOutFile}
use Rattle.ml_queue.specs.declared.entries.Out.{Out}
use Rattle.ml_subs.specs.Buckets.{IsBucketFile, bucket_of}
use Rattle.ml_subs.specs.Members.{has_key}
use Rattle.ml_subs.specs.Subscribers.{IsNoBucket, IsNoCount, IsUnread, bucket_name, count_name, count_text}
use Rattle.ml_subs.specs.declared.member_list.Member.{Member}
use Rattle.ml_acts.specs.Damaged.{IsDamaged, IsNoKeys}
use Rattle.ml_acts.specs.Damaged as damage

none_some : {A : Type 0} (x : A) → ◌≡◌ {A = Option A} None (Some x) → ⊥
none_some x e = cc

one_some : {A : Type 0} (a b : A) → Some a ≡ Some b → a ≡ b
one_some a b e = cc

-- a set has at least so many members, by one of its buckets
abbrev HasAtLeast : Dir → Set → ℕ → Type 0
HasAtLeast dir set least = (least ≡ 0) ⊎ ((least ≡ 1) × ((n : ℕ) × (ms : List Member) × IsBucketFile n (dir (bucket_name set n)) ms × (0 < length ms)))

abbrev CountCause : Dir → Set → Type 0
CountCause dir set = (least : ℕ) × HasAtLeast dir set least × IsNoCount dir set least

abbrev IndexCause : Dir → ℕ → Type 0
IndexCause dir g = IsNoIndex dir g ⊎ ((n : ℕ) × (n / 100 ≡ g) × LacksPost dir n)

abbrev NumberCause : Dir → Type 0
NumberCause dir = IsNoNumber dir ⊎ (((n : ℕ) × LacksEntry dir n) ⊎ ((count : ℕ) × IsNumberFile (dir number_name) count × HasOtherCount dir (count + 1)))

abbrev ThreadCause : Dir → ℕ → Type 0
ThreadCause dir f = IsNoThreads dir f ⊎ ((c : Config) × (n : ℕ) × IsConfigFile (dir config_name) c × LacksThread dir c.prefix n (thread_name f))

-- the sets in their order
abbrev set_at : ℕ → Set
set_at n = if n == 0 then sets.List else (if n == 1 then sets.Digest else (if n == 2 then sets.Allow else (if n == 3 then sets.Deny else sets.Moderators)))

-- one of two types, by a test
abbrev choice : Bool → Type 0 → Type 0 → Type 0
choice true A B = A
choice false A B = B

-- what is wrong with a file that is damaged, by its kind; of the mark nothing is said here
abbrev CauseAt : Dir → ℕ → ℕ → Type 0
CauseAt dir kind at =
    choice (kind == 2) (IsNoKeys dir)
    (choice (kind == 3) (IsNoBucket dir sets.List at)
    (choice (kind == 4) (IsNoBucket dir sets.Digest at)
    (choice (kind == 5) (IsNoBucket dir sets.Allow at)
    (choice (kind == 6) (IsNoBucket dir sets.Deny at)
    (choice (kind == 7) (IsNoBucket dir sets.Moderators at)
    (choice (kind == 8) (CountCause dir (set_at at))
    (choice (kind == 10) (IndexCause dir at)
    (choice (kind == 11) (NumberCause dir)
    (choice (kind == 12) (Unit {0})
    (choice (kind == 13) (held.IsNoPost dir at)
    (choice (kind == 14) (IsNoCounter dir Tickets)
    (choice (kind == 15) (IsNoFile dir sets.List at)
    (choice (kind == 16) (IsNoFile dir sets.Digest at)
    (choice (kind == 17) (queue.IsNoEntry dir at)
    (choice (kind == 18) (IsNoCounter dir Ids)
    (choice (kind == 20) (ThreadCause dir at) ⊥))))))))))))))))

abbrev Cause : Dir → Name → Type 0
Cause dir name = CauseAt dir name.kind name.at

module _ (dir : Dir) (name : Name) where
  from : (that : Name) → name ≡ that → Cause dir that → Cause dir name
  from that e cause = subst (Cause dir) (sym e) cause

  of_bucket : (set : Set) (n : ℕ) → name ≡ bucket_name set n → IsNoBucket dir set n → Cause dir name
  of_bucket sets.List n e none = from (bucket_name sets.List n) e none
  of_bucket sets.Digest n e none = from (bucket_name sets.Digest n) e none
  of_bucket sets.Allow n e none = from (bucket_name sets.Allow n) e none
  of_bucket sets.Deny n e none = from (bucket_name sets.Deny n) e none
  of_bucket sets.Moderators n e none = from (bucket_name sets.Moderators n) e none

  of_count : (set : Set) → name ≡ count_name set → CountCause dir set → Cause dir name
  of_count sets.List e cause = from (count_name sets.List) e cause
  of_count sets.Digest e cause = from (count_name sets.Digest) e cause
  of_count sets.Allow e cause = from (count_name sets.Allow) e cause
  of_count sets.Deny e cause = from (count_name sets.Deny) e cause
  of_count sets.Moderators e cause = from (count_name sets.Moderators) e cause

  of_ledger : (set : Set) (n : ℕ) → IsTrue (has_ledger set) → name ≡ ledger_name (ledger_kind set) n → IsNoFile dir set n → Cause dir name
  of_ledger sets.List n has e none = from (ledger_name 15 n) e none
  of_ledger sets.Digest n has e none = from (ledger_name 16 n) e none
  of_ledger sets.Allow n has e none = absurd (let bad : false ≡ true = has in cc)
  of_ledger sets.Deny n has e none = absurd (let bad : false ≡ true = has in cc)
  of_ledger sets.Moderators n has e none = absurd (let bad : false ≡ true = has in cc)

  has_some : (k : Text) (ms : List Member) → has_key k ms ≡ true → 0 < length ms
  has_some k [] is = absurd (let bad : false ≡ true = is in cc)
  has_some k (m ∷ ms) is = omega arith

  of_unread : (set : Set) (k : Text) (has : Bool) → IsUnread dir set k has name → Cause dir name
  of_unread set k has (inl bad) = of_bucket set (bucket_of k) bad.0 bad.1
  of_unread set k false (inr (e, there, none)) = of_count set e (0, inl refl, none)
  of_unread set k true (inr (e, there, none)) = of_count set e (1, inr (refl, (bucket_of k, there.0, there.1, has_some k there.0 there.2)), none)

  of_number : name ≡ number_name → NumberCause dir → Cause dir name
  of_number e cause = from number_name e cause

  of_index : (g : ℕ) → name ≡ index_name g → IndexCause dir g → Cause dir name
  of_index g e cause = from (index_name g) e cause

  of_threads : (f : ℕ) → name ≡ thread_name f → ThreadCause dir f → Cause dir name
  of_threads f e cause = from (thread_name f) e cause

  of_post : (n : ℕ) → IsBadForPost dir n name → Cause dir name
  of_post n (inl (e, inl none)) = of_number e (inl none)
  of_post n (inl (e, inr lacks)) = of_number e (inr (inl (n, lacks)))
  of_post n (inr (e, inl none)) = of_index (n / 100) e (inl none)
  of_post n (inr (e, inr lacks)) = of_index (n / 100) e (inr (n, refl, lacks))

  of_range : (a b : ℕ) → IsBadForRange dir a b name → Cause dir name
  of_range a b (inl (e, inl none)) = of_number e (inl none)
  of_range a b (inl (e, inr lacks)) = of_number e (inr (inl (lacks.0, lacks.3)))
  of_range a b (inr bad) = of_index bad.0 bad.2 (inl bad.3)

  of_thread : (c : Config) (n : ℕ) → IsConfigFile (dir config_name) c → IsBadForThread dir c.prefix n name → Cause dir name
  of_thread c n file (inl (e, inl none)) = of_number e (inl none)
  of_thread c n file (inl (e, inr lacks)) = of_number e (inr (inl (n, lacks)))
  of_thread c n file (inr (inl bad)) = of_index bad.0 bad.2 (inl bad.3)
  of_thread c n file (inr (inr (inl bad))) = of_threads bad.0 bad.2 (inl bad.3)
  of_thread c n file (inr (inr (inr lacks))) = let e = lacks.named in of_threads _ e (inr (c, n, file, subst (LacksThread dir c.prefix n) e lacks))

  of_append : IsBadForAppend dir name → Cause dir name
  of_append (inl (e, inl none)) = of_number e (inl none)
  of_append (inl (e, inr other)) = of_number e (inr (inr other))
  of_append (inr (inl bad)) = of_index bad.0 bad.2 (inl bad.3)
  of_append (inr (inr bad)) = of_threads bad.0 bad.2 (inl bad.3)

  of_waiting : held.Breaks dir name → Cause dir name
  of_waiting (inl bad) = from held.tickets_name bad.0 bad.1
  of_waiting (inr bad) = from (held.post_name bad.0) bad.1 bad.2

  of_queued : queue.Breaks dir name → Cause dir name
  of_queued (inl bad) = from queue.ids_name bad.0 bad.1
  of_queued (inr bad) = from (queue.entry_name bad.0) bad.1 bad.2

  cause_of : IsDamaged dir name → Cause dir name
  cause_of (damage.keys e none) = from key_name e none
  cause_of (damage.bucket set bad) = of_bucket set bad.0 bad.2 bad.3
  cause_of (damage.count set e none) = of_count set e (0, inl refl, none)
  cause_of (damage.change set k has bad) = of_unread set k has bad
  cause_of (damage.ledger set has bad) = of_ledger set bad.0 has bad.2 bad.3
  cause_of (damage.queued bad) = of_queued bad
  cause_of (damage.waiting bad) = of_waiting bad
  cause_of (damage.mark e none) = from (record { kind = 12; at = 0 }) e tt
  cause_of (damage.ahead mark count e file counted over) = from (record { kind = 12; at = 0 }) e tt
  cause_of (damage.number e none) = of_number e (inl none)
  cause_of (damage.index group e none empty) = of_index group e (inl none)
  cause_of (damage.post n bad empty) = of_post n bad
  cause_of (damage.range a b bad empty) = of_range a b bad
  cause_of (damage.thread c n file bad empty) = of_thread c n file bad
  cause_of (damage.append bad empty) = of_append bad

-- what every entry has, the one that is found has
all_found : (P : Entry → Type 0) (n : ℕ) (es : List Entry) (e : Entry) → AllByRecursion P es → entry_at n es ≡ Some e → P e
all_found P n [] e all found = absurd (none_some e found)
all_found P n (f ∷ fs) e all found = go (f.number == n) found (all_found P n fs e all.1)
  where
    go : (t : Bool) → cond t (Some f) (entry_at n fs) ≡ Some e → (entry_at n fs ≡ Some e → P e) → P e
    go true is later = subst P (one_some f e is) all.0
    go false is later = later is

module _ (dir : Dir) where
  pub keys_agree : (keys : Keys) → IsKeyFile (dir key_name) keys → ¬ IsDamaged dir key_name
  keys_agree keys file bad = (cause_of dir key_name bad) keys file

  pub bucket_agrees : (set : Set) (n : ℕ) (ms : List Member) → IsBucketFile n (dir (bucket_name set n)) ms → ¬ IsDamaged dir (bucket_name set n)
  bucket_agrees sets.List n ms file bad = (cause_of dir (bucket_name sets.List n) bad) ms file
  bucket_agrees sets.Digest n ms file bad = (cause_of dir (bucket_name sets.Digest n) bad) ms file
  bucket_agrees sets.Allow n ms file bad = (cause_of dir (bucket_name sets.Allow n) bad) ms file
  bucket_agrees sets.Deny n ms file bad = (cause_of dir (bucket_name sets.Deny n) bad) ms file
  bucket_agrees sets.Moderators n ms file bad = (cause_of dir (bucket_name sets.Moderators n) bad) ms file

  counted : (set : Set) (count : ℕ) → count ≤ 100_000 → dir (count_name set) ≡ Some (count_text count) → ((n : ℕ) (ms : List Member) → IsBucketFile n (dir (bucket_name set n)) ms → length ms ≤ count) → ¬ CountCause dir set
  counted set count few file holds (least, inl none, lacks) = lacks count (omega (arith, none)) few file
  counted set count few file holds (least, inr (one, (n, ms, bucket, some)), lacks) = let fits = holds n ms bucket in lacks count (omega (arith, one, some, fits)) few file

  pub count_agrees : (set : Set) (count : ℕ) → count ≤ 100_000 → dir (count_name set) ≡ Some (count_text count) → ((n : ℕ) (ms : List Member) → IsBucketFile n (dir (bucket_name set n)) ms → length ms ≤ count) → ¬ IsDamaged dir (count_name set)
  count_agrees sets.List count few file holds bad = counted sets.List count few file holds (cause_of dir (count_name sets.List) bad)
  count_agrees sets.Digest count few file holds bad = counted sets.Digest count few file holds (cause_of dir (count_name sets.Digest) bad)
  count_agrees sets.Allow count few file holds bad = counted sets.Allow count few file holds (cause_of dir (count_name sets.Allow) bad)
  count_agrees sets.Deny count few file holds bad = counted sets.Deny count few file holds (cause_of dir (count_name sets.Deny) bad)
  count_agrees sets.Moderators count few file holds bad = counted sets.Moderators count few file holds (cause_of dir (count_name sets.Moderators) bad)

  pub post_agrees : (n : ℕ) → ¬ IsDamaged dir (post_name n)
  post_agrees n bad = cause_of dir (post_name n) bad

  pub index_agrees : (g : ℕ) (entries : List Entry) → IsIndexFile g (dir (index_name g)) entries → AllByRecursion (λ e. option_map length (dir (post_name e.number)) ≡ Some e.size) entries → ¬ IsDamaged dir (index_name g)
  index_agrees g entries file sizes bad = go (cause_of dir (index_name g) bad)
    where
      go : IndexCause dir g → ⊥
      go (inl none) = none entries file
      go (inr (n, group, lost)) =
          let index = subst (λ (k : ℕ). IsIndexFile k (dir (index_name k)) lost.entries) group lost.index in
          let found = ap (entry_at n) (sym (index_one g (dir (index_name g)) lost.entries entries index file)) ∙ lost.found in
          let size = all_found (λ (e : Entry). option_map length (dir (post_name e.number)) ≡ Some e.size) n entries lost.entry sizes found in
          lost.lacks (ap (λ (k : ℕ). option_map length (dir (post_name k))) (sym (entry_named n entries lost.entry found)) ∙ size)

  pub number_agrees : (count : ℕ) → IsNumberFile (dir number_name) count → ((n : ℕ) → 1 ≤ n → n ≤ count → ¬ HasNoEntry dir n) → ¬ HasOtherCount dir (count + 1) → ¬ IsDamaged dir number_name
  number_agrees count file each next bad = go (cause_of dir number_name bad)
    where
      go : NumberCause dir → ⊥
      go (inl none) = none count file
      go (inr (inl (n, lost))) =
          let one = count_one (dir number_name) lost.count count lost.counted file in
          let high = lost.high in
          each n lost.low (omega (arith, high, one)) (lost.entries, lost.index, lost.lacks)
      go (inr (inr (k, counted, other))) = next (subst (λ (k : ℕ). HasOtherCount dir (k + 1)) (count_one (dir number_name) k count counted file) other)

  pub held_agrees : (ticket : ℕ) (h : Held) → IsHeldFile (dir (held.post_name ticket)) h → ¬ IsDamaged dir (held.post_name ticket)
  held_agrees ticket h file bad = let cause = cause_of dir (held.post_name ticket) bad in cause.none h (record { is = file.is; spelled = one_some _ _ (sym cause.there ∙ file.spelled) })

  pub tickets_agree : (low next : ℕ) → IsCounter (dir held.tickets_name) low next → ¬ IsDamaged dir held.tickets_name
  tickets_agree low next file bad = (cause_of dir held.tickets_name bad) low next file

  pub ledger_agrees : (set : Set) (n : ℕ) (entries : Ledger) → IsTrue (has_ledger set) → IsLedgerFile n (dir (ledger_name (ledger_kind set) n)) entries → ¬ IsDamaged dir (ledger_name (ledger_kind set) n)
  ledger_agrees sets.List n entries has file bad = (cause_of dir (ledger_name 15 n) bad) entries file
  ledger_agrees sets.Digest n entries has file bad = (cause_of dir (ledger_name 16 n) bad) entries file
  ledger_agrees sets.Allow n entries has file bad = (let none : false ≡ true = has in cc)
  ledger_agrees sets.Deny n entries has file bad = (let none : false ≡ true = has in cc)
  ledger_agrees sets.Moderators n entries has file bad = (let none : false ≡ true = has in cc)

  pub entry_agrees : (id : ℕ) (out : Out) → IsOutFile (dir (queue.entry_name id)) out → ¬ IsDamaged dir (queue.entry_name id)
  entry_agrees id out file bad = let cause = cause_of dir (queue.entry_name id) bad in cause.none out (record { is = file.is; spelled = one_some _ _ (sym cause.there ∙ file.spelled) })

  pub ids_agree : (low next : ℕ) → IsCounter (dir queue.ids_name) low next → ¬ IsDamaged dir queue.ids_name
  ids_agree low next file bad = (cause_of dir queue.ids_name bad) low next file

  pub threads_agree : (f : ℕ) (threads : List Thread) → IsThreadFile f (dir (thread_name f)) threads
      → ((c : Config) (n : ℕ) (e : Entry) → IsConfigFile (dir config_name) c → IsEntryByFiles dir n e → thread_place (subject_key c.prefix e.subject) ≡ f → IsAmong (numbers_under (subject_key c.prefix e.subject) threads) n)
      → ((k : Text) (m : ℕ) → IsAmong (numbers_under k threads) m → ¬ HasNoEntry dir m) → ¬ IsDamaged dir (thread_name f)
  threads_agree f threads file under named bad = go (cause_of dir (thread_name f) bad)
    where
      at_of : Name → ℕ
      at_of name = name.at

      go : ThreadCause dir f → ⊥
      go (inl none) = none threads file
      go (inr (c, n, config, lost)) =
          let k = subject_key c.prefix (lost.entry).subject in
          let place : thread_place k ≡ f = sym (ap at_of lost.named) in
          let there = subst (λ (p : ℕ). IsThreadFile p (dir (thread_name p)) lost.threads) place lost.file in
          let one = threads_one f (dir (thread_name f)) lost.threads threads there file in
          elim lost.lacks [
            | inl lacks ↦ lacks (subst (λ (ts : List Thread). IsAmong (numbers_under k ts) n) (sym one) (under c n lost.entry config lost.found place))
            | inr (m, among, none) ↦ named k m (subst (λ (ts : List Thread). IsAmong (numbers_under k ts) m) one among) none
          ]

-- no act names the configuration, the floor or a file of kept replies
pub no_config : (dir : Dir) → ¬ IsDamaged dir config_name
no_config dir bad = cause_of dir config_name bad

pub no_floor : (dir : Dir) → ¬ IsDamaged dir floor_name
no_floor dir bad = cause_of dir floor_name bad

pub no_replies : (dir : Dir) (group : ℕ) → ¬ IsDamaged dir (replies_name group)
no_replies dir group bad = cause_of dir (replies_name group) bad
