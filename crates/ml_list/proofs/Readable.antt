-- What a delivery and a timed run read is in the table, and is one of the files that acts may name.
use Rattle.std.proofs.Common.{◌≡◌, ⊎_elim, ◌<◌, ◌≤◌, ◌/◌, ℕ, Bool, true, false, eqb, leb, nat_lt, ◌&&◌, ◌||◌, Option, Some, None, refl, ap, ◌∙◌, arith}
use Rattle.std.specs.Prelude.{not, unwrap_or}
use Rattle.std.proofs.lemmas.Bool.{and_from, and_parts, eqb-true, le-leb, leb-true, ltb-true, or_cases}
use Rattle.std.proofs.lemmas.Nat.{mod_below}
use Rattle.ml_base.specs.Address.{address_of, key}
use Rattle.ml_base.specs.Bytes.{Text}
use Rattle.ml_base.specs.Dir.{same_name}
use Rattle.ml_base.specs.Hash.{hash_of}
use Rattle.ml_base.specs.Ranges.{is_drawn}
use Rattle.ml_base.specs.declared.names.Name.{Name}
use Rattle.ml_base.specs.declared.names.Set.{Set}
use Rattle.ml_base.specs.declared.names.Set.TheVariants as sets
use Rattle.ml_base.proofs.Bools.{one_name}
use Rattle.ml_address.specs.Requests.{PlainRequest, Post, Help, Other, Owner, Subscribe, Unsubscribe, Confirm, Members, Get, Index, Thread, Accept, Reject, Bounce, WarnBounce, ProbeBounce, ReplyBounce}
use Rattle.ml_address.specs.declared.Word.{Word}
use Rattle.ml_address.specs.declared.Word.TheVariants as words
use Rattle.ml_filing.specs.Archive.{index_name, number_name}
use Rattle.ml_bounce.specs.Answers.{has_ledger, key_file}
use Rattle.ml_bounce.specs.Files.{bucket_of}
use Rattle.ml_config.specs.KeyFile.{key_name}
use Rattle.ml_config.specs.declared.configuration.Config.{Config}
use Rattle.ml_digest.specs.Due.{mark_name}
use Rattle.ml_hold.specs.Answers.{post_name, tickets_name}
use Rattle.ml_queue.specs.Answers.{ids_name}
use Rattle.ml_subs.specs.Subscribers.{bucket_name, count_name, is_touched}
use Rattle.ml_subs.proofs.Represented.{below_53}
use Rattle.ml_plain.specs.Bouncing.{address_named}
use Rattle.ml_acts.specs.Doing.{is_bucket, is_bucket_of, is_entry_of, is_held_post, is_index, is_mailed_by, is_thread_file}
use Rattle.ml_joining.specs.Operations.{asked_of}
use Rattle.ml_joining.specs.Reads.{asks_rank, is_for_mail, is_read_to_confirm, is_read_to_join, is_read_to_leave}
use Rattle.ml_manage.specs.Reads.{is_asked_of, is_counted_in, is_of_bounce, is_of_index, is_of_members, is_of_posts, is_of_probe, is_of_range, is_of_reader, is_of_signed, is_of_thread, is_of_warning, is_read_for, is_read_for_sender}
use Rattle.ml_post.specs.Answering.{is_answered_by, is_followed_by, is_taken_by}
use Rattle.ml_post.specs.Holding.{is_asked_by, is_held_by}
use Rattle.ml_post.specs.Judging.{is_judged_by, is_of_user}
use Rattle.ml_post.specs.Posting.{is_posted_by}
use Rattle.ml_post.specs.Publishing.{is_published_by}
use Rattle.ml_timed.specs.Reads.{is_followed_by as is_followed_in, is_ledger, is_of_digesting, is_of_following, is_of_giving_back, is_of_issue, is_of_posts_told, is_of_progress, is_of_timed, is_waiting}
use Rattle.ml_list.specs.Reads.{is_of_acts}

-- one of two tests holds
either : (a b : Bool) {P : Type 0} → (a ≡ true → P) → (b ≡ true → P) → (a || b) ≡ true → P
either a b f g e = ⊎_elim f g (or_cases a b e)

-- the name of a file that acts read
abbrev Acts : Name → Type 0
Acts name = is_of_acts name ≡ true

same : (name other : Name) → Acts other → same_name name other ≡ true → Acts name
same name other there e = ap is_of_acts (one_name name other e) ∙ there

-- a place of a kind
at_place : (kind at first last : ℕ) → is_of_acts (record { kind = kind; at = at }) ≡ ((leb first at && leb at last) && true) → first ≤ at → at ≤ last → Acts (record { kind = kind; at = at })
at_place kind at first last is least most = is ∙ and_from (leb first at && leb at last) true (and_from (leb first at) (leb at last) (le-leb first at least) (le-leb at last most)) refl

of_kind : (name : Name) (kind : ℕ) → Acts (record { kind = kind; at = name.at }) → eqb name.kind kind ≡ true → Acts name
of_kind name kind there e = ap (λ (k : ℕ). is_of_acts (record { kind = k; at = name.at })) (eqb-true name.kind kind e) ∙ there

bucket_at : (set : Set) (n : ℕ) → n < 53 → Acts (bucket_name set n)
bucket_at sets.List n low = at_place 3 n 0 52 refl (omega arith) (omega (arith, low))
bucket_at sets.Digest n low = at_place 4 n 0 52 refl (omega arith) (omega (arith, low))
bucket_at sets.Allow n low = at_place 5 n 0 52 refl (omega arith) (omega (arith, low))
bucket_at sets.Deny n low = at_place 6 n 0 52 refl (omega arith) (omega (arith, low))
bucket_at sets.Moderators n low = at_place 7 n 0 52 refl (omega arith) (omega (arith, low))

count_at : (set : Set) → Acts (count_name set)
count_at sets.List = refl
count_at sets.Digest = refl
count_at sets.Allow = refl
count_at sets.Deny = refl
count_at sets.Moderators = refl

entry_at : (set : Set) (k : Text) → has_ledger set ≡ true → Acts (key_file set k)
entry_at sets.List k has = at_place 15 (bucket_of k) 0 52 refl (omega arith) (let low = mod_below (hash_of k) 53 (omega arith) in omega (arith, low))
entry_at sets.Digest k has = at_place 16 (bucket_of k) 0 52 refl (omega arith) (let low = mod_below (hash_of k) 53 (omega arith) in omega (arith, low))
entry_at sets.Allow k has = absurd (let bad : false ≡ true = has in cc)
entry_at sets.Deny k has = absurd (let bad : false ≡ true = has in cc)
entry_at sets.Moderators k has = absurd (let bad : false ≡ true = has in cc)

module _ (name : Name) where
  of_ids : same_name name ids_name ≡ true → Acts name
  of_ids e = same name ids_name refl e

  of_tickets : same_name name tickets_name ≡ true → Acts name
  of_tickets e = same name tickets_name refl e

  of_key : same_name name key_name ≡ true → Acts name
  of_key e = same name key_name refl e

  of_number : same_name name number_name ≡ true → Acts name
  of_number e = same name number_name refl e

  of_mark : same_name name mark_name ≡ true → Acts name
  of_mark e = same name mark_name refl e

  -- the counters that are read first
  pub of_worn : (same_name name ids_name || same_name name tickets_name) ≡ true → is_of_acts name ≡ true
  of_worn e = either (same_name name ids_name) (same_name name tickets_name) of_ids of_tickets e

  of_bucket_of : (set : Set) (who : Text) → is_bucket_of set who name ≡ true → Acts name
  of_bucket_of set who e = same name (bucket_name set (bucket_of (key who))) (bucket_at set (bucket_of (key who)) (below_53 (key who))) e

  of_bucket : (set : Set) → is_bucket set name ≡ true → Acts name
  of_bucket set e = go set (and_parts (eqb name.kind (kind_of set)) (nat_lt name.at 53) e)
    where
      kind_of : Set → ℕ
      kind_of set = (bucket_name set 0).kind

      go : (set : Set) → (eqb name.kind (kind_of set) ≡ true) × (nat_lt name.at 53 ≡ true) → Acts name
      go set parts = of_kind name (kind_of set) (bucket_at set name.at (ltb-true name.at 53 parts.1)) parts.0

  of_touched : (set : Set) (k : Text) → is_touched set k name ≡ true → Acts name
  of_touched set k e =
      either (same_name name (bucket_name set (bucket_of k))) (same_name name (count_name set)) (λ b. same name (bucket_name set (bucket_of k)) (bucket_at set (bucket_of k) (below_53 k)) b) (λ c. same name (count_name set) (count_at set) c) e

  of_entry : (set : Set) (who : Text) → is_entry_of set who name ≡ true → Acts name
  of_entry set who e = let parts = and_parts (has_ledger set) (same_name name (key_file set (key who))) e in same name (key_file set (key who)) (entry_at set (key who) parts.0) parts.1

  of_index : is_index name ≡ true → Acts name
  of_index e =
      let parts = and_parts (eqb name.kind 10) (nat_lt name.at 1_000_000) e in
      let low = ltb-true name.at 1_000_000 parts.1 in
      of_kind name 10 (at_place 10 name.at 0 999_999 refl (omega arith) (omega (arith, low))) parts.0

  of_threads : is_thread_file name ≡ true → Acts name
  of_threads e =
      let parts = and_parts (eqb name.kind 20) (nat_lt name.at 256) e in
      let low = ltb-true name.at 256 parts.1 in
      of_kind name 20 (at_place 20 name.at 0 255 refl (omega arith) (omega (arith, low))) parts.0

  drawn_at : (n : ℕ) → is_drawn n ≡ true → Acts (post_name n)
  drawn_at n drawn =
      let parts = and_parts (leb 1 n) (leb n 1_000_000_000_000_000) drawn in
      at_place 13 n 1 1_000_000_000_000_000 refl (leb-true 1 n parts.0) (leb-true n 1_000_000_000_000_000 parts.1)

  of_held_post : is_held_post name ≡ true → Acts name
  of_held_post e = let parts = and_parts (eqb name.kind 13) (is_drawn name.at) e in of_kind name 13 (drawn_at name.at parts.1) parts.0

  of_mailed : (set : Set) → is_mailed_by set name ≡ true → Acts name
  of_mailed set e = either (is_bucket set name) (same_name name ids_name) (of_bucket set) of_ids e

  -- posts
  of_published : is_published_by name ≡ true → Acts name
  of_published e =
      let mailed = is_mailed_by sets.List name in
      let number = same_name name number_name in
      either (mailed || number || is_index name) (is_thread_file name) (λ a. either (mailed || number) (is_index name) (λ b. either mailed number (of_mailed sets.List) of_number b) of_index a) of_threads e

  of_asked : is_asked_by name ≡ true → Acts name
  of_asked e = either (same_name name key_name) (is_mailed_by sets.Moderators name) of_key (of_mailed sets.Moderators) e

  of_held : is_held_by name ≡ true → Acts name
  of_held e = either (same_name name tickets_name) (is_asked_by name) of_tickets of_asked e

  of_user : (who : Text) → is_of_user who name ≡ true → Acts name
  of_user who e =
      let list = is_bucket_of sets.List who name in
      let digest = is_bucket_of sets.Digest who name in
      let allow = is_bucket_of sets.Allow who name in
      either (list || digest || allow) (is_bucket_of sets.Moderators who name)
      (λ a. either (list || digest) allow (λ b. either list digest (of_bucket_of sets.List who) (of_bucket_of sets.Digest who) b) (of_bucket_of sets.Allow who) a) (of_bucket_of sets.Moderators who) e

  of_judged : (c : Config) (sender : Text) → is_judged_by c sender name ≡ true → Acts name
  of_judged c sender e =
      let denied = c.flags.k && is_bucket_of sets.Deny sender name in
      let user = c.flags.u && is_of_user sender name in
      either (denied || user) (not c.flags.m && same_name name number_name)
      (λ a. either denied user (λ b. of_bucket_of sets.Deny sender (and_parts c.flags.k (is_bucket_of sets.Deny sender name) b).1) (λ b. of_user sender (and_parts c.flags.u (is_of_user sender name) b).1) a) (λ a. of_number (and_parts (not c.flags.m) (same_name name number_name) a).1) e

  pub of_posted : (c : Config) (sender : Text) → is_posted_by c sender name ≡ true → is_of_acts name ≡ true
  of_posted c sender e =
      let held = c.flags.m && is_held_by name in
      either (is_judged_by c sender name || held) (not c.flags.m && is_published_by name)
      (λ a. either (is_judged_by c sender name) held (of_judged c sender) (λ b. of_held (and_parts c.flags.m (is_held_by name) b).1) a) (λ a. of_published (and_parts (not c.flags.m) (is_published_by name) a).1) e

  -- moderators' answers
  of_taken : (ticket : ℕ) → is_taken_by ticket name ≡ true → Acts name
  of_taken ticket e =
      let own = is_drawn ticket && same_name name (post_name ticket) in
      either own (same_name name tickets_name) (λ a. let parts = and_parts (is_drawn ticket) (same_name name (post_name ticket)) a in same name (post_name ticket) (drawn_at ticket parts.0) parts.1) of_tickets e

  of_followed : (ticket : ℕ) (accept : Bool) → is_followed_by ticket accept name ≡ true → Acts name
  of_followed ticket true e = either (is_published_by name) (is_taken_by ticket name) of_published (of_taken ticket) e
  of_followed ticket false e = either (is_taken_by ticket name) (same_name name ids_name) (of_taken ticket) of_ids e

  pub of_answered : (ticket : ℕ) (accept : Bool) → is_answered_by ticket accept name ≡ true → is_of_acts name ≡ true
  of_answered ticket accept e = either (same_name name key_name) (is_followed_by ticket accept name) of_key (of_followed ticket accept) e

  -- bounces
  of_counted : (set : Set) → is_counted_in set name ≡ true → Acts name
  of_counted sets.List e = of_number e
  of_counted sets.Digest e = of_mark e
  of_counted sets.Allow e = of_number e
  of_counted sets.Deny e = of_number e
  of_counted sets.Moderators e = of_number e

  of_bounce : (set : Set) (x : Text) → is_of_bounce set x name ≡ true → Acts name
  of_bounce set x e =
      let own = is_bucket_of set x name in
      let counted = is_counted_in set name in
      either (own || counted) (is_entry_of set x name) (λ a. either own counted (of_bucket_of set x) (of_counted set) a) (of_entry set x) e

  of_signed : (set : Set) (x : Text) → is_of_signed set x name ≡ true → Acts name
  of_signed set x e = either (is_bucket_of set x name) (same_name name key_name) (of_bucket_of set x) of_key e

  of_warning : (set : Set) (x : Text) → is_of_warning set x name ≡ true → Acts name
  of_warning set x e = either (is_of_signed set x name) (is_entry_of set x name) (of_signed set x) (of_entry set x) e

  of_probe : (set : Set) (x : Text) → is_of_probe set x name ≡ true → Acts name
  of_probe set x e =
      let signed = is_of_signed set x name in
      let touched = is_touched set (key x) name in
      either (signed || touched) (is_entry_of set x name) (λ a. either signed touched (of_signed set x) (of_touched set (key x)) a) (of_entry set x) e

  -- requests
  of_mail : is_for_mail name ≡ true → Acts name
  of_mail e = either (same_name name key_name) (same_name name ids_name) of_key of_ids e

  to_join : (set : Set) (who : Text) → is_read_to_join set who name ≡ true → Acts name
  to_join set who e =
      let touched = is_touched set (key who) name in
      either (touched || is_for_mail name) (is_bucket sets.Moderators name) (λ a. either touched (is_for_mail name) (of_touched set (key who)) of_mail a) (of_bucket sets.Moderators) e

  to_leave : (set : Set) (who : Text) → is_read_to_leave set who name ≡ true → Acts name
  to_leave set who e =
      let touched = is_touched set (key who) name in
      let entry = is_entry_of set who name in
      either (touched || entry) (is_for_mail name) (λ a. either touched entry (of_touched set (key who)) (of_entry set who) a) of_mail e

  -- whether the sender is a moderator, if it is looked at, and what else is read
  ranked : (asks : Bool) (sender : Text) (more : Bool) → (more ≡ true → Acts name) → ((asks && is_bucket_of sets.Moderators sender name) || more) ≡ true → Acts name
  ranked asks sender more of_more e =
      either (asks && is_bucket_of sets.Moderators sender name) more (λ a. of_bucket_of sets.Moderators sender (and_parts asks (is_bucket_of sets.Moderators sender name) a).1) of_more e

  to_confirm : (word : Word) (set : Set) (who : Text) → is_read_to_confirm word set who name ≡ true → Acts name
  to_confirm words.Uc set who e = to_leave set who e
  to_confirm words.Sc set who e = to_join set who e
  to_confirm words.Tc set who e = to_join set who e

  of_members : (c : Config) (sender : Text) (set : Set) → is_of_members c sender set name ≡ true → Acts name
  of_members c sender set e =
      let rank = c.flags.l && is_bucket_of sets.Moderators sender name in
      either (rank || is_bucket set name) (same_name name ids_name) (λ a. ranked c.flags.l sender (is_bucket set name) (of_bucket set) a) of_ids e

  of_reader : (c : Config) (sender : Text) → is_of_reader c sender name ≡ true → Acts name
  of_reader c sender e =
      let list = is_bucket_of sets.List sender name in
      let digest = is_bucket_of sets.Digest sender name in
      either (is_bucket_of sets.Moderators sender name) (c.flags.g && (list || digest)) (of_bucket_of sets.Moderators sender)
      (λ a. either list digest (of_bucket_of sets.List sender) (of_bucket_of sets.Digest sender) (and_parts c.flags.g (list || digest) a).1) e

  of_range : is_of_range name ≡ true → Acts name
  of_range e = either (is_index name) (same_name name number_name) of_index of_number e

  of_posts : (a b : ℕ) → is_of_posts a b name ≡ true → Acts name
  of_posts a b e =
      let within = leb (a / 100) name.at && leb name.at (b / 100) in
      either (is_index name && within) (same_name name number_name) (λ i. of_index (and_parts (is_index name) within i).0) of_number e

  of_thread : is_of_thread name ≡ true → Acts name
  of_thread e = either (is_of_range name) (is_thread_file name) of_range of_threads e

  of_group : (at : ℕ) → is_of_index at name ≡ true → Acts name
  of_group at e =
      let parts = and_parts (nat_lt (at / 100) 1_000_000) (same_name name (index_name (at / 100))) e in
      let low = ltb-true (at / 100) 1_000_000 parts.0 in
      same name (index_name (at / 100)) (at_place 10 (at / 100) 0 999_999 refl (omega arith) (omega (arith, low))) parts.1

  -- what is read of the archive for a reader
  read_by : (c : Config) (sender : Text) (more : Bool) → (more ≡ true → Acts name) → (is_of_reader c sender name || more || same_name name ids_name) ≡ true → Acts name
  read_by c sender more of_more e =
      either (is_of_reader c sender name || more) (same_name name ids_name) (λ a. either (is_of_reader c sender name) more (of_reader c sender) of_more a) of_ids e

  asked : (c : Config) (sender : Text) (request : PlainRequest) → is_asked_of c sender request name ≡ true → Acts name
  asked c sender (Subscribe set who) e = ranked (asks_rank c) sender (is_read_to_join set (asked_of sender who) name) (to_join set (asked_of sender who)) e
  asked c sender (Unsubscribe set who) e = ranked c.flags.r sender (is_read_to_leave set (asked_of sender who) name) (to_leave set (asked_of sender who)) e
  asked c sender (Confirm word set s) e = to_confirm word set (address_named s.who) e
  asked c sender (Members set) e = of_members c sender set e
  asked c sender (Get from to) e = read_by c sender (is_of_posts from (unwrap_or to from) name) (of_posts from (unwrap_or to from)) e
  asked c sender (Index at) e = read_by c sender (is_of_index at name) (of_group at) e
  asked c sender (Thread at) e = read_by c sender (is_of_thread name) of_thread e
  asked c sender Post e = of_ids e
  asked c sender Help e = of_ids e
  asked c sender Other e = of_ids e
  asked c sender Owner e = of_ids e
  asked c sender (Accept ticket cookie) e = of_ids e
  asked c sender (Reject ticket cookie) e = of_ids e
  asked c sender (Bounce set number who) e = of_ids e
  asked c sender (WarnBounce set s) e = of_ids e
  asked c sender (ProbeBounce set s) e = of_ids e
  asked c sender (ReplyBounce set) e = of_ids e

  asked_by : (c : Config) (sender : Option Text) (request : PlainRequest) → is_read_for c sender request name ≡ true → Acts name
  asked_by c None request e = absurd (let bad : false ≡ true = e in cc)
  asked_by c (Some who) request e = asked c who request e

  pub of_managed : (c : Config) (sender : Text) (request : PlainRequest) → is_read_for_sender c sender request name ≡ true → is_of_acts name ≡ true
  of_managed c sender (Bounce set number who) e = of_bounce set (address_named who) e
  of_managed c sender (WarnBounce set s) e = of_warning set (address_named s.who) e
  of_managed c sender (ProbeBounce set s) e = of_probe set (address_named s.who) e
  of_managed c sender (ReplyBounce set) e = absurd (let bad : false ≡ true = e in cc)
  of_managed c sender Owner e = of_ids e
  of_managed c sender (Subscribe set who) e = asked_by c (address_of sender) (Subscribe set who) e
  of_managed c sender (Unsubscribe set who) e = asked_by c (address_of sender) (Unsubscribe set who) e
  of_managed c sender (Confirm word set s) e = asked_by c (address_of sender) (Confirm word set s) e
  of_managed c sender (Members set) e = asked_by c (address_of sender) (Members set) e
  of_managed c sender (Get from to) e = asked_by c (address_of sender) (Get from to) e
  of_managed c sender (Index at) e = asked_by c (address_of sender) (Index at) e
  of_managed c sender (Thread at) e = asked_by c (address_of sender) (Thread at) e
  of_managed c sender Post e = asked_by c (address_of sender) Post e
  of_managed c sender Help e = asked_by c (address_of sender) Help e
  of_managed c sender Other e = asked_by c (address_of sender) Other e
  of_managed c sender (Accept ticket cookie) e = asked_by c (address_of sender) (Accept ticket cookie) e
  of_managed c sender (Reject ticket cookie) e = asked_by c (address_of sender) (Reject ticket cookie) e

  -- timed runs
  of_ledger : (set : Set) → has_ledger set ≡ true → is_ledger set name ≡ true → Acts name
  of_ledger sets.List has e = in_ledger 15 e (λ n low. at_place 15 n 0 52 refl (omega arith) (omega (arith, low)))
    where
      in_ledger : (kind : ℕ) → (eqb name.kind kind && nat_lt name.at 53) ≡ true → ((n : ℕ) → n < 53 → Acts (record { kind = kind; at = n })) → Acts name
      in_ledger kind e there = let parts = and_parts (eqb name.kind kind) (nat_lt name.at 53) e in of_kind name kind (there name.at (ltb-true name.at 53 parts.1)) parts.0
  of_ledger sets.Digest has e = in_ledger 16 e (λ n low. at_place 16 n 0 52 refl (omega arith) (omega (arith, low)))
    where
      in_ledger : (kind : ℕ) → (eqb name.kind kind && nat_lt name.at 53) ≡ true → ((n : ℕ) → n < 53 → Acts (record { kind = kind; at = n })) → Acts name
      in_ledger kind e there = let parts = and_parts (eqb name.kind kind) (nat_lt name.at 53) e in of_kind name kind (there name.at (ltb-true name.at 53 parts.1)) parts.0
  of_ledger sets.Allow has e = absurd (let bad : false ≡ true = has in cc)
  of_ledger sets.Deny has e = absurd (let bad : false ≡ true = has in cc)
  of_ledger sets.Moderators has e = absurd (let bad : false ≡ true = has in cc)

  of_due : (set : Set) → has_ledger set ≡ true → is_followed_in set name ≡ true → Acts name
  of_due set has e =
      either (is_ledger set name || is_bucket set name) (same_name name ids_name) (λ a. either (is_ledger set name) (is_bucket set name) (of_ledger set has) (of_bucket set) a) of_ids e

  of_following : is_of_following name ≡ true → Acts name
  of_following e =
      let list = is_followed_in sets.List name in
      let digest = is_followed_in sets.Digest name in
      either (same_name name key_name || list) digest (λ a. either (same_name name key_name) list of_key (of_due sets.List refl) a) (of_due sets.Digest refl) e

  of_giving_back : is_of_giving_back name ≡ true → Acts name
  of_giving_back e = either (is_waiting name) (same_name name ids_name) (λ a. either (is_held_post name) (same_name name tickets_name) of_held_post of_tickets a) of_ids e

  of_digesting : is_of_digesting name ≡ true → Acts name
  of_digesting e =
      let progress = is_of_progress name in
      let told = is_of_posts_told name in
      either (progress || told) (is_of_issue name)
      (λ a. either progress told (λ b. either (same_name name mark_name) (same_name name number_name) of_mark of_number b) (λ b. either (same_name name number_name) (is_index name) of_number of_index b) a)
      (λ a. either (is_bucket sets.Digest name) (same_name name ids_name) (of_bucket sets.Digest) of_ids a) e

  pub of_timed : is_of_timed true name ≡ true → is_of_acts name ≡ true
  of_timed e =
      let back = is_of_giving_back name in
      let digesting = is_of_digesting name in
      either (back || digesting) (is_of_following name) (λ a. either back digesting of_giving_back of_digesting a) of_following e
