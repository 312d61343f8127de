-- Which damaged files are the archive's, and for what they are damaged.
use Rattle.std.proofs.Common.{◌≡◌, ◌/◌, ◌∙◌, ⊎_elim, inl, inr, ℕ, true, false, ◌==◌, ◌<◌, nat_lt, List, IsTrue, IfErr, Result, refl, sym, ap, subst}
use Rattle.std.proofs.lemmas.Bool.{and_parts, eqb-true, false≢true, or_cases}
use Rattle.ml_base.specs.Address.{key}
use Rattle.ml_base.specs.Bytes.{Text}
use Rattle.ml_base.specs.Dir.{Dir, same_name}
use Rattle.ml_base.specs.Name.{set_kind}
use Rattle.ml_base.specs.PartErrors.{OnDamaged}
use Rattle.ml_base.specs.ReadFiles.{NamesDamaged}
use Rattle.ml_base.specs.declared.files.Files.{Ghosts}
use Rattle.ml_base.specs.declared.names.Name.{Name}
use Rattle.ml_base.specs.declared.names.Set.{Set}
use Rattle.ml_base.specs.declared.names.Set.TheVariants as sets
use Rattle.ml_base.specs.declared.part_error.PartError.{PartError}
use Rattle.ml_base.proofs.Bools.{one_name}
use Rattle.ml_base.proofs.DamagedNames.{err_damaged, err_both_damaged}
use Rattle.ml_filing.specs.Answers.{IsNoIndex, IsNoNumber}
use Rattle.ml_filing.specs.Archive.{ArePosts, index_name, number_name}
use Rattle.ml_filing.specs.declared.posts.Post.{Post}
use Rattle.ml_filing.specs.Threads.{is_of_archive}
use Rattle.ml_bounce.specs.Answers.{key_file}
use Rattle.ml_bounce.specs.Answers.{has_ledger}
use Rattle.ml_digest.specs.Due.{mark_name}
use Rattle.ml_queue.specs.Answers.{ids_name}
use Rattle.ml_subs.specs.Buckets.{bucket_of}
use Rattle.ml_subs.specs.Subscribers.{bucket_name}
use Rattle.ml_acts.specs.Asked.{Asked, Count, Group, Next, Undigested, IsBadFor, IsDamagedOf}
use Rattle.ml_acts.specs.Damaged.{AreNoPosts, IsDamaged}
use Rattle.ml_acts.specs.Damaged as damage
use Rattle.ml_acts.specs.Doing.{is_bucket, is_bucket_of, is_entry_of, is_mailed_by}
use Rattle.ml_acts.specs.Growing.{is_of_time}
use Rattle.ml_acts.proofs.Damages.{err_all}
use Rattle.ml_acts.proofs.Spelled.{counted_so, for_post, index_so, no_number}

-- files of sets and ledgers are none of the archive's
bucket_is : (set : Set) (n : ℕ) → is_of_archive (bucket_name set n) ≡ false
bucket_is sets.List n = refl
bucket_is sets.Digest n = refl
bucket_is sets.Allow n = refl
bucket_is sets.Deny n = refl
bucket_is sets.Moderators n = refl

set_is : (set : Set) (at : ℕ) → is_of_archive (record { kind = set_kind set; at = at }) ≡ false
set_is sets.List at = refl
set_is sets.Digest at = refl
set_is sets.Allow at = refl
set_is sets.Deny at = refl
set_is sets.Moderators at = refl

ledger_is : (set : Set) (k : Text) → is_of_archive (key_file set k) ≡ false
ledger_is sets.List k = refl
ledger_is sets.Digest k = refl
ledger_is sets.Allow k = refl
ledger_is sets.Deny k = refl
ledger_is sets.Moderators k = refl

module _ (name : Name) where
  -- a name that isn't the archive's
  pub other_name : (other : Name) → is_of_archive other ≡ false → name ≡ other → is_of_archive name ≡ true → ⊥
  other_name other none e of = false≢true (sym none ∙ ap is_of_archive (sym e) ∙ of)

  pub same_other : (other : Name) → is_of_archive other ≡ false → same_name name other ≡ true → is_of_archive name ≡ true → ⊥
  same_other other none e of = other_name other none (one_name name other e) of

  pub kind_other : (k : ℕ) → is_of_archive (record { kind = k; at = name.at }) ≡ false → (name.kind == k) ≡ true → is_of_archive name ≡ true → ⊥
  kind_other k none e of = false≢true (sym none ∙ ap (λ (n : ℕ). is_of_archive (record { kind = n; at = name.at })) (sym (eqb-true name.kind k e)) ∙ of)

  -- the bucket of an address, and all of a set
  pub bucket_other : (set : Set) (who : Text) → is_bucket_of set who name ≡ true → is_of_archive name ≡ true → ⊥
  bucket_other set who e of = let n = bucket_of (key who) in same_other (bucket_name set n) (bucket_is set n) e of

  pub buckets_other : (set : Set) → is_bucket set name ≡ true → is_of_archive name ≡ true → ⊥
  buckets_other set e of = kind_other (set_kind set) (set_is set name.at) (and_parts (name.kind == set_kind set) (nat_lt name.at 53) e).0 of

  -- the file of an address in a ledger
  pub entry_other : (set : Set) (who : Text) → is_entry_of set who name ≡ true → is_of_archive name ≡ true → ⊥
  entry_other set who e of = same_other (key_file set (key who)) (ledger_is set (key who)) (and_parts (has_ledger set) (same_name name (key_file set (key who))) e).1 of

  -- the counter of ids, and what a mail to a set needs
  pub ids_other : same_name name ids_name ≡ true → is_of_archive name ≡ true → ⊥
  ids_other e of = same_other ids_name refl e of

  pub mailed_other : (set : Set) → is_mailed_by set name ≡ true → is_of_archive name ≡ true → ⊥
  mailed_other set e of = ⊎_elim (λ a. buckets_other set a of) (λ b. ids_other b of) (or_cases (is_bucket set name) (same_name name ids_name) e)

-- the number of posts outside its grammar, whatever asks how many there are
pub count_next : (dir : Dir) (k : Text) (name : Name) → IsBadFor dir Count name → IsBadFor dir (Next k) name
count_next dir k name bad = (inl bad.0, inl (bad.0, inl bad.1))

pub asked_as : (dir : Dir) (few more : Asked) (name : Name) → (IsBadFor dir few name → IsBadFor dir more name) → IsDamagedOf dir few name → IsDamagedOf dir more name
asked_as dir few more name f bad = record { damaged = bad.damaged; own = λ of. f (bad.own of) }

-- the posts after the mark, if the mark and the archive are what they were
pub undigested_before : (later dir : Dir) → ((name : Name) → is_of_time name ≡ false → later name ≡ dir name) → later mark_name ≡ dir mark_name → (name : Name) → IsBadFor later Undigested name → IsBadFor dir Undigested name
undigested_before later dir same marked name (inl (e, inl none)) = inl (e, inl (no_number later dir same none))
undigested_before later dir same marked name (inl (e, inr (count, counted, entries, index, above))) =
    inl (e, inr (count, counted_so later dir same count counted, entries, index_so later dir same (count / 100) entries index, above))
undigested_before later dir same marked name (inr (mark, is, count, counted, post)) =
    inr (mark, record { last = is.last; issue = is.issue; text = sym marked ∙ is.text }, count, counted_so later dir same count counted, (post.0, post.1, post.2, for_post later dir same post.0 name post.3))

module _ {F T : Type 0} (ghosts : Ghosts F) (May : Name → Type 0) (r : Result T PartError) (dir : Dir) where
  -- what a call names, said in other terms, and of files that are what they were
  pub named_as : (later : Dir) (Few : Name → Type 0) (Bad : Dir → Name → Type 0) (Worse : Name → Type 0) → (IsTrue ghosts.tells → later ≡ dir) → ((name : Name) → Few name → May name) → ((name : Name) → Few name → Bad dir name → Worse name)
      → NamesDamaged ghosts Few (Bad later) r → NamesDamaged ghosts May Worse r
  named_as later Few Bad Worse same may worse is = record {
    named = err_damaged r Few May may is.named;
    damaged = λ t. err_both_damaged r Few (Bad dir) Worse worse is.named (subst (λ (d : Dir). IfErr r (λ e. OnDamaged e (Bad d))) (same t) (is.damaged t));
  }

  -- a call that names no file of the archive, whatever is asked
  pub named_beside : (later : Dir) (asked : Asked) (Few : Name → Type 0) → (IsTrue ghosts.tells → later ≡ dir) → ((name : Name) → Few name → May name) → ((name : Name) → Few name → is_of_archive name ≡ true → ⊥)
      → NamesDamaged ghosts Few (IsDamaged later) r → NamesDamaged ghosts May (IsDamagedOf dir asked) r
  named_beside later asked Few same may beside is = named_as later Few IsDamaged (IsDamagedOf dir asked) same may (λ name few bad. record { damaged = bad; own = λ of. absurd (beside name few of) }) is

  -- the number of posts
  pub count_named : May number_name → NamesDamaged ghosts (λ name. name ≡ number_name) (λ _. IsNoNumber dir) r → NamesDamaged ghosts May (IsDamagedOf dir Count) r
  count_named may is =
      named_as dir (λ name. name ≡ number_name) (λ d _. IsNoNumber d) (IsDamagedOf dir Count) (λ t. refl) (λ name e. subst May (sym e) may) (λ name e none. record { damaged = damage.number e none; own = λ of. (e, none) }) is

  -- the index of a group
  pub group_named : (group : ℕ) → ((name : Name) → group < 1_000_000 → name ≡ index_name group → May name) → (IsTrue ghosts.tells → (posts : List Post) → ArePosts dir posts → IfErr r (λ e. OnDamaged e (λ _. ⊥)))
      → IfErr r (λ e. OnDamaged e (λ _. group < 1_000_000)) → NamesDamaged ghosts (λ name. name ≡ index_name group) (λ _. IsNoIndex dir group) r → NamesDamaged ghosts May (IsDamagedOf dir (Group group)) r
  group_named group may sound table is = record {
    named = err_both_damaged r (λ _. group < 1_000_000) (λ name. name ≡ index_name group) May may table is.named;
    damaged = λ t.
        err_both_damaged r (λ name. name ≡ index_name group) (λ _. IsNoIndex dir group × AreNoPosts dir) (IsDamagedOf dir (Group group)) (λ name e no. record { damaged = damage.index group e no.0 no.1; own = λ of. (e, no.0) }) is.named
        (err_both_damaged r (λ _. IsNoIndex dir group) (λ _. AreNoPosts dir) (λ _. IsNoIndex dir group × AreNoPosts dir) (λ name no none. (no, none)) (is.damaged t) (err_all r (ArePosts dir) (sound t)));
  }
