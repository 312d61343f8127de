-- No file that a request looks at is damaged in a directory that has, of these files, those that a list has.
use Rattle.std.proofs.Common.{◌≡◌, ◌⊎◌, inl, inr, ◌<◌, ◌&&◌, ◌||◌, ◌∙◌, IsTrue, IfErr, Bool, true, false, length, Option, Result, sym, ap, subst, arith}
use Rattle.std.proofs.lemmas.Bool.{and_parts, or_cases}
use Rattle.std.proofs.lemmas.Nat.{mod_below}
use Rattle.ml_base.specs.Address.{key}
use Rattle.ml_base.specs.Bytes.{Text}
use Rattle.ml_base.specs.Dir.{Dir, same_name}
use Rattle.ml_base.specs.Hash.{hash_of}
use Rattle.ml_base.specs.PartErrors.{OnDamaged}
use Rattle.ml_base.specs.ReadFiles.{NamesDamaged}
use Rattle.ml_base.specs.declared.files.Files.{Ghosts}
use Rattle.ml_base.specs.declared.names.Name.{Name}
use Rattle.ml_base.specs.declared.names.Set.{Set}
use Rattle.ml_base.specs.declared.names.Set.TheVariants as sets
use Rattle.ml_base.specs.declared.part_error.PartError.{PartError}
use Rattle.ml_base.proofs.Bools.{one_name}
use Rattle.ml_base.proofs.DamagedNames.{err_both_damaged, err_damaged}
use Rattle.ml_bounce.specs.Answers.{has_ledger, key_file}
use Rattle.ml_bounce.specs.Files.{IsLedgerFile, bucket_of}
use Rattle.ml_config.specs.KeyFile.{key_name}
use Rattle.ml_config.specs.declared.configuration.Config.{Config}
use Rattle.ml_digest.specs.Due.{IsNoMark, mark_name}
use Rattle.ml_filing.specs.Archive.{IsNumberFile, number_name}
use Rattle.ml_filing.specs.Threads.{is_of_archive}
use Rattle.ml_plain.specs.Directory.{IsList}
use Rattle.ml_plain.specs.Plain.{Plain}
use Rattle.ml_queue.specs.Answers.{ids_name}
use Rattle.ml_acts.specs.Asked.{Asked, Count, IsDamagedOf}
use Rattle.ml_acts.specs.Damaged.{IsDamaged}
use Rattle.ml_acts.specs.Doing.{Alike, is_bucket, is_bucket_of, is_entry_of}
use Rattle.ml_acts.proofs.Agreeing.{ledger_agrees}
use Rattle.ml_acts.proofs.Spared.{bucket_spared, buckets_spared, ids_spared, keys_spared}
use Rattle.ml_joining.specs.Damaged.{IsDamagedAmong}
use Rattle.ml_manage.specs.Reads.{is_of_members, is_of_reader, is_of_signed, is_of_warning}

-- a call that names no file of these names none
pub none_named : {F T : Type 0} (ghosts : Ghosts F) (r : Result T PartError) (May Bad : Name → Type 0) → IsTrue ghosts.tells → ((name : Name) → May name → Bad name → ⊥) → NamesDamaged ghosts May Bad r → IfErr r (λ e. OnDamaged e (λ _. ⊥))
none_named ghosts r May Bad t none is = err_both_damaged r May Bad (λ _. ⊥) none is.named (is.damaged t)

-- the same of files that were kept
pub none_after : {F T : Type 0} (ghosts : Ghosts F) (r : Result T PartError) (May : Name → Type 0) (Bad : Dir → Name → Type 0) (old new : Dir) → IsTrue ghosts.tells → new ≡ old → ((name : Name) → May name → Bad old name → ⊥) → NamesDamaged ghosts May (Bad new) r
    → IfErr r (λ e. OnDamaged e (λ _. ⊥))
none_after ghosts r May Bad old new t kept none is = err_both_damaged r May (Bad old) (λ _. ⊥) none is.named (subst (λ (d : Dir). IfErr r (λ e. OnDamaged e (Bad d))) kept (is.damaged t))

-- and if no list has the files that it looks at
pub none_looked : {F T : Type 0} {May : Name → Type 0} {looked : Name → Bool} {old : Dir} (ghosts : Ghosts F) (r : Result T PartError) → IsTrue ghosts.tells → NamesDamaged ghosts May (IsDamagedAmong looked old) r → (dir : Dir) (p : Plain) → Alike looked old dir → IsList dir p
    → IfErr r (λ e. OnDamaged e (λ _. ⊥))
none_looked {looked = looked} {old = old} ghosts r t names dir p alike is = err_damaged r (IsDamagedAmong looked old) (λ _. ⊥) (λ name bad. bad.none dir p alike is) (names.damaged t)

module _ (old dir : Dir) (p : Plain) (is : IsList dir p) where
  -- the mark, and the number of posts
  pub mark_spared : dir mark_name ≡ old mark_name → IsNoMark old → ⊥
  mark_spared same none = none p.mark (record { last = (is.mark).last; issue = (is.mark).issue; text = sym same ∙ (is.mark).text })

  pub count_spared : (name : Name) → same_name name number_name ≡ true → dir number_name ≡ old number_name → IsDamagedOf old Count name → ⊥
  count_spared name e same bad =
      let none = (bad.own (ap is_of_archive (one_name name number_name e))).1 in
      none (length p.posts) (subst (λ (f : Option Text). IsNumberFile f (length p.posts)) same (is.archive).filed.counted)

  -- the file of an address in a ledger
  module _ (set : Set) (x : Text) where
    place_low : bucket_of (key x) < 53
    place_low = mod_below (hash_of (key x)) 53 (omega arith)

    of_ledger : (set : Set) → has_ledger set ≡ true → dir (key_file set (key x)) ≡ old (key_file set (key x)) → IsDamaged old (key_file set (key x)) → ⊥
    of_ledger sets.List has same = let are = is.list_ledger in ledger_agrees old sets.List (bucket_of (key x)) _ has (subst (λ (f : Option Text). IsLedgerFile (bucket_of (key x)) f (are.buckets (bucket_of (key x)))) same (are.files (bucket_of (key x)) place_low))
    of_ledger sets.Digest has same = let are = is.digest_ledger in ledger_agrees old sets.Digest (bucket_of (key x)) _ has (subst (λ (f : Option Text). IsLedgerFile (bucket_of (key x)) f (are.buckets (bucket_of (key x)))) same (are.files (bucket_of (key x)) place_low))
    of_ledger sets.Allow has same = absurd (let bad : false ≡ true = has in cc)
    of_ledger sets.Deny has same = absurd (let bad : false ≡ true = has in cc)
    of_ledger sets.Moderators has same = absurd (let bad : false ≡ true = has in cc)

    pub entry_none : (name : Name) → is_entry_of set x name ≡ true → dir name ≡ old name → IsDamaged old name → ⊥
    entry_none name e =
        let parts = and_parts (has_ledger set) (same_name name (key_file set (key x))) e in
        let named = one_name name (key_file set (key x)) parts.1 in
        subst (λ (n : Name). dir n ≡ old n → IsDamaged old n → ⊥) (sym named) (of_ledger set parts.0)

    -- the files that say whether letters are a member's cookie
    pub signed_none : (name : Name) → is_of_signed set x name ≡ true → dir name ≡ old name → IsDamaged old name → ⊥
    signed_none name e = go (or_cases (is_bucket_of set x name) (same_name name key_name) e)
      where
        go : ((is_bucket_of set x name ≡ true) ⊎ (same_name name key_name ≡ true)) → dir name ≡ old name → IsDamaged old name → ⊥
        go (inl a) = bucket_spared old dir p is set x name a
        go (inr b) = keys_spared old dir p is name b

    -- a bounce of a warning
    pub warning_none : (name : Name) → is_of_warning set x name ≡ true → dir name ≡ old name → IsDamaged old name → ⊥
    warning_none name e = go (or_cases (is_of_signed set x name) (is_entry_of set x name) e)
      where
        go : ((is_of_signed set x name ≡ true) ⊎ (is_entry_of set x name ≡ true)) → dir name ≡ old name → IsDamaged old name → ⊥
        go (inl a) = signed_none name a
        go (inr b) = entry_none name b

  module _ (c : Config) (sender : Text) where
    abbrev own : Set → Name → Bool
    own set name = is_bucket_of set sender name

    -- the members of a set
    pub members_none : (set : Set) (name : Name) → is_of_members c sender set name ≡ true → dir name ≡ old name → IsDamaged old name → ⊥
    members_none set name e = last (or_cases ((c.flags.l && own sets.Moderators name) || is_bucket set name) (same_name name ids_name) e)
      where
        first : (((c.flags.l && own sets.Moderators name) ≡ true) ⊎ (is_bucket set name ≡ true)) → dir name ≡ old name → IsDamaged old name → ⊥
        first (inl a) = bucket_spared old dir p is sets.Moderators sender name (and_parts c.flags.l (own sets.Moderators name) a).1
        first (inr b) = buckets_spared old dir p is set name b

        last : ((((c.flags.l && own sets.Moderators name) || is_bucket set name) ≡ true) ⊎ (same_name name ids_name ≡ true)) → dir name ≡ old name → IsDamaged old name → ⊥
        last (inl a) = first (or_cases (c.flags.l && own sets.Moderators name) (is_bucket set name) a)
        last (inr b) = ids_spared old dir p is name b

    -- the files that say whether the archive is open to a sender
    reader_none : (name : Name) → is_of_reader c sender name ≡ true → dir name ≡ old name → IsDamaged old name → ⊥
    reader_none name e = last (or_cases (own sets.Moderators name) (c.flags.g && (own sets.List name || own sets.Digest name)) e)
      where
        first : ((own sets.List name ≡ true) ⊎ (own sets.Digest name ≡ true)) → dir name ≡ old name → IsDamaged old name → ⊥
        first (inl a) = bucket_spared old dir p is sets.List sender name a
        first (inr b) = bucket_spared old dir p is sets.Digest sender name b

        last : ((own sets.Moderators name ≡ true) ⊎ ((c.flags.g && (own sets.List name || own sets.Digest name)) ≡ true)) → dir name ≡ old name → IsDamaged old name → ⊥
        last (inl a) = bucket_spared old dir p is sets.Moderators sender name a
        last (inr b) = first (or_cases (own sets.List name) (own sets.Digest name) (and_parts c.flags.g (own sets.List name || own sets.Digest name) b).1)

    -- a part of the archive, if none of its own files is damaged
    pub part_none : (part : Name → Bool) (asked : Asked) → ((name : Name) → part name ≡ true → IsDamagedOf old asked name → ⊥) → (name : Name) → (is_of_reader c sender name || part name || same_name name ids_name) ≡ true
        → dir name ≡ old name → IsDamagedOf old asked name → ⊥
    part_none part asked none name e = last (or_cases (is_of_reader c sender name || part name) (same_name name ids_name) e)
      where
        first : ((is_of_reader c sender name ≡ true) ⊎ (part name ≡ true)) → dir name ≡ old name → IsDamagedOf old asked name → ⊥
        first (inl a) = λ same bad. reader_none name a same bad.damaged
        first (inr b) = λ same bad. none name b bad

        last : (((is_of_reader c sender name || part name) ≡ true) ⊎ (same_name name ids_name ≡ true)) → dir name ≡ old name → IsDamagedOf old asked name → ⊥
        last (inl a) = first (or_cases (is_of_reader c sender name) (part name) a)
        last (inr b) = λ same bad. ids_spared old dir p is name b same bad.damaged
