-- Which files are damaged, from what the calls of the parts say.
use Rattle.std.proofs.Common.{◌≡◌, ◌<◌, ⊎_elim, ap, Bool, true, false, length, IsTrue, IfErr, IfOk, Result, Ok, Err, sym, subst, refl, arith}
use Rattle.std.proofs.lemmas.Bool.{and_from, eq-eqb, lt-ltb}
use Rattle.std.proofs.lemmas.Nat.{mod_below}
use Rattle.ml_base.specs.Address.{key}
use Rattle.ml_base.specs.Bytes.{Text}
use Rattle.ml_base.specs.Dir.{Dir, same_name}
use Rattle.ml_base.specs.Hash.{hash_of}
use Rattle.ml_base.specs.Name.{set_kind}
use Rattle.ml_base.specs.PartErrors.{OnDamaged}
use Rattle.ml_base.specs.ReadFiles.{NamesDamaged}
use Rattle.ml_base.specs.declared.files.Files.{Ghosts}
use Rattle.ml_base.specs.declared.names.Name.{Name}
use Rattle.ml_base.specs.declared.names.Set.{Set}
use Rattle.ml_base.specs.declared.names.Set.TheVariants as sets
use Rattle.ml_base.specs.declared.part_error.PartError.{PartError}
use Rattle.ml_base.specs.declared.part_error.PartError.TheVariants.{Fault, Memory, Damaged}
use Rattle.ml_base.proofs.DamagedNames.{err_damaged, err_both_damaged}
use Rattle.ml_filing.specs.Archive.{number_name}
use Rattle.ml_filing.specs.Threads.{IsArchive}
use Rattle.ml_filing.proofs.Exact.{count_one}
use Rattle.ml_bounce.specs.Answers.{has_ledger, IsBadFile, IsNoFile, key_file}
use Rattle.ml_bounce.specs.Files.{bucket_of}
use Rattle.ml_config.specs.ConfigFile.{config_name}
use Rattle.ml_config.proofs.OneSpelling.{one_in_file}
use Rattle.ml_config.specs.KeyFile.{key_name}
use Rattle.ml_config.specs.declared.configuration.Config.{Config}
use Rattle.ml_digest.specs.declared.posts.Mark.{Mark}
use Rattle.ml_digest.proofs.Marks.{mark_one}
use Rattle.ml_hold.proofs.OfFiles as held
use Rattle.ml_queue.proofs.OfFiles as queues
use Rattle.ml_subs.specs.Subscribers.{IsBadBucket, IsBucketName, IsNoBucket, IsUnread, bucket_name, is_touched}
use Rattle.ml_subs.proofs.Answering.{unread}
use Rattle.ml_plain.specs.Directory.{IsList}
use Rattle.ml_plain.specs.Plain.{Plain}
use Rattle.ml_acts.specs.Doing.{is_bucket, is_bucket_of, is_entry_of}
use Rattle.ml_acts.specs.Damaged.{IsDamaged, IsNoKeys}
use Rattle.ml_acts.specs.Damaged as damage

-- no file of a list is damaged
pub none_damaged : (dir : Dir) (p : Plain) (name : Name) → IsList dir p → IsDamaged dir name → ⊥
none_damaged dir p name is (damage.keys e none) = none p.keys is.keys
none_damaged dir p name is (damage.bucket set bad) = bad.3 ((is.sets set).members.buckets bad.0) ((is.sets set).members.files bad.0 bad.1)
none_damaged dir p name is (damage.count set e none) = none (length (p.sets set)) (omega arith) (is.sets set).few (is.sets set).counted
none_damaged dir p name is (damage.change set k has bad) = unread dir set k has name (p.sets set) bad (is.sets set)
none_damaged dir p name is (damage.ledger set has bad) = there set has bad
  where
    there : (set : Set) → IsTrue (has_ledger set) → IsBadFile dir set name → ⊥
    there sets.List has bad = bad.3 _ ((is.list_ledger).files bad.0 bad.1)
    there sets.Digest has bad = bad.3 _ ((is.digest_ledger).files bad.0 bad.1)
    there sets.Allow has bad = absurd (let no : false ≡ true = has in cc)
    there sets.Deny has bad = absurd (let no : false ≡ true = has in cc)
    there sets.Moderators has bad = absurd (let no : false ≡ true = has in cc)
none_damaged dir p name is (damage.queued bad) = queues.broken dir name p.queue bad is.queue
none_damaged dir p name is (damage.waiting bad) = held.broken dir name p.held bad is.held
none_damaged dir p name is (damage.mark e none) = none p.mark is.mark
none_damaged dir p name is (damage.ahead mark count e file counted over) =
    let one_mark : mark ≡ p.mark = mark_one dir mark p.mark file is.mark in
    let one_count : count ≡ length p.posts = count_one (dir number_name) count (length p.posts) counted (is.archive).filed.counted in
    ⊎_elim (λ (beyond : count < mark.last). let last = ap (λ (m : Mark). m.last) one_mark in let digested = is.digested in omega (arith, beyond, last, one_count, digested))
    (λ (more : mark.last < mark.issue). let last = ap (λ (m : Mark). m.last) one_mark in let issue = ap (λ (m : Mark). m.issue) one_mark in let issued = is.issued in omega (arith, more, last, issue, issued)) over
none_damaged dir p name is (damage.number e none) = none (length p.posts) (is.archive).filed.counted
none_damaged dir p name is (damage.index group e none empty) = empty p.posts (is.archive).filed
none_damaged dir p name is (damage.post n bad empty) = empty p.posts (is.archive).filed
none_damaged dir p name is (damage.range a b bad empty) = empty p.posts (is.archive).filed
none_damaged dir p name is (damage.thread c n file bad empty) =
    empty p.posts (subst (λ (d : Config). IsArchive dir d.prefix p.posts) (one_in_file (dir config_name) p.config c is.config file) is.archive)
none_damaged dir p name is (damage.append bad empty) = empty p.config.prefix p.posts is.archive

pub same_self : (name : Name) → same_name name name ≡ true
same_self name = and_from _ _ (eq-eqb name.kind name.kind refl) (eq-eqb name.at name.at refl)

-- a call that names nothing as damaged, whatever is there
pub on_all : {A : Type 0} (e : PartError) (P : A → Type 0) → ((a : A) → P a → OnDamaged e (λ _. ⊥)) → OnDamaged e (λ _. (a : A) → P a → ⊥)
on_all Fault P h = tt
on_all Memory P h = tt
on_all (Damaged name) P h = h

pub err_all : {A T : Type 0} (r : Result T PartError) (P : A → Type 0) → ((a : A) → P a → IfErr r (λ e. OnDamaged e (λ _. ⊥))) → IfErr r (λ e. OnDamaged e (λ _. (a : A) → P a → ⊥))
err_all (Ok x) P h = tt
err_all (Err e) P h = on_all e P h

module _ {F T : Type 0} (ghosts : Ghosts F) (May : Name → Type 0) (r : Result T PartError) where
  -- a call that may name fewer files
  pub fewer_named : (Few Worse : Name → Type 0) → ((name : Name) → Few name → May name) → NamesDamaged ghosts Few Worse r → NamesDamaged ghosts May Worse r
  fewer_named Few Worse may is = record { named = err_damaged r Few May may is.named; damaged = is.damaged }

  -- the same in other terms
  pub named_so : (Few Bad Worse : Name → Type 0) → ((name : Name) → Few name → May name) → ((name : Name) → Few name → Bad name → Worse name) → NamesDamaged ghosts Few Bad r → NamesDamaged ghosts May Worse r
  named_so Few Bad Worse may worse is = record {
    named = err_damaged r Few May may is.named;
    damaged = λ t. err_both_damaged r Few Bad Worse worse is.named (is.damaged t);
  }

  -- a call that names none if there is a value of its part
  pub named_of : {A : Type 0} (P : A → Type 0) (Few Bad Worse : Name → Type 0) → ((name : Name) → Few name → May name) → ((name : Name) → Bad name → ((a : A) → P a → ⊥) → Worse name)
      → (IsTrue ghosts.tells → (a : A) → P a → IfErr r (λ e. OnDamaged e (λ _. ⊥))) → NamesDamaged ghosts Few Bad r → NamesDamaged ghosts May Worse r
  named_of {A = A} P Few Bad Worse may worse sound is = record {
    named = err_damaged r Few May may is.named;
    damaged = λ t. err_both_damaged r Bad (λ _. (a : A) → P a → ⊥) Worse worse (is.damaged t) (err_all r P (sound t));
  }

  module _ (dir : Dir) where
    -- the keys
    pub keys_named : May key_name → NamesDamaged ghosts (λ name. name ≡ key_name) (λ _. IsNoKeys dir) r → NamesDamaged ghosts May (IsDamaged dir) r
    keys_named may is = named_so (λ name. name ≡ key_name) (λ _. IsNoKeys dir) (IsDamaged dir) (λ name e. subst May (sym e) may) (λ name e no. damage.keys e no) is

    -- the one bucket of an address
    pub bucket_named : (set : Set) (who : Text) → ((name : Name) → is_bucket_of set who name ≡ true → May name)
        → NamesDamaged ghosts (λ name. name ≡ bucket_name set (bucket_of (key who))) (λ _. IsNoBucket dir set (bucket_of (key who))) r → NamesDamaged ghosts May (IsDamaged dir) r
    bucket_named set who may is =
        let n = bucket_of (key who) in
        named_so (λ name. name ≡ bucket_name set n) (λ _. IsNoBucket dir set n) (IsDamaged dir)
        (λ name e. may name (subst (λ (a : Name). is_bucket_of set who a ≡ true) (sym e) (same_self (bucket_name set n))))
        (λ name e no. damage.bucket set (n, mod_below (hash_of (key who)) 53 (omega arith), e, no)) is

    -- a change of an address in a set
    pub change_named : (set : Set) (k : Text) (has : Bool) → ((name : Name) → is_touched set k name ≡ true → May name)
        → NamesDamaged ghosts (λ name. is_touched set k name ≡ true) (IsUnread dir set k has) r → NamesDamaged ghosts May (IsDamaged dir) r
    change_named set k has may is = named_so (λ name. is_touched set k name ≡ true) (IsUnread dir set k has) (IsDamaged dir) may (λ name e bad. damage.change set k has bad) is

    -- the members of a set
    pub members_named : (set : Set) → ((name : Name) → is_bucket set name ≡ true → May name) → NamesDamaged ghosts (IsBucketName set) (IsBadBucket dir set) r → NamesDamaged ghosts May (IsDamaged dir) r
    members_named set may is =
        named_so (IsBucketName set) (IsBadBucket dir set) (IsDamaged dir)
        (λ name found. may name (subst (λ (a : Name). is_bucket set a ≡ true) (sym found.2) (and_from _ _ (eq-eqb (set_kind set) (set_kind set) refl) (lt-ltb found.0 53 found.1))))
        (λ name found bad. damage.bucket set bad) is

    -- the file of an address in a set's ledger
    pub entry_named : (set : Set) (who : Text) → IsTrue (has_ledger set) → ((name : Name) → is_entry_of set who name ≡ true → May name)
        → NamesDamaged ghosts (λ name. name ≡ key_file set (key who)) (λ _. IsNoFile dir set (bucket_of (key who))) r → NamesDamaged ghosts May (IsDamaged dir) r
    entry_named set who has may is =
        named_so (λ name. name ≡ key_file set (key who)) (λ _. IsNoFile dir set (bucket_of (key who))) (IsDamaged dir)
        (λ name e. may name (and_from _ _ has (subst (λ (a : Name). same_name a (key_file set (key who)) ≡ true) (sym e) (same_self (key_file set (key who))))))
        (λ name e no. damage.ledger set has (bucket_of (key who), mod_below (hash_of (key who)) 53 (omega arith), e, no)) is

-- an answer with one property has another
pub ok_then : {T : Type 0} {P Q : T → Type 0} (r : Result T PartError) → ((x : T) → P x → Q x) → IfOk r P → IfOk r Q
ok_then (Ok x) f is = f x is
ok_then (Err e) f is = tt
