-- A file that a list has too isn't damaged.
use Rattle.std.proofs.Common.{◌≡◌, ◌⊎◌, inl, inr, ◌==◌, ◌<◌, ℕ, true, Option, arith, ap, sym, subst}
use Rattle.std.specs.Prelude.{nat_lt}
use Rattle.std.proofs.lemmas.Bool.{and_parts, eqb-true, ltb-true, or_cases}
use Rattle.std.proofs.lemmas.Nat.{mod_below}
use Rattle.ml_base.specs.Address.{key}
use Rattle.ml_base.specs.Bytes.{Text}
use Rattle.ml_base.specs.Dir.{Dir, same_name}
use Rattle.ml_base.specs.Drawn.{IsCounter}
use Rattle.ml_base.specs.Hash.{hash_of}
use Rattle.ml_base.specs.Name.{set_kind}
use Rattle.ml_base.specs.declared.names.Name.{Name}
use Rattle.ml_base.specs.declared.names.Set.{Set}
use Rattle.ml_base.proofs.Bools.{one_name}
use Rattle.ml_config.specs.KeyFile.{IsKeyFile, key_name}
use Rattle.ml_hold.specs.Answers.{tickets_name}
use Rattle.ml_queue.specs.Answers.{ids_name}
use Rattle.ml_subs.specs.Buckets.{IsBucketFile, bucket_of}
use Rattle.ml_subs.specs.Subscribers.{bucket_name}
use Rattle.ml_plain.specs.Directory.{IsList}
use Rattle.ml_plain.specs.Plain.{Plain}
use Rattle.ml_acts.specs.Damaged.{IsDamaged}
use Rattle.ml_acts.specs.Doing.{is_bucket, is_bucket_of, is_mailed_by}
use Rattle.ml_acts.proofs.Agreeing.{bucket_agrees, ids_agree, keys_agree, tickets_agree}

module _ (old dir : Dir) (p : Plain) (is : IsList dir p) where
  bucket_here : (set : Set) (n : ℕ) → n < 53 → dir (bucket_name set n) ≡ old (bucket_name set n) → IsDamaged old (bucket_name set n) → ⊥
  bucket_here set n less same =
      let members = (is.sets set).members in
      bucket_agrees old set n (members.buckets n) (subst (λ (f : Option Text). IsBucketFile n f (members.buckets n)) same (members.files n less))

  -- the same of a name that is the file's
  named : (name that : Name) → name ≡ that → (dir that ≡ old that → IsDamaged old that → ⊥) → dir name ≡ old name → IsDamaged old name → ⊥
  named name that e none = subst (λ (n : Name). dir n ≡ old n → IsDamaged old n → ⊥) (sym e) none

  pub keys_spared : (name : Name) → same_name name key_name ≡ true → dir name ≡ old name → IsDamaged old name → ⊥
  keys_spared name e = named name key_name (one_name name key_name e) (λ same. keys_agree old p.keys (subst (λ (f : Option Text). IsKeyFile f p.keys) same is.keys))

  pub tickets_spared : (name : Name) → same_name name tickets_name ≡ true → dir name ≡ old name → IsDamaged old name → ⊥
  tickets_spared name e =
      named name tickets_name (one_name name tickets_name e)
      (λ same. tickets_agree old (is.held).low p.held.next (subst (λ (f : Option Text). IsCounter f (is.held).low p.held.next) same (is.held).counted))

  pub ids_spared : (name : Name) → same_name name ids_name ≡ true → dir name ≡ old name → IsDamaged old name → ⊥
  ids_spared name e =
      named name ids_name (one_name name ids_name e)
      (λ same. ids_agree old (is.queue).low p.queue.next (subst (λ (f : Option Text). IsCounter f (is.queue).low p.queue.next) same (is.queue).counted))

  module _ (set : Set) where
    -- the one bucket of an address
    pub bucket_spared : (who : Text) (name : Name) → is_bucket_of set who name ≡ true → dir name ≡ old name → IsDamaged old name → ⊥
    bucket_spared who name e =
        let n = bucket_of (key who) in
        named name (bucket_name set n) (one_name name (bucket_name set n) e) (bucket_here set n (mod_below (hash_of (key who)) 53 (omega arith)))

    -- all of them
    pub buckets_spared : (name : Name) → is_bucket set name ≡ true → dir name ≡ old name → IsDamaged old name → ⊥
    buckets_spared name e =
        let parts = and_parts (name.kind == set_kind set) (nat_lt name.at 53) e in
        named name (bucket_name set name.at) (ap (λ (k : ℕ). let n : Name = record { kind = k; at = name.at } in n) (eqb-true name.kind (set_kind set) parts.0))
        (bucket_here set name.at (ltb-true name.at 53 parts.1))

    -- what is read for a mail to the set
    pub mailed_spared : (name : Name) → is_mailed_by set name ≡ true → dir name ≡ old name → IsDamaged old name → ⊥
    mailed_spared name e = go (or_cases (is_bucket set name) (same_name name ids_name) e)
      where
        go : ((is_bucket set name ≡ true) ⊎ (same_name name ids_name ≡ true)) → dir name ≡ old name → IsDamaged old name → ⊥
        go (inl b) = buckets_spared name b
        go (inr c) = ids_spared name c
