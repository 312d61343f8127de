-- Which files are named as damaged when bounces are followed up.
use Rattle.std.proofs.Common.{◌≡◌, ◌<◌, true, false, eqb, ltb, ◌||◌, refl, sym, subst, arith}
use Rattle.std.proofs.lemmas.Bool.{and_parts, and_from, eq-eqb, eqb-true, lt-ltb, or_left, or_right}
use Rattle.std.proofs.lemmas.Nat.{mod_below}
use Rattle.ml_base.specs.Address.{key}
use Rattle.ml_base.specs.Bytes.{Text}
use Rattle.ml_base.specs.Dir.{same_name}
use Rattle.ml_base.specs.Hash.{hash_of}
use Rattle.ml_base.specs.Name.{set_kind}
use Rattle.ml_base.specs.declared.names.Name.{Name}
use Rattle.ml_base.specs.declared.names.Set.{Set}
use Rattle.ml_base.specs.declared.names.Set.TheVariants as sets
use Rattle.ml_bounce.specs.Answers.{IsFileName, has_ledger, key_file, ledger_kind}
use Rattle.ml_bounce.specs.Files.{bucket_of}
use Rattle.ml_config.specs.KeyFile.{key_name}
use Rattle.ml_queue.specs.Answers.{ids_name}
use Rattle.ml_acts.specs.Doing.{is_bucket, is_bucket_of, is_entry_of}
use Rattle.ml_timed.specs.Reads.{is_followed_by, is_ledger, is_of_following}

pub in_ledger : (set : Set) (name : Name) → is_ledger set name ≡ true → is_followed_by set name ≡ true
in_ledger set name e = or_left (is_ledger set name || is_bucket set name) (same_name name ids_name) (or_left (is_ledger set name) (is_bucket set name) e)

-- the file of an address in a set's ledger
pub entry_followed : (set : Set) (who : Text) (name : Name) → is_entry_of set who name ≡ true → is_followed_by set name ≡ true
entry_followed set who name e =
    let same = (and_parts (has_ledger set) (same_name name (key_file set (key who))) e).1 in
    let parts = and_parts (eqb name.kind (ledger_kind set)) (eqb name.at (bucket_of (key who))) same in
    let at = eqb-true name.at (bucket_of (key who)) parts.1 in
    let few : bucket_of (key who) < 53 = mod_below (hash_of (key who)) 53 (omega arith) in
    in_ledger set name (and_from (eqb name.kind (ledger_kind set)) (ltb name.at 53) parts.0 (lt-ltb name.at 53 (omega (arith, at, few))))

-- the bucket of an address
pub bucket_followed : (set : Set) (who : Text) (name : Name) → is_bucket_of set who name ≡ true → is_followed_by set name ≡ true
bucket_followed set who name e =
    let parts = and_parts (eqb name.kind (set_kind set)) (eqb name.at (bucket_of (key who))) e in
    let at = eqb-true name.at (bucket_of (key who)) parts.1 in
    let few : bucket_of (key who) < 53 = mod_below (hash_of (key who)) 53 (omega arith) in
    or_left (is_ledger set name || is_bucket set name) (same_name name ids_name)
    (or_right (is_ledger set name) (is_bucket set name) (and_from (eqb name.kind (set_kind set)) (ltb name.at 53) parts.0 (lt-ltb name.at 53 (omega (arith, at, few)))))

-- the counter of ids
pub ids_followed : (set : Set) (name : Name) → same_name name ids_name ≡ true → is_followed_by set name ≡ true
ids_followed set name e = or_right (is_ledger set name || is_bucket set name) (same_name name ids_name) e

-- those of either set are those of both
pub followed_of : (set : Set) → has_ledger set ≡ true → (name : Name) → is_followed_by set name ≡ true → is_of_following name ≡ true
followed_of sets.List has name e =
    or_left (same_name name key_name || is_followed_by sets.List name) (is_followed_by sets.Digest name) (or_right (same_name name key_name) (is_followed_by sets.List name) e)
followed_of sets.Digest has name e =
    or_right (same_name name key_name || is_followed_by sets.List name) (is_followed_by sets.Digest name) e
followed_of sets.Allow has name e = absurd (let bad : false ≡ true = has in cc)
followed_of sets.Deny has name e = absurd (let bad : false ≡ true = has in cc)
followed_of sets.Moderators has name e = absurd (let bad : false ≡ true = has in cc)

-- the 53 files of a ledger
file_followed : (set : Set) (name : Name) → IsFileName set name → is_followed_by set name ≡ true
file_followed set name file =
    in_ledger set name
    (subst (λ (a : Name). is_ledger set a ≡ true) (sym file.2) (and_from (eqb (ledger_kind set) (ledger_kind set)) (ltb file.0 53) (eq-eqb (ledger_kind set) (ledger_kind set) refl) (lt-ltb file.0 53 file.1)))

pub ledger_read : (set : Set) → has_ledger set ≡ true → (name : Name) → IsFileName set name → is_of_following name ≡ true
ledger_read set has name file = followed_of set has name (file_followed set name file)
